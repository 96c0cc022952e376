use Rattle.std.proofs.Common.{arith, refl}
use Rattle.df_tell.proofs.RunSteps.{finds_paid, finds_pays, passes_paid}
use Rattle.df_tell.proofs.workload.count_step.Goals as goal

pub overflow_add-counts : goal.overflow_add-counts
overflow_add-counts g c = omega (arith, finds_pays c.args.designs.now.search c.next.new.self.search c.args.counts.now.left c.next.new.budget c.in-Design.ensures.turn)

pub returns-in-Design-clause-pays : goal.returns-in-Design-clause-pays
returns-in-Design-clause-pays g c = finds_paid c.requires.search c.next.ensures.problem c.in-Design.ensures.turn refl

pub returns-in-Spent-clause-pays : goal.returns-in-Spent-clause-pays
returns-in-Spent-clause-pays g c = passes_paid c.requires.search c.next.ensures.problem c.in-Spent.ensures.turn.passes refl

pub returns-in-Finished-clause-pays : goal.returns-in-Finished-clause-pays
returns-in-Finished-clause-pays g c = passes_paid c.requires.search c.next.ensures.problem c.in-Finished.ensures.turn.passes refl
