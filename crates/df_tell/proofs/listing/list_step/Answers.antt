use Rattle.std.proofs.Common.{arith, refl}
use Rattle.df_tell.proofs.RunSteps.{finds_pays}
use Rattle.df_tell.proofs.Listings.{finds_listed, passes_listed}
use Rattle.df_tell.proofs.listing.list_step.Goals as goal

pub overflow_add-counts : goal.overflow_add-counts
overflow_add-counts g c = omega (arith, finds_pays c.args.designs.now.search c.next.new.self.search c.args.counts.now.left c.next.new.budget c.in-Design.ensures.turn)

pub returns-in_ok-list_design-in-Design-clause-lists : goal.returns-in_ok-list_design-in-Design-clause-lists
returns-in_ok-list_design-in-Design-clause-lists g c = finds_listed c.requires.search c.next.ensures.problem c.in-Design.ensures.turn refl c.in_ok-list_design-in-Design.ensures

pub returns-in-Spent-clause-lists : goal.returns-in-Spent-clause-lists
returns-in-Spent-clause-lists g c = passes_listed c.requires.search c.next.ensures.problem c.in-Spent.ensures.turn.passes refl

pub returns-in-Finished-clause-lists : goal.returns-in-Finished-clause-lists
returns-in-Finished-clause-lists g c = passes_listed c.requires.search c.next.ensures.problem c.in-Finished.ensures.turn.passes refl
