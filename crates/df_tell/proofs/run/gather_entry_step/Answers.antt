use Rattle.std.proofs.Common.{arith, refl, sym, ◌∙◌}
use Rattle.df_tell.proofs.GatheredTexts.{gathers_as}
use Rattle.df_walk.specs.declared.Entry.TheVariants.{Branch, Over, Under, Residue, Settled}
use Rattle.df_tell.proofs.RunSteps.{tells_as, gives_tells, logged_line, logged_solution, chosen_is, stays_tells}
use Rattle.df_tell.proofs.run.gather_entry_step.Goals as goal

pub returns-in-Branch-clause-tells : goal.returns-in-Branch-clause-tells
returns-in-Branch-clause-tells g c =
    let e = Branch c.in-Branch.column in
    tells_as c.goes_on.ensures.same (gives_tells e c.advance.ensures.problem c.in-Branch.ensures.answer (omega arith) (gathers_as (logged_line c.args.shown c.args.problem.now c.advance.new.self.search.path e c.requires.log refl) c.gather_branch.ensures))

pub returns-in-Over-clause-tells : goal.returns-in-Over-clause-tells
returns-in-Over-clause-tells g c =
    let e = Over c.in-Over.row in
    tells_as c.goes_on-in-Over.ensures.same (gives_tells e c.advance.ensures.problem c.in-Over.ensures.answer (omega arith) (gathers_as (logged_line c.args.shown c.args.problem.now c.advance.new.self.search.path e c.requires.log refl) c.gather_over.ensures))

pub returns-in-Under-clause-tells : goal.returns-in-Under-clause-tells
returns-in-Under-clause-tells g c =
    let e = Under c.in-Under.row in
    tells_as c.goes_on-in-Under.ensures.same (gives_tells e c.advance.ensures.problem c.in-Under.ensures.answer (omega arith) (gathers_as (logged_line c.args.shown c.args.problem.now c.advance.new.self.search.path e c.requires.log refl) c.gather_under.ensures))

pub returns-in-Residue-clause-tells : goal.returns-in-Residue-clause-tells
returns-in-Residue-clause-tells g c =
    let e = Residue c.in-Residue.row c.in-Residue.divisor in
    tells_as c.goes_on-in-Residue.ensures.same (gives_tells e c.advance.ensures.problem c.in-Residue.ensures.answer (omega arith) (gathers_as (logged_line c.args.shown c.args.problem.now c.advance.new.self.search.path e c.requires.log refl) c.gather_residue.ensures))

pub returns-in-Spent-clause-tells : goal.returns-in-Spent-clause-tells
returns-in-Spent-clause-tells g c = stays_tells c.advance.ensures.problem c.in-Spent.ensures.answer.same c.in-Spent.ensures.answer.stops.passes refl

pub returns-in-Finished-clause-tells : goal.returns-in-Finished-clause-tells
returns-in-Finished-clause-tells g c =
    let ended = c.in-Finished.ensures.answer in
    stays_tells c.advance.ensures.problem (ended.ends.end ∙ sym ended.none) ended.ends.passes refl

pub returns-in-Solution-clause-tells : goal.returns-in-Solution-clause-tells
returns-in-Solution-clause-tells g c =
    let s = c.args.problem.now in
    let answer = c.in-Solution.ensures.answer in
    tells_as c.goes_on-in-Solution.ensures.same (gives_tells Settled c.advance.ensures.problem answer.gives (omega arith)
    (gathers_as (logged_solution c.args.shown s c.advance.new.self.search.path c.advance.new.self.search.chosen c.requires.log (chosen_is s c.args.designs.now c.advance.new.self c.args.counts.now.left c.advance.new.budget c.requires.search answer.finds)) c.gather_settled.ensures))
