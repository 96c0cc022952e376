use Rattle.std.proofs.Common.{◌≡◌, Bool, true, false, not, bytes_eq, codes, Err, sym, ap, subst, refl, ◌∙◌}
use Rattle.df_io.specs.Lines.{left}
use Rattle.df_dossier.specs.declared.paths.PathRead.{PathRead}
use Rattle.df_dossier.specs.declared.spent.SpentError.{SpentError}
use Rattle.df_dossier.specs.declared.stages.Stage.TheVariants as stage
use Rattle.df_dossier.specs.Reads.{ReadsPath}
use Rattle.df_dossier.specs.Spent.{GoesOn}
use Rattle.df_dossier.proofs.PathTests.{path_said, path_none}
use Rattle.df_dossier.proofs.SpentSteps.{start_said, start_refused}
use Rattle.df_dossier.proofs.stages.from_line.Goals as goal

not_false : (b : Bool) → false ≡ not b → b ≡ true
not_false true is = refl
not_false false is = absurd (cc)

pub returns-in-Ok-clause-goes : goal.returns-in-Ok-clause-goes
returns-in-Ok-clause-goes c = λ lines.
    let a = c.args in
    let are = sym c.new.ensures.left ∙ c.in-Some.ensures in
    let first : bytes_eq c.in-Some.word.now (codes "from") ≡ true = ap (λ w. bytes_eq c.in-Some.word.now w) (sym c.as_slice.ensures) ∙ not_false _ c.if-ne.ensures in
    start_said a.rules a.problem a.number a.line.now lines c.in-Some.word.now (left c.next_token.new.self) c.in-Ok.field-0 are first (path_said a.line.now c.in-Ok.field-0 c.in-Ok.ensures)

pub returns-in-Err-Bad-clause-goes : goal.returns-in-Err-Bad-clause-goes
returns-in-Err-Bad-clause-goes c =
    let a = c.args in
    let are = sym c.new.ensures.left ∙ c.in-Some.ensures in
    let first : bytes_eq c.in-Some.word.now (codes "from") ≡ true = ap (λ w. bytes_eq c.in-Some.word.now w) (sym c.as_slice.ensures) ∙ not_false _ c.if-ne.ensures in
    let none = path_none a.line.now (subst (λ (r : PathRead). ReadsPath a.line.now (Err r)) c.in-Err-Bad.field-0-is c.in-Err-Bad.ensures) in
    subst (λ (e : SpentError). GoesOn (stage.From a.rules a.problem) a.number a.line.now (Err e)) (sym c.refused-in-Err-Bad.ensures) (λ lines.
    start_refused a.rules a.problem a.number a.line.now lines c.in-Some.word.now (left c.next_token.new.self) are first none)
