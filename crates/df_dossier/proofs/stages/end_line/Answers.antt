use Rattle.std.proofs.Common.{Err, Some, None, option_map, sym, ap, subst, ◌∙◌}
use Rattle.df_dossier.specs.declared.judge.Piece.TheVariants as piece
use Rattle.df_dossier.specs.declared.paths.PathRead.{PathRead}
use Rattle.df_dossier.specs.declared.spent.SpentError.{SpentError}
use Rattle.df_dossier.specs.declared.stages.Stage.TheVariants as stage
use Rattle.df_dossier.specs.Reads.{ReadsPath}
use Rattle.df_dossier.specs.Dossiers.{ending_by, line_path}
use Rattle.df_dossier.specs.Spent.{GoesOn}
use Rattle.df_dossier.proofs.PathTests.{path_said, path_none}
use Rattle.df_dossier.proofs.SpentSteps.{ends, ending_none}
use Rattle.df_dossier.proofs.stages.end_line.Goals as goal

pub returns-in_default : goal.returns-in_default
returns-in_default c =
    let a = c.args in record {
      goes = subst (λ (e : SpentError). GoesOn (stage.Log a.rules a.problem) a.number a.line.now (Err e)) (sym c.refused.ensures) (λ lines. ends a.rules a.problem a.number a.line.now lines a.piece None c.requires (ending_none a.line.now a.piece c.in_default.not-End));
      place = tt;
    }

pub returns-in-Ok-clause-goes : goal.returns-in-Ok-clause-goes
returns-in-Ok-clause-goes c = λ lines.
    let a = c.args in
    let e = c.in-End in
    ends a.rules a.problem a.number a.line.now lines a.piece (Some record { designs = e.designs; nodes = e.nodes; next = Some c.in-Ok.path }) c.requires
    (ap (ending_by line_path a.line.now) (e.is ∙ ap (λ b. piece.End b e.designs e.nodes) c.if-finished.false)
    ∙ ap (option_map (λ w. record { designs = e.designs; nodes = e.nodes; next = Some w })) (path_said a.line.now c.in-Ok.path c.in-Ok.ensures))

pub returns-in-Err-Bad-clause-goes : goal.returns-in-Err-Bad-clause-goes
returns-in-Err-Bad-clause-goes c =
    let a = c.args in
    let e = c.in-End in
    let none = path_none a.line.now (subst (λ (r : PathRead). ReadsPath a.line.now (Err r)) c.in-Err-Bad.field-0-is c.in-Err-Bad.ensures) in
    subst (λ (e : SpentError). GoesOn (stage.Log a.rules a.problem) a.number a.line.now (Err e)) (sym c.refused-in-Err-Bad.ensures) (λ lines.
    ends a.rules a.problem a.number a.line.now lines a.piece None c.requires
    (ap (ending_by line_path a.line.now) (e.is ∙ ap (λ b. piece.End b e.designs e.nodes) c.if-finished.false)
    ∙ ap (option_map (λ w. record { designs = e.designs; nodes = e.nodes; next = Some w })) none))
