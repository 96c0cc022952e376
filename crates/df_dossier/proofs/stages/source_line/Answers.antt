use Rattle.std.proofs.Common.{◌≡◌, sym, ap, ◌∙◌, arith}
use Rattle.df_dossier.specs.Dossiers.{source_lines}
use Rattle.df_dossier.proofs.SpentSteps.{source_said}
use Rattle.df_dossier.proofs.stages.source_line.Goals as goal

pub returns-in-Ok-clause-goes : goal.returns-in-Ok-clause-goes
returns-in-Ok-clause-goes c = λ lines.
    let s = c.args.source in
    let last : s.left ≡ 1 = omega (arith, c.requires.place.more, c.if-left-gt1.false) in
    source_said s.rules s.at s.text c.args.number c.args.line.now lines s.left c.in-Ok.problem last (ap source_lines (sym c.in_ok-text.ensures) ∙ c.in-Ok.ensures)
