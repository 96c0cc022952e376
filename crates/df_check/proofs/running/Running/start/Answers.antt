use Rattle.std.proofs.Common.{ap, subst, ◌∙◌}
use Rattle.df_dossier.specs.declared.judge.DossierFault.TheVariants as fault
use Rattle.df_dossier.specs.Dossiers.{line_path}
use Rattle.df_check.specs.declared.LogFault.TheVariants.{ChainBroken}
use Rattle.df_check.specs.Entries.{unless}
use Rattle.df_check.specs.Judging.{Running, read_or, ruled, with_start, is_place}
use Rattle.df_check.specs.Stops.{Moves}
use Rattle.df_check.proofs.JudgedMoves.{moves_then}
use Rattle.df_check.proofs.running.Running.start.Goals as goal

pub returns : goal.returns
returns c =
    let now = c.args.self.now in
    let number = c.args.number in
    let path = c.in_ok-path.path in
    let faults = c.unless.ensures ∙ ap (λ b. unless b ChainBroken) c.is_place-follows.ensures ∙ ap (λ (r : Running). unless (is_place r.place path) ChainBroken) c.self.view_is in
    moves_then (read_or number fault.BadHead (line_path c.args.line.now)) (with_start now number) path now c.ruled.result c.in_ok-path.ensures
    (subst (λ f. Moves (ruled number f now) now c.ruled.result) faults (c.ruled.ensures now))
