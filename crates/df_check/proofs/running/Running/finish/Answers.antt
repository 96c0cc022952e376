use Rattle.std.proofs.Common.{None, refl, ap, ◌∙◌}
use Rattle.df_check.specs.declared.LogFault.TheVariants.{OpenAtEnd}
use Rattle.df_check.specs.Entries.{unless}
use Rattle.df_check.specs.Checkers.{is_closed}
use Rattle.df_check.specs.Judging.{Running}
use Rattle.df_check.proofs.JudgedMoves.{rule_moves}
use Rattle.df_check.proofs.running.Running.finish.Goals as goal

pub returns : goal.returns
returns c =
    rule_moves _ _ _ (λ (r : Running). record r { place = None }) (λ (r : Running). unless (is_closed r.wants) OpenAtEnd) c.args.number c.unless.result c.ruled.result
    c.self.view_is refl (c.unless.ensures ∙ ap (λ b. unless b OpenAtEnd) c.closed-closed.ensures) c.ruled.ensures
