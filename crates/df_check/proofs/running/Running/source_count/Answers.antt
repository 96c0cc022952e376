use Rattle.std.proofs.Common.{length, nat_eq, ap, ◌∙◌}
use Rattle.df_check.specs.declared.LogFault.TheVariants.{SourceDiffers}
use Rattle.df_check.specs.Entries.{unless}
use Rattle.df_check.specs.Judging.{Running}
use Rattle.df_check.proofs.JudgedMoves.{awaited_moves}
use Rattle.df_check.proofs.running.Running.source_count.Goals as goal

pub returns : goal.returns
returns c =
    awaited_moves _ _ c.all-self-inside.result (λ (r : Running). r.source) (λ (r : Running). unless (nat_eq c.args.count (length r.source)) SourceDiffers) c.args.number c.unless.result c.ruled.result
    c.self.view_is c.all-self-inside.ensures (c.unless.ensures ∙ ap (λ n. unless (nat_eq c.args.count n) SourceDiffers) c.line_count.ensures) c.ruled.ensures
