use Rattle.std.proofs.Common.{◌≡◌, [], length}
use Rattle.df_io.specs.Lines.{left}
use Rattle.df_group.specs.Subgroups.{exponent_of}
use Rattle.df_lang.specs.Values.{mults_from}
use Rattle.df_lang.proofs.KeptOnce.{AreApart}
use Rattle.df_lang.proofs.multipliers.multipliers.Given as goal

abbrev pub invariant-loop-token : goal.invariant-loop-token
invariant-loop-token l = record {
  value : mults_from (exponent_of l.shape) l.kept.items (left l.tokens) ≡ mults_from (exponent_of l.shape) [] (left l.fn.tokens);
  apart : AreApart (exponent_of l.shape) l.kept.items;
}

abbrev pub decreases-loop-token : goal.decreases-loop-token
decreases-loop-token l = length (left l.tokens)
