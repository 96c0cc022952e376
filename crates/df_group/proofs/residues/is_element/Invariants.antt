use Rattle.std.proofs.Common.{ℕ, ◌<◌, get_or}
use Rattle.df_group.proofs.residues.is_element.Given as goal

abbrev pub invariant-loop-i : goal.invariant-loop-i
invariant-loop-i l = (k : ℕ) → k < l.i → get_or l.residues k 0 < get_or l.factors k 0
