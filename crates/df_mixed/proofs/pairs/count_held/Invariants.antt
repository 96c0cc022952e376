use Rattle.std.proofs.Common.{◌≡◌, ◌≤◌, ℕ, count_by, take}
use Rattle.df_lang.specs.Balance.{holds_both}
use Rattle.df_mixed.proofs.pairs.count_held.Given as goal

abbrev pub invariant-loop-o : goal.invariant-loop-o
invariant-loop-o l = (l.count ≡ count_by (λ (o : ℕ × ℕ). holds_both l.block o.0 o.1) (take l.o-index l.origins)) × (l.count ≤ l.o-index)
