-- Sets of numbers below a bound.
use Rattle.std.proofs.Common.{ℕ, ◌+◌, ◌<◌, List, [], ◌∷◌}
use Rattle.df_io.specs.Joined.{Each}
use Rattle.df_lists.specs.NumberSets.{IsSet, Rises}

rises_below : (low v : ℕ) (b : List ℕ) → Rises low v b → Each (λ p. p < v) b
rises_below low v [] is = tt
rises_below low v (p ∷ b) is = (is.1, rises_below (p + 1) v b is.2)

pub set_below : (v : ℕ) (b : List ℕ) → IsSet v b → Each (λ p. p < v) b
set_below v b is = rises_below 0 v b is
