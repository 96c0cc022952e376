-- Blocks: sets of points, as increasing lists.
use Rattle.std.specs.Prelude.{◌==◌, ℕ, Bool, true, false, not, ◌&&◌, ◌||◌, List, [], ◌∷◌, nat_lt}
use Rattle.df_lists.specs.NumberSets.{has_member}

-- each listed point lies below v, and none is listed twice
abbrev pub are_apart : ℕ → List ℕ → Bool
are_apart v [] = true
are_apart v (p ∷ ps) = nat_lt p v && not (has_member ps p) && are_apart v ps

-- blocks are compared as lists, a proper prefix first
abbrev pub before : List ℕ → List ℕ → Bool
before a [] = false
before [] (q ∷ b) = true
before (p ∷ a) (q ∷ b) = nat_lt p q || (p == q && before a b)
