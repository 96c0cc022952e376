-- Leaps: runs of further no's through nodes whose yes is over at once.
use Rattle.std.specs.Prelude.{◌≡◌, ◌<◌, ℕ, zero, suc, Bool, true, false, List, [], ◌∷◌, ◌++◌, replicate}
use Rattle.df_walk.specs.declared.Rules.{Rules}
use Rattle.df_walk.specs.declared.Entry.{Entry}
use Rattle.df_walk.specs.declared.Entry.TheVariants.{Branch, Over, Under, Settled, Residue, Cut}
use Rattle.df_walk.specs.Systems.{System}
use Rattle.df_walk.specs.Walks.{Step, entry_at, is_branch}

-- the path branches, and with yes it is over
abbrev pub IsLeap : Rules → System → List Bool → Type 0
IsLeap rules s p = (is_branch (entry_at rules s p) ≡ true) × ((row : ℕ) × (entry_at rules s (p ++ true ∷ []) ≡ Over row))

-- so do the path and its extensions by fewer than n no's
abbrev pub Leaps : Rules → System → List Bool → ℕ → Type 0
Leaps rules s p n = (k : ℕ) → k < n → IsLeap rules s (p ++ replicate k false)

-- the steps that a leap passes: two for each no
abbrev pub leap_steps : Rules → System → List Bool → ℕ → List Step
leap_steps rules s p zero = []
leap_steps rules s p (suc n) = (p, entry_at rules s p) ∷ (p ++ true ∷ [], entry_at rules s (p ++ true ∷ [])) ∷ leap_steps rules s (p ++ false ∷ []) n

-- an entry at which a path is given up: it is over or under, or has a residue
abbrev pub is_leaf : Entry → Bool
is_leaf (Over row) = true
is_leaf (Under row) = true
is_leaf (Residue row m) = true
is_leaf (Branch column) = false
is_leaf Settled = false
is_leaf (Cut ws) = false
