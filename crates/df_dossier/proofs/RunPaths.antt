-- The yes columns of a path increase and are below its length.
use Rattle.std.proofs.Common.{◌≡◌, ℕ, zero, suc, ◌+◌, ◌<◌, ◌≤◌, Bool, true, false, Some, List, [], ◌∷◌, length, map, All, arith}
use Rattle.std.specs.List.Sorted.{IsStrictlyIncreasing}
use Rattle.df_walk.specs.Solutions.{yes_columns_from, chosen_columns}
use Rattle.df_dossier.specs.RunPaths.{PathsMayStand}

-- the numbers increase from `low` on and are below `high`
abbrev Climb : ℕ → ℕ → List ℕ → Type 0
Climb low high [] = Unit {0}
Climb low high (c ∷ cs) = (low ≤ c) × (c < high) × Climb (c + 1) high cs

climb_later : (low next high : ℕ) (cs : List ℕ) → low ≤ next → Climb next high cs → Climb low high cs
climb_later low next high [] h climb = tt
climb_later low next high (c ∷ cs) h climb = (omega (arith, climb.0, h), climb.1, climb.2)

columns_climb : (low high : ℕ) (p : List Bool) → low + length p ≤ high → Climb low high (yes_columns_from low (map Some p))
columns_climb low high [] h = tt
columns_climb low high (true ∷ p) h = (omega arith, omega (arith, h), columns_climb (low + 1) high p (omega (arith, h)))
columns_climb low high (false ∷ p) h = climb_later low (low + 1) high (yes_columns_from (low + 1) (map Some p)) (omega arith) (columns_climb (low + 1) high p (omega (arith, h)))

climb_within : (low high : ℕ) (cs : List ℕ) → Climb low high cs → All (λ c. c < high) cs
climb_within low high [] climb k d h = absurd (omega (arith, h))
climb_within low high (c ∷ cs) climb zero d h = climb.1
climb_within low high (c ∷ cs) climb (suc k) d h = climb_within (c + 1) high cs climb.2 k d (omega (arith, h))

climb_increasing : (low high : ℕ) (cs : List ℕ) → Climb low high cs → IsStrictlyIncreasing cs
climb_increasing low high [] climb k h = absurd (omega (arith, h))
climb_increasing low high (c ∷ []) climb k h = absurd (omega (arith, h))
climb_increasing low high (c ∷ e ∷ es) climb zero h = let next = climb.2.0 in omega (arith, next)
climb_increasing low high (c ∷ e ∷ es) climb (suc k) h =
    let next : suc k + 1 ≡ suc (k + 1) = omega arith in rw next (climb_increasing (c + 1) high (e ∷ es) climb.2 k (omega (arith, h)))

pub paths_stand : PathsMayStand
paths_stand p short =
    let climb = columns_climb 0 (length p) p (omega arith) in
    record {
      written = record { increasing = climb_increasing 0 (length p) (chosen_columns p) climb; within = climb_within 0 (length p) (chosen_columns p) climb };
      short = short;
    }
