-- What a vector that keeps the decisions makes of a row.
use Rattle.std.proofs.Common.{◌≡◌, ℕ, ◌+◌, ◌≤◌, Bool, true, false, List, [], ◌∷◌, Some, None, refl, arith}
use Rattle.std.proofs.lemmas.Bool.{false≢true}
use Rattle.df_walk.specs.Assignments.{Decisions, taken, cap}
use Rattle.df_walk.specs.Solutions.{keeps, product}

-- at least what is taken
pub taken_le : (es : List ℕ) (ds : Decisions) (x : List Bool) → keeps ds x ≡ true → taken es ds ≤ product es x
taken_le es [] x k = omega arith
taken_le [] (d ∷ ds) x k = omega arith
taken_le (e ∷ es) (d ∷ ds) [] k = absurd (false≢true k)
taken_le (e ∷ es) (None ∷ ds) (true ∷ x) k = omega (arith, taken_le es ds x k)
taken_le (e ∷ es) (None ∷ ds) (false ∷ x) k = taken_le es ds x k
taken_le (e ∷ es) (Some true ∷ ds) (true ∷ x) k = omega (arith, taken_le es ds x k)
taken_le (e ∷ es) (Some true ∷ ds) (false ∷ x) k = absurd (false≢true k)
taken_le (e ∷ es) (Some false ∷ ds) (true ∷ x) k = absurd (false≢true k)
taken_le (e ∷ es) (Some false ∷ ds) (false ∷ x) k = taken_le es ds x k

-- at most what is taken and what may come
pub le_cap : (es : List ℕ) (ds : Decisions) (x : List Bool) → keeps ds x ≡ true → product es x ≤ taken es ds + cap es ds
le_cap [] ds [] k = omega arith
le_cap [] ds (b ∷ x) k = omega arith
le_cap (e ∷ es) [] [] k = omega arith
le_cap (e ∷ es) [] (true ∷ x) k = omega (arith, le_cap es [] x refl)
le_cap (e ∷ es) [] (false ∷ x) k = omega (arith, le_cap es [] x refl)
le_cap (e ∷ es) (d ∷ ds) [] k = absurd (false≢true k)
le_cap (e ∷ es) (None ∷ ds) (true ∷ x) k = omega (arith, le_cap es ds x k)
le_cap (e ∷ es) (None ∷ ds) (false ∷ x) k = omega (arith, le_cap es ds x k)
le_cap (e ∷ es) (Some true ∷ ds) (true ∷ x) k = omega (arith, le_cap es ds x k)
le_cap (e ∷ es) (Some true ∷ ds) (false ∷ x) k = absurd (false≢true k)
le_cap (e ∷ es) (Some false ∷ ds) (true ∷ x) k = absurd (false≢true k)
le_cap (e ∷ es) (Some false ∷ ds) (false ∷ x) k = le_cap es ds x k
