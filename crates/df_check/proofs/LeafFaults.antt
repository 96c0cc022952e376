-- When a leaf may have no fault.
use Rattle.std.proofs.Common.{◌≡◌, ℕ, true, [], ◌∷◌, Option, None, refl}
use Rattle.df_walk.specs.Assignments.{Decisions}
use Rattle.df_check.specs.Checkers.{Wants, Logs, Leaf, Failed, leaf_fault_by, is_leaf_wanted}

-- a leaf has no fault only where one is wanted
pub leaf_is_wanted : (differs : Decisions → Option ℕ) (w : Wants) → leaf_fault_by differs w ≡ None → is_leaf_wanted w ≡ true
leaf_is_wanted differs (Logs []) h = absurd (let e = h in cc)
leaf_is_wanted differs (Logs (ds ∷ more)) h = absurd (let e = h in cc)
leaf_is_wanted differs (Leaf ds more) h = refl
leaf_is_wanted differs Failed h = absurd (let e = h in cc)
