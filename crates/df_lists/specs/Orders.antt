-- Tests of equality, orders, and lists that are sorted by one.
use Rattle.std.specs.Prelude.{◌≡◌, Bool, true, false, List, [], ◌∷◌}
use Rattle.df_lists.specs.Membership.{In}

-- the test is true of equal things alone
pub record IsEquality {X : Type 0} (eq : X → X → Bool) : Type 0 where
  pub same : (x y : X) → eq x y ≡ true → x ≡ y
  pub self : (x : X) → eq x x ≡ true

-- an order: nothing is before itself, what is before is before all later ones, and of two that differ one is before the other
pub record IsOrder {X : Type 0} (before : X → X → Bool) : Type 0 where
  pub unlike : (x : X) → before x x ≡ false
  pub onward : (x y z : X) → before x y ≡ true → before y z ≡ true → before x z ≡ true
  pub either : (x y : X) → before x y ≡ false → before y x ≡ false → x ≡ y

-- each member is before all that follow
abbrev pub IsSorted : {X : Type 0} → (X → X → Bool) → List X → Type 0
IsSorted before [] = Unit {0}
IsSorted {X} before (x ∷ xs) = ((y : X) → In xs y → before x y ≡ true) × IsSorted before xs
