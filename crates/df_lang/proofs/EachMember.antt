-- What holds of each member of a list.
use Rattle.std.proofs.Common.{ℕ, zero, suc, ◌<◌, List, [], ◌∷◌, ◌++◌, length, map, get_or, All, arith}
use Rattle.std.specs.List.{flat_map}
use Rattle.df_io.specs.Joined.{Each}

pub each_from : {X : Type 0} (P : X → Type 0) (xs : List X) → All P xs → Each P xs
each_from P [] all = tt
each_from P (x ∷ xs) all = (all 0 x (omega arith), each_from P xs (λ k d h. all (suc k) d (omega (arith, h))))

pub each_map : {X Y : Type 0} (P : X → Type 0) (Q : Y → Type 0) (f : X → Y) (xs : List X) → ((x : X) → P x → Q (f x)) → Each P xs → Each Q (map f xs)
each_map P Q f [] so each = tt
each_map P Q f (x ∷ xs) so each = (so x each.0, each_map P Q f xs so each.1)

pub each_so : {X : Type 0} (P Q : X → Type 0) (xs : List X) → ((x : X) → P x → Q x) → Each P xs → Each Q xs
each_so P Q [] so each = tt
each_so P Q (x ∷ xs) so each = (so x each.0, each_so P Q xs so each.1)

pub each_append : {X : Type 0} (P : X → Type 0) (xs ys : List X) → Each P xs → Each P ys → Each P (xs ++ ys)
each_append P [] ys one two = two
each_append P (x ∷ xs) ys one two = (one.0, each_append P xs ys one.1 two)

pub all_from : {X : Type 0} (P : X → Type 0) (xs : List X) → Each P xs → All P xs
all_from P [] each = λ k d h. absurd (omega (arith, h))
all_from {X = X} P (x ∷ xs) each = at (all_from P xs each.1) where
  at : All P xs → (k : ℕ) (d : X) → k < length (x ∷ xs) → P (get_or (x ∷ xs) k d)
  at rest zero d h = each.0
  at rest (suc k) d h = rest k d (omega (arith, h))

pub each_flat_map : {X Y : Type 0} (P : Y → Type 0) (f : X → List Y) → ((x : X) → Each P (f x)) → (xs : List X) → Each P (flat_map f xs)
each_flat_map P f each [] = tt
each_flat_map P f each (x ∷ xs) = each_append P (f x) (flat_map f xs) (each x) (each_flat_map P f each xs)
