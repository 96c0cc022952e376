-- Places of lists and their members.
use Rattle.std.proofs.Common.{◌≡◌, ℕ, zero, suc, ◌<◌, List, [], ◌∷◌, length, get_or, refl, inl, inr, arith, All, set, slice_get, Some, subst}
use Rattle.std.proofs.lemmas.Option.{same_Some}
use Rattle.df_lists.specs.Membership.{In}

-- what stands at a place is a member
pub In-get_or : {X : Type 0} (xs : List X) (i : ℕ) (d : X) → i < length xs → In xs (get_or xs i d)
In-get_or [] i d h = absurd (omega arith)
In-get_or (x ∷ xs) zero d h = inl refl
In-get_or (x ∷ xs) (suc i) d h = inr (In-get_or xs i d (omega arith))

-- a member stands at a place
pub In_place : {X : Type 0} (xs : List X) (x d : X) → In xs x → (i : ℕ) × (i < length xs) × (get_or xs i d ≡ x)
In_place [] x d i = absurd i
In_place (y ∷ xs) x d (inl e) = (0, omega arith, e)
In_place (y ∷ xs) x d (inr i) = let r = In_place xs x d i in (suc r.0, omega (arith, r.1), r.2)

-- what is read at a place is a member
pub In-slice_get : {X : Type 0} (xs : List X) (i : ℕ) (x : X) → slice_get xs i ≡ Some x → In xs x
In-slice_get [] i x e = absurd (let f = e in cc)
In-slice_get (y ∷ ys) zero x e = inl (same_Some y x e)
In-slice_get (y ∷ ys) (suc i) x e = inr (In-slice_get ys i x e)

-- what was put at a place is read there
pub slice_get-set : {X : Type 0} (xs : List X) (i : ℕ) (x y : X) → slice_get xs i ≡ Some x → slice_get (set xs i y) i ≡ Some y
slice_get-set [] i x y h = absurd (let e = h in cc)
slice_get-set (z ∷ xs) zero x y h = refl
slice_get-set (z ∷ xs) (suc i) x y h = slice_get-set xs i x y h

-- what is true at each place is true of each member
pub all_members : {X : Type 0} (P : X → Type 0) (xs : List X) → All P xs → (x : X) → In xs x → P x
all_members P [] all x i = absurd i
all_members P (y ∷ ys) all x (inl e) = subst P e (all 0 x (omega arith))
all_members P (y ∷ ys) all x (inr i) = all_members P ys (λ k d l. all (suc k) d (omega (arith, l))) x i

-- and the other way round
pub All-from_members : {X : Type 0} (P : X → Type 0) (xs : List X) → ((x : X) → In xs x → P x) → All P xs
All-from_members P xs h = λ k d l. h (get_or xs k d) (In-get_or xs k d l)
