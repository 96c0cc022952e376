-- Lists in which each member is related to those after it, taken one member at a time.
use Rattle.std.proofs.Common.{◌≡◌, ◌≢◌, ℕ, ◌+◌, ◌<◌, suc, false, eqb, ltb, List, [], ◌∷◌, ◌++◌, refl, ap, arith, tests}
use Rattle.std.specs.List.{AllPairs}
use Rattle.df_io.specs.Joined.{Each}
use Rattle.df_lists.specs.NumberSets.{has_member, with_member, Rises}
use Rattle.df_lang.proofs.EachMember.{each_from, each_append, each_so}

-- each member is related to each one after it
abbrev pub InOrder : {X : Type 0} → (X → X → Type 0) → List X → Type 0
InOrder R [] = Unit {0}
InOrder R (x ∷ xs) = Each (R x) xs × InOrder R xs

-- each member of the second list comes after all of the first
abbrev pub Follows : {X : Type 0} → (X → X → Type 0) → List X → List X → Type 0
Follows R kept xs = Each (λ x. Each (λ k. R k x) kept) xs

pub follows_none : {X : Type 0} (R : X → X → Type 0) (xs : List X) → Follows R [] xs
follows_none R [] = tt
follows_none R (x ∷ xs) = (tt, follows_none R xs)

pub follows_more : {X : Type 0} (R : X → X → Type 0) (kept : List X) (x : X) (xs : List X) → Each (R x) xs → Follows R kept xs → Follows R (kept ++ x ∷ []) xs
follows_more R kept x [] after follows = tt
follows_more R kept x (y ∷ ys) after follows = (each_append (λ k. R k y) kept (x ∷ []) follows.0 (after.0, tt), follows_more R kept x ys after.1 follows.1)

pub order_from_pairs : {X : Type 0} (R : X → X → Type 0) (xs : List X) → AllPairs R xs → InOrder R xs
order_from_pairs R [] pairs = tt
order_from_pairs R (x ∷ xs) pairs =
    (each_from (R x) xs (λ k d h. pairs 0 (suc k) d (omega arith) (omega (arith, h))), order_from_pairs R xs (λ i j d l h. pairs (suc i) (suc j) d (omega (arith, l)) (omega (arith, h))))

rises_after : (p low v : ℕ) (b : List ℕ) → p < low → Rises low v b → Each (λ q. p < q) b
rises_after p low v [] h rises = tt
rises_after p low v (q ∷ b) h rises = (omega (arith, rises.0), rises_after p (q + 1) v b (omega (arith, rises.0)) rises.2)

pub order_from_rises : (low v : ℕ) (b : List ℕ) → Rises low v b → InOrder (λ p q. p < q) b
order_from_rises low v [] rises = tt
order_from_rises low v (p ∷ b) rises = (rises_after p (p + 1) v b (omega arith) rises.2, order_from_rises (p + 1) v b rises.2)

-- a number above all members of a set is put at its end
pub with_last : (p : ℕ) (points : List ℕ) → Each (λ q. q < p) points → with_member p points ≡ points ++ p ∷ []
with_last p [] under = refl
with_last p (q ∷ qs) under =
    let ih = with_last p qs under.1 in
    let low = under.0 in
    let less : ltb p q ≡ false = grind (arith, tests) in
    let differs : eqb p q ≡ false = grind (arith, tests) in
    rw (less, differs) (ap (λ l. q ∷ l) ih)

pub not_member : (p : ℕ) (points : List ℕ) → Each (λ q. q ≢ p) points → has_member points p ≡ false
not_member p [] differ = refl
not_member p (q ∷ qs) differ =
    let ne = differ.0 in
    let other : eqb q p ≡ false = grind (arith, tests) in
    rw other (not_member p qs differ.1)

pub last_is_new : (p : ℕ) (points : List ℕ) → Each (λ q. q < p) points → has_member points p ≡ false
last_is_new p points under = not_member p points (each_so (λ q. q < p) (λ q. q ≢ p) points (λ q h. omega (arith, h)) under)
