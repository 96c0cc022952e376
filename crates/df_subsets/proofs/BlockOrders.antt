-- The order of blocks, and all blocks of a size in it.
use Rattle.std.proofs.Common.{◌≡◌, ℕ, suc, zero, ◌+◌, ◌<◌, true, false, ◌&&◌, ◌||◌, map, List, [], ◌∷◌, length, refl, sym, ◌∙◌, subst, inl, inr, ◌⊎◌, arith, eqb, ltb, eq-eqb, ne_eqb, eqb-true, lt-ltb, le-ltb, ltb-true}
use Rattle.std.proofs.lemmas.Bool.{false≢true, and_parts, and_from, or_cases, or_parts, or_left, or_right, cases_order}
use Rattle.std.specs.List.{range_with_len}
use Rattle.std.specs.Ordering.{nat_cmp, is_lt}
use Rattle.std.specs.Cmp.Lexicographic.{slice_cmp}
use Rattle.df_lists.specs.NumberSets.{Rises}
use Rattle.df_subsets.specs.Blocks.{before}
use Rattle.df_subsets.specs.Subsets.{choose, subsets}
use Rattle.df_lists.specs.Orders.{IsOrder, IsSorted}
use Rattle.df_lists.proofs.MemberLaws.{In-map_gives}
use Rattle.df_subsets.proofs.SubsetLists.{choose_inside}
use Rattle.df_lists.proofs.SortedLists.{sorted-append, sorted-map}

before_unlike : (a : List ℕ) → before a a ≡ false
before_unlike [] = refl
before_unlike (p ∷ a) = rw (le-ltb p p (omega arith), eq-eqb p p refl) (before_unlike a)

before_onward : (a b c : List ℕ) → before a b ≡ true → before b c ≡ true → before a c ≡ true
before_onward a b [] h k = absurd (false≢true k)
before_onward a [] (r ∷ c) h k = absurd (false≢true h)
before_onward [] (q ∷ b) (r ∷ c) h k = refl
before_onward (p ∷ a) (q ∷ b) (r ∷ c) h k = go (or_cases (ltb p q) (eqb p q && before a b) h) (or_cases (ltb q r) (eqb q r && before b c) k) (before_onward a b c)
  where
    go : (ltb p q ≡ true) ⊎ ((eqb p q && before a b) ≡ true) → (ltb q r ≡ true) ⊎ ((eqb q r && before b c) ≡ true) → (before a b ≡ true → before b c ≡ true → before a c ≡ true) → (ltb p r || (eqb p r && before a c)) ≡ true
    go (inl x) (inl y) more = or_left (ltb p r) (eqb p r && before a c) (lt-ltb p r (omega (arith, ltb-true p q x, ltb-true q r y)))
    go (inl x) (inr y) more = or_left (ltb p r) (eqb p r && before a c) (lt-ltb p r (omega (arith, ltb-true p q x, eqb-true q r (and_parts (eqb q r) (before b c) y).0)))
    go (inr x) (inl y) more = or_left (ltb p r) (eqb p r && before a c) (lt-ltb p r (omega (arith, ltb-true q r y, eqb-true p q (and_parts (eqb p q) (before a b) x).0)))
    go (inr x) (inr y) more =
        let s = and_parts (eqb p q) (before a b) x in
        let t = and_parts (eqb q r) (before b c) y in
        or_right (ltb p r) (eqb p r && before a c) (and_from (eqb p r) (before a c) (eq-eqb p r (eqb-true p q s.0 ∙ eqb-true q r t.0)) (more s.1 t.1))

before_either : (a b : List ℕ) → before a b ≡ false → before b a ≡ false → a ≡ b
before_either [] [] h k = refl
before_either [] (q ∷ b) h k = absurd (false≢true (sym h))
before_either (p ∷ a) [] h k = absurd (false≢true (sym k))
before_either (p ∷ a) (q ∷ b) h k = go (cases_order p q) (before_either a b)
  where
    go : (p ≡ q) ⊎ ((p < q) ⊎ (q < p)) → (before a b ≡ false → before b a ≡ false → a ≡ b) → p ∷ a ≡ q ∷ b
    go (inl e) more = rw (e, more (rw (eq-eqb p q e) at (or_parts (ltb p q) (eqb p q && before a b) h).1) (rw (eq-eqb q p (sym e)) at (or_parts (ltb q p) (eqb q p && before b a) k).1)) refl
    go (inr (inl l)) more = absurd (false≢true (sym (or_parts (ltb p q) (eqb p q && before a b) h).0 ∙ lt-ltb p q l))
    go (inr (inr l)) more = absurd (false≢true (sym (or_parts (ltb q p) (eqb q p && before b a) k).0 ∙ lt-ltb q p l))

pub lists_ordered : IsOrder before
lists_ordered = record { unlike = before_unlike; onward = before_onward; either = before_either }

-- the order of lists
pub before_is : (a b : List ℕ) → before a b ≡ is_lt (slice_cmp nat_cmp a b)
before_is [] [] = refl
before_is [] (q ∷ b) = refl
before_is (p ∷ a) [] = refl
before_is (p ∷ a) (q ∷ b) = go (cases_order p q) (before_is a b)
  where
    go : (p ≡ q) ⊎ ((p < q) ⊎ (q < p)) → before a b ≡ is_lt (slice_cmp nat_cmp a b) → before (p ∷ a) (q ∷ b) ≡ is_lt (slice_cmp nat_cmp (p ∷ a) (q ∷ b))
    go (inl e) ih = rw (le-ltb p q (omega arith), eq-eqb p q e) ih
    go (inr (inl l)) ih = rw (lt-ltb p q l) refl
    go (inr (inr l)) ih = rw (le-ltb p q (omega arith), ne_eqb p q (λ e. absurd (omega (arith, e, l)))) refl

pub choose_sorted : (low n k : ℕ) → IsSorted before (choose (range_with_len low n) k)
choose_sorted low n zero = (λ y i. absurd i, tt)
choose_sorted low zero (suc k) = tt
choose_sorted low (suc n) (suc k) =
    sorted-append before (map (λ c. low ∷ c) (choose (range_with_len (low + 1) n) k)) (choose (range_with_len (low + 1) n) (suc k))
    (sorted-map before before (λ c. low ∷ c) (choose (range_with_len (low + 1) n) k) (λ a b h. or_right (ltb low low) (eqb low low && before a b) (and_from (eqb low low) (before a b) (eq-eqb low low refl) h)) (choose_sorted (low + 1) n k))
    (choose_sorted (low + 1) n (suc k))
    (λ a b i j. let r = In-map_gives (λ c. low ∷ c) (choose (range_with_len (low + 1) n) k) a i in subst (λ a. before a b ≡ true) r.2 (first r.0 b (choose_inside (low + 1) n (suc k) b j)))
  where
    first : (c b : List ℕ) → Rises (low + 1) (low + 1 + n) b × (length b ≡ suc k) → before (low ∷ c) b ≡ true
    first c [] r = absurd (omega (arith, r.1))
    first c (q ∷ b) r = or_left (ltb low q) (eqb low q && before c b) (lt-ltb low q (omega (arith, r.0.0)))

pub subsets_sorted : (v k : ℕ) → IsSorted before (subsets v k)
subsets_sorted v k = choose_sorted 0 v k
