-- Lists that rise strictly: their members, one member more, other bounds.
use Rattle.std.proofs.Common.{◌≡◌, ℕ, suc, zero, ◌+◌, ◌<◌, ◌≤◌, Bool, true, false, cond, ◌||◌, List, [], ◌∷◌, length, filter, refl, sym, ap, ◌∙◌, inl, inr, ◌⊎◌, arith, eqb, eq-eqb, ne_eqb, lt-ltb, le-ltb, get_or, ◌-◌, subst}
use Rattle.std.proofs.lemmas.Bool.{cases_order}
use Rattle.std.specs.List.{range_with_len}
use Rattle.std.specs.List.Sorted.{IsStrictlyIncreasing}
use Rattle.df_lists.specs.Membership.{In}
use Rattle.df_lists.specs.NumberSets.{has_member, with_member, Rises}

-- a lower start, and an end at least as high
pub Rises-wider : (low m v w : ℕ) (b : List ℕ) → low ≤ m → v ≤ w → Rises m v b → Rises low w b
Rises-wider low m v w [] h e r = tt
Rises-wider low m v w (p ∷ b) h e r = (omega (arith, r.0), omega (arith, r.1), Rises-wider (p + 1) (p + 1) v w b (omega arith) e r.2)

-- what a test picks from a range rises
pub Rises-filter : (t : ℕ → Bool) (low n : ℕ) → Rises low (low + n) (filter t (range_with_len low n))
Rises-filter t low zero = tt
Rises-filter t low (suc n) =
    let rest = Rises-filter t (low + 1) n in
    elim (t low) as (λ v. Rises low (low + suc n) (cond v (low ∷ filter t (range_with_len (low + 1) n)) (filter t (range_with_len (low + 1) n)))) [
      | true ↦ (omega arith, omega arith, Rises-wider (low + 1) (low + 1) (low + 1 + n) (low + suc n) (filter t (range_with_len (low + 1) n)) (omega arith) (omega arith) rest)
      | false ↦ Rises-wider low (low + 1) (low + 1 + n) (low + suc n) (filter t (range_with_len (low + 1) n)) (omega arith) (omega arith) rest
    ]

-- no member lies outside
pub none_below : (low v : ℕ) (b : List ℕ) (q : ℕ) → Rises low v b → q < low → has_member b q ≡ false
none_below low v [] q r h = refl
none_below low v (p ∷ b) q r h = rw (ne_eqb p q (λ e. absurd (omega (arith, r.0)))) (none_below (p + 1) v b q r.2 (omega (arith, r.0)))

pub none_above : (low v : ℕ) (b : List ℕ) (q : ℕ) → Rises low v b → v ≤ q → has_member b q ≡ false
none_above low v [] q r h = refl
none_above low v (p ∷ b) q r h = rw (ne_eqb p q (λ e. absurd (omega (arith, r.1)))) (none_above (p + 1) v b q r.2 h)

or_again : (x y : Bool) → (x || y) ≡ (x || (x || y))
or_again true y = refl
or_again false y = refl

or_swap : (x y z : Bool) → (x || (y || z)) ≡ (y || (x || z))
or_swap true true z = refl
or_swap true false z = refl
or_swap false y z = refl

-- the points of a block and one more
pub has_more : (p q : ℕ) (b : List ℕ) → has_member (with_member p b) q ≡ (eqb p q || has_member b q)
has_more p q [] = refl
has_more p q (r ∷ b) = go (cases_order p r) (has_more p q b)
  where
    go : (p ≡ r) ⊎ ((p < r) ⊎ (r < p)) → has_member (with_member p b) q ≡ (eqb p q || has_member b q) → has_member (with_member p (r ∷ b)) q ≡ (eqb p q || has_member (r ∷ b) q)
    go (inl e) ih = rw (le-ltb p r (omega arith), eq-eqb p r e) (or_again (eqb r q) (has_member b q) ∙ ap (λ s. eqb s q || (eqb r q || has_member b q)) (sym e))
    go (inr (inl l)) ih = rw (lt-ltb p r l) refl
    go (inr (inr l)) ih = rw (le-ltb p r (omega arith), ne_eqb p r (λ e. absurd (omega (arith, e, l)))) (ap (λ t. eqb r q || t) ih ∙ or_swap (eqb r q) (eqb p q) (has_member b q))

pub Rises-more : (low v p : ℕ) (b : List ℕ) → low ≤ p → p < v → Rises low v b → Rises low v (with_member p b)
Rises-more low v p [] h k r = (h, k, tt)
Rises-more low v p (q ∷ b) h k r = go (cases_order p q) (λ l. Rises-more (q + 1) v p b l k r.2)
  where
    go : (p ≡ q) ⊎ ((p < q) ⊎ (q < p)) → (q + 1 ≤ p → Rises (q + 1) v (with_member p b)) → Rises low v (with_member p (q ∷ b))
    go (inl e) ih = rw (le-ltb p q (omega arith), eq-eqb p q e) r
    go (inr (inl l)) ih = rw (lt-ltb p q l) (h, k, (omega arith, r.1, r.2))
    go (inr (inr l)) ih = rw (le-ltb p q (omega arith), ne_eqb p q (λ e. absurd (omega (arith, e, l)))) (r.0, r.1, ih (omega arith))

pub Rises-below : (low v w : ℕ) (b : List ℕ) → Rises low w b → ((p : ℕ) → In b p → p < v) → Rises low v b
Rises-below low v w [] r h = tt
Rises-below low v w (p ∷ b) r h = (r.0, h p (inl refl), Rises-below (p + 1) v w b r.2 (λ q i. h q (inr i)))

-- a point that is before all of a block is put in front
pub with_first : (p v : ℕ) (b : List ℕ) → Rises (p + 1) v b → with_member p b ≡ p ∷ b
with_first p v [] r = refl
with_first p v (q ∷ b) r = rw (lt-ltb p q (omega (arith, r.0))) refl

-- each point lies below the bound
pub Rises-bound : (low v : ℕ) (b : List ℕ) (p : ℕ) → Rises low v b → In b p → p < v
Rises-bound low v [] p r i = absurd i
Rises-bound low v (q ∷ b) p r (inl e) = omega (arith, r.1, e)
Rises-bound low v (q ∷ b) p r (inr i) = Rises-bound (q + 1) v b p r.2 i

-- a block has no more points than there are
pub length_fits : (low v : ℕ) (b : List ℕ) → low ≤ v → Rises low v b → low + length b ≤ v
length_fits low v [] h r = omega arith
length_fits low v (p ∷ b) h r = let ih = length_fits (p + 1) v b (omega (arith, r.1)) r.2 in omega (arith, ih, r.0)

pub point_below : (low v : ℕ) (b : List ℕ) (i d : ℕ) → Rises low v b → i < length b → get_or b i d < v
point_below low v [] i d r h = absurd (omega arith)
point_below low v (p ∷ b) zero d r h = r.1
point_below low v (p ∷ b) (suc i) d r h = point_below (p + 1) v b i d r.2 (omega arith)

steps_rise : (xs : List ℕ) (i n : ℕ) → IsStrictlyIncreasing xs → i + n < length xs → get_or xs i 0 ≤ get_or xs (i + n) 0
steps_rise xs i zero up h = let e : i + zero ≡ i = omega arith in rw e (omega arith)
steps_rise xs i (suc n) up h =
    let e : i + n + 1 ≡ i + suc n = omega arith in
    let step = rw e at (up (i + n) (omega arith)) in
    omega (arith, steps_rise xs i n up (omega arith))

-- numbers that increase don't fall
pub increasing_order : (xs : List ℕ) → IsStrictlyIncreasing xs → (i j : ℕ) → i ≤ j → j < length xs → get_or xs i 0 ≤ get_or xs j 0
increasing_order xs up i j low high = let e : i + (j - i) ≡ j = omega arith in subst (λ k. get_or xs i 0 ≤ get_or xs k 0) e (steps_rise xs i (j - i) up (omega arith))
