-- Sets compared by their bits.
use Rattle.std.proofs.Common.{◌≡◌, ℕ, suc, zero, ◌+◌, ◌*◌, ◌/◌, ◌%◌, ◌^◌, ◌<◌, ◌≤◌, Bool, true, false, cond, not, ◌||◌, eqb, ltb, List, [], ◌∷◌, refl, sym, ap, ◌∙◌, subst, inl, inr, ◌⊎◌, arith, ⊎_elim, bit_xor, eq-eqb, ne_eqb, eqb-true, lt-ltb, le-ltb}
use Rattle.std.specs.List.{list_any}
use Rattle.std.specs.Int.{bit_at, w128, trailing_zeros}
use Rattle.std.specs.Ordering.{nat_cmp}
use Rattle.std.specs.declared.cmp.Ordering.TheVariants.{Less, Equal, Greater}
use Rattle.std.specs.Cmp.Lexicographic.{slice_cmp}
use Rattle.std.proofs.lemmas.Bool.{false≢true, both_ways, cases_eq, cases_lt, cases_order, or_left, or_parts, ltb-false, not-true}
use Rattle.std.proofs.lemmas.Nat.{xor_lt, shr_split, mod_below, pow_pos}
use Rattle.std.proofs.lemmas.Nat.Bits.{bit_at_xor, bit_at-lt, bit_at-zero, bit_at-trailing_zeros, same_from_bits}
use Rattle.std.proofs.Math.Nat.{div-eq_of_lt}
use Rattle.df_lists.specs.NumberSets.{has_member, Rises}
use Rattle.df_lists.proofs.TestLaws.{same_tests}
use Rattle.df_lists.proofs.RisingLists.{none_below}
use Rattle.df_lists.specs.Bits.{members, is_set}
use Rattle.df_lists.proofs.BitLaws.{has_members, weight_view}
use Rattle.df_sets.proofs.MemberBits.{members_rise, weight_bound, members_low}

-- a later point than p
abbrev pub goes_on : ℕ → List ℕ → Bool
goes_on p b = list_any (λ q. ltb p q) b

-- a list is not apart from itself
pub same_order : (a : List ℕ) → slice_cmp nat_cmp a a ≡ Equal
same_order [] = refl
same_order (p ∷ a) = rw (le-ltb p p (omega arith), eq-eqb p p refl) (same_order a)

has_here : (p : ℕ) (a : List ℕ) → has_member (p ∷ a) p ≡ true
has_here p a = or_left (eqb p p) (has_member a p) (eq-eqb p p refl)

-- the first point that only a has decides: b has a later one there, or ends
pub order_at : (low v w p : ℕ) (a b : List ℕ) → Rises low v a → Rises low w b → ((q : ℕ) → q < p → has_member a q ≡ has_member b q) → has_member a p ≡ true → has_member b p ≡ false
    → (slice_cmp nat_cmp a b ≡ cond (goes_on p b) Less Greater) × (slice_cmp nat_cmp b a ≡ cond (goes_on p b) Greater Less)
order_at low v w p [] b r s h f g = absurd (false≢true f)
order_at low v w p (x ∷ a) [] r s h f g = (refl, refl)
order_at low v w p (x ∷ a) (y ∷ b) r s h f g = go (cases_order x y) (order_at (x + 1) v w p a b r.2)
  where
    from_first : x ≤ p
    from_first = ⊎_elim (λ l. absurd (both_ways (has_member (x ∷ a) p) (none_below x v (x ∷ a) p (omega arith, r.1, r.2) l) f)) (λ l. l) (cases_lt p x)

    rest : x ≡ y → (q : ℕ) → q < p → has_member a q ≡ has_member b q
    rest e q l = ⊎_elim
        (λ same. none_below (x + 1) v a q r.2 (omega (arith, same)) ∙ sym (none_below (y + 1) w b q s.2 (omega (arith, same, e))))
        (λ ne. sym (ap (λ t. t || has_member a q) (ne_eqb x q ne)) ∙ h q l ∙ ap (λ t. t || has_member b q) (ne_eqb y q (λ z. ne (e ∙ z))))
        (cases_eq x q)

    go : (x ≡ y) ⊎ ((x < y) ⊎ (y < x)) → (Rises (x + 1) w b → ((q : ℕ) → q < p → has_member a q ≡ has_member b q) → has_member a p ≡ true → has_member b p ≡ false → (slice_cmp nat_cmp a b ≡ cond (goes_on p b) Less Greater) × (slice_cmp nat_cmp b a ≡ cond (goes_on p b) Greater Less))
        → (slice_cmp nat_cmp (x ∷ a) (y ∷ b) ≡ cond (goes_on p (y ∷ b)) Less Greater) × (slice_cmp nat_cmp (y ∷ b) (x ∷ a) ≡ cond (goes_on p (y ∷ b)) Greater Less)
    go (inl e) ih =
        let parts = or_parts (eqb y p) (has_member b p) g in
        let apart : eqb x p ≡ false = ap (λ n. eqb n p) e ∙ parts.0 in
        let less : y < p = ⊎_elim (λ z. absurd (both_ways (eqb y p) parts.0 (eq-eqb y p z))) (λ ne. ⊎_elim (λ l. l) (λ l. absurd (ne (omega (arith, l, from_first, e)))) (cases_lt y p)) (cases_eq y p) in
        let more = ih (subst (λ n. Rises (n + 1) w b) (sym e) s.2) (rest e) (sym (ap (λ t. t || has_member a p) apart) ∙ f) parts.1 in
        rw (le-ltb x y (omega (arith, e)), eq-eqb x y e, le-ltb y x (omega (arith, e)), eq-eqb y x (sym e), le-ltb p y (omega (arith, less))) more
    go (inr (inl l)) ih =
        let same : p ≡ x = ⊎_elim (λ k. absurd (both_ways (has_member (y ∷ b) x) (none_below y w (y ∷ b) x (omega arith, s.1, s.2) l) (sym (h x k) ∙ has_here x a))) (λ k. omega (arith, k, from_first)) (cases_lt x p) in
        rw (lt-ltb x y l, le-ltb y x (omega (arith, l)), ne_eqb y x (λ e. absurd (omega (arith, e, l))), lt-ltb p y (omega (arith, same, l))) (refl, refl)
    go (inr (inr l)) ih =
        absurd (⊎_elim
        (λ k. both_ways (has_member (x ∷ a) y) (none_below x v (x ∷ a) y (omega arith, r.1, r.2) l) (h y k ∙ has_here y b))
        (λ k. both_ways (has_member (x ∷ a) p) (none_below x v (x ∷ a) p (omega arith, r.1, r.2) (omega (arith, k, l))) f)
        (cases_lt y p))

none_later : (low v p : ℕ) (b : List ℕ) → Rises low v b → v ≤ p → goes_on p b ≡ false
none_later low v p [] r h = refl
none_later low v p (q ∷ b) r h = rw (le-ltb p q (omega (arith, r.1))) (none_later (q + 1) v p b r.2 h)

ends_below : (low v p : ℕ) (b : List ℕ) → Rises low v b → goes_on p b ≡ false → has_member b p ≡ false → Rises low p b
ends_below low v p [] r h k = tt
ends_below low v p (q ∷ b) r h k =
    let later = or_parts (ltb p q) (goes_on p b) h in
    let here = or_parts (eqb q p) (has_member b p) k in
    let up = ltb-false p q later.0 in (
      r.0,
      ⊎_elim (λ e. absurd (both_ways (eqb q p) here.0 (eq-eqb q p e))) (λ ne. ⊎_elim (λ l. l) (λ l. absurd (ne (omega (arith, l, up)))) (cases_lt q p)) (cases_eq q p),
      ends_below (q + 1) v p b r.2 later.1 here.1,
    )

-- no bit is left from p on
pub ends_bits : (bits p : ℕ) (b : List ℕ) → members bits ≡ b → bits < 2 ^ 128 → p < 128 → has_member b p ≡ false → eqb (bits / 2 ^ p) 0 ≡ not (goes_on p b)
ends_bits bits p b is fits small k =
    same_tests (eqb (bits / 2 ^ p) 0) (not (goes_on p b))
    (λ h.
    let none = eqb-true (bits / 2 ^ p) 0 h in
    let below : bits < 2 ^ p = let split = shr_split bits p in let rest = mod_below bits (2 ^ p) (pow_pos p) in omega (arith, split, rest, ap (λ n. n * 2 ^ p) none) in
    ap not (none_later 0 p p b (subst (Rises 0 p) is (members_low bits p (omega arith) below)) (omega arith)))
    (λ h.
    let r : Rises 0 128 b = subst (Rises 0 128) is (members_rise bits) in
    let low = weight_bound 0 p b (omega arith) (ends_below 0 128 p b r (not-true (goes_on p b) h) k) in
    eq-eqb (bits / 2 ^ p) 0 (div-eq_of_lt (omega (arith, low, weight_view bits b is fits))))

-- what the bits that differ say
bits_sum : (x y : ℕ) → x < 2 → y < 2 → (x + y) % 2 ≡ 0 → x ≡ y
bits_sum zero zero h k e = refl
bits_sum zero (suc zero) h k e = absurd (omega (arith, e))
bits_sum zero (suc (suc y)) h k e = absurd (omega arith)
bits_sum (suc zero) zero h k e = absurd (omega (arith, e))
bits_sum (suc zero) (suc zero) h k e = refl
bits_sum (suc zero) (suc (suc y)) h k e = absurd (omega arith)
bits_sum (suc (suc x)) y h k e = absurd (omega arith)

pub same_bits : (x y : ℕ) → bit_xor x y ≡ 0 → x ≡ y
same_bits x y e = same_from_bits x y (λ i. bits_sum (bit_at x i) (bit_at y i) (bit_at-lt x i) (bit_at-lt y i) (sym (bit_at_xor x y i) ∙ ap (λ n. bit_at n i) e ∙ bit_at-zero i))

-- the first bit in which two numbers differ
pub first_apart : (x y : ℕ) → 0 < bit_xor x y → x < 2 ^ 128 → y < 2 ^ 128
    → (trailing_zeros w128 (bit_xor x y) < 128) × ((bit_at x (trailing_zeros w128 (bit_xor x y)) + bit_at y (trailing_zeros w128 (bit_xor x y))) % 2 ≡ 1) × ((i : ℕ) → i < trailing_zeros w128 (bit_xor x y) → bit_at x i ≡ bit_at y i)
first_apart x y pos h k =
    let zeros = bit_at-trailing_zeros w128 (bit_xor x y) pos (xor_lt 128 x y h k) in
    let t = trailing_zeros w128 (bit_xor x y) in
    (zeros.0, sym (bit_at_xor x y t) ∙ zeros.1, λ i l. bits_sum (bit_at x i) (bit_at y i) (bit_at-lt x i) (bit_at-lt y i) (sym (bit_at_xor x y i) ∙ zeros.2 i l))

module _ (x y : ℕ) (a b : List ℕ) (x_is : members x ≡ a) (y_is : members y ≡ b) (x_fits : x < 2 ^ 128) (y_fits : y < 2 ^ 128) (differ : 0 < bit_xor x y) where
  a_rises : Rises 0 128 a
  a_rises = subst (Rises 0 128) x_is (members_rise x)

  b_rises : Rises 0 128 b
  b_rises = subst (Rises 0 128) y_is (members_rise y)

  a_has : (q : ℕ) → q < 128 → has_member a q ≡ is_set x q
  a_has q h = sym (ap (λ l. has_member l q) x_is) ∙ has_members x q h

  b_has : (q : ℕ) → q < 128 → has_member b q ≡ is_set y q
  b_has q h = sym (ap (λ l. has_member l q) y_is) ∙ has_members y q h

  below : (q : ℕ) → q < trailing_zeros w128 (bit_xor x y) → has_member a q ≡ has_member b q
  below q l =
      let apart = first_apart x y differ x_fits y_fits in
      let small : q < 128 = omega (arith, l, apart.0) in
      a_has q small ∙ ap (λ n. eqb n 1) (apart.2 q l) ∙ sym (b_has q small)

  turned : (g : Bool) → cond g Less Greater ≡ cond (not g) Greater Less
  turned true = refl
  turned false = refl

  turned_back : (g : Bool) → cond g Greater Less ≡ cond (not g) Less Greater
  turned_back true = refl
  turned_back false = refl

  -- the first point apart is in a
  pub mine : bit_at x (trailing_zeros w128 (bit_xor x y)) ≡ 1 → slice_cmp nat_cmp a b ≡ cond (eqb (y / 2 ^ trailing_zeros w128 (bit_xor x y)) 0) Greater Less
  mine one =
      let apart = first_apart x y differ x_fits y_fits in
      let p = trailing_zeros w128 (bit_xor x y) in
      let none : bit_at y p ≡ 0 = other (bit_at x p) (bit_at y p) one (bit_at-lt y p) apart.1 in
      let b_hasnt : has_member b p ≡ false = b_has p apart.0 ∙ ne_eqb (bit_at y p) 1 (λ e. absurd (omega (arith, e, none))) in
      (order_at 0 128 128 p a b a_rises b_rises below (a_has p apart.0 ∙ eq-eqb (bit_at x p) 1 one) b_hasnt).0
      ∙ turned (goes_on p b) ∙ ap (λ g. cond g Greater Less) (sym (ends_bits y p b y_is y_fits apart.0 b_hasnt))
    where
      other : (m n : ℕ) → m ≡ 1 → n < 2 → (m + n) % 2 ≡ 1 → n ≡ 0
      other m zero e l h = refl
      other m (suc zero) e l h = let bad : (1 + 1) % 2 ≡ 1 = subst (λ k. (k + 1) % 2 ≡ 1) e h in absurd (omega (arith, bad))
      other m (suc (suc n)) e l h = absurd (omega arith)

  -- the first point apart is in b
  pub theirs : (bit_at x (trailing_zeros w128 (bit_xor x y)) ≡ 1 → ⊥) → slice_cmp nat_cmp a b ≡ cond (eqb (x / 2 ^ trailing_zeros w128 (bit_xor x y)) 0) Less Greater
  theirs not_one =
      let apart = first_apart x y differ x_fits y_fits in
      let p = trailing_zeros w128 (bit_xor x y) in
      let none : bit_at x p ≡ 0 = let l = bit_at-lt x p in omega (arith, l, not_one) in
      let one : bit_at y p ≡ 1 = other (bit_at x p) (bit_at y p) none (bit_at-lt y p) apart.1 in
      let a_hasnt : has_member a p ≡ false = a_has p apart.0 ∙ ne_eqb (bit_at x p) 1 not_one in
      (order_at 0 128 128 p b a b_rises a_rises (λ q l. sym (below q l)) (b_has p apart.0 ∙ eq-eqb (bit_at y p) 1 one) a_hasnt).1
      ∙ turned_back (goes_on p a) ∙ ap (λ g. cond g Less Greater) (sym (ends_bits x p a x_is x_fits apart.0 a_hasnt))
    where
      other : (m n : ℕ) → m ≡ 0 → n < 2 → (m + n) % 2 ≡ 1 → n ≡ 1
      other m zero e l h = let bad : (0 + 0) % 2 ≡ 1 = subst (λ k. (k + 0) % 2 ≡ 1) e h in absurd (omega (arith, bad))
      other m (suc zero) e l h = refl
      other m (suc (suc n)) e l h = absurd (omega arith)
