-- Pairs of numbers: when two are the same, and their order.
use Rattle.std.proofs.Common.{◌≡◌, ℕ, ◌<◌, Bool, true, false, ◌&&◌, ◌||◌, eqb, nat_lt, refl, sym, ap, ap₂, ◌∙◌, inl, inr, ◌⊎◌, ⊎_elim, arith, lt-ltb, le-ltb, ltb-true, eqb-true, eq-eqb}
use Rattle.std.proofs.lemmas.Bool.{and_parts, and_from, cases_lt, both_ways, false_from_ne_true}
use Rattle.df_lists.specs.Orders.{IsEquality, IsOrder}
use Rattle.df_mixed.specs.PairOrbits.{in_order, is_earlier}

abbrev pub same_pair : ℕ × ℕ → ℕ × ℕ → Bool
same_pair a b = eqb a.0 b.0 && eqb a.1 b.1

or_gives : (a b : Bool) → (a || b) ≡ true → (a ≡ true) ⊎ (b ≡ true)
or_gives true b h = inl refl
or_gives false b h = inr h

or_from : (a b : Bool) → (a ≡ true) ⊎ (b ≡ true) → (a || b) ≡ true
or_from true b h = refl
or_from false b (inl h) = absurd (both_ways false refl h)
or_from false b (inr h) = h

pub pairs_equal : IsEquality same_pair
pairs_equal = record {
  same = λ x y h. let r = and_parts (eqb x.0 y.0) (eqb x.1 y.1) h in ap₂ (λ (a b : ℕ). (a, b)) (eqb-true x.0 y.0 r.0) (eqb-true x.1 y.1 r.1);
  self = λ x. and_from (eqb x.0 x.0) (eqb x.1 x.1) (eq-eqb x.0 x.0 refl) (eq-eqb x.1 x.1 refl);
}

-- what is earlier has a lower first point, or the same one and a lower second point
abbrev pub IsLower : ℕ × ℕ → ℕ × ℕ → Type 0
IsLower a b = (a.0 < b.0) ⊎ ((a.0 ≡ b.0) × (a.1 < b.1))

lower_gives : (a b : ℕ × ℕ) → is_earlier a b ≡ true → IsLower a b
lower_gives a b h =
    ⊎_elim (λ l. inl (ltb-true a.0 b.0 l)) (λ l. let r = and_parts (eqb a.0 b.0) (nat_lt a.1 b.1) l in inr (eqb-true a.0 b.0 r.0, ltb-true a.1 b.1 r.1))
    (or_gives (nat_lt a.0 b.0) (eqb a.0 b.0 && nat_lt a.1 b.1) h)

lower_from : (a b : ℕ × ℕ) → IsLower a b → is_earlier a b ≡ true
lower_from a b (inl l) = or_from (nat_lt a.0 b.0) (eqb a.0 b.0 && nat_lt a.1 b.1) (inl (lt-ltb a.0 b.0 l))
lower_from a b (inr l) = or_from (nat_lt a.0 b.0) (eqb a.0 b.0 && nat_lt a.1 b.1) (inr (and_from (eqb a.0 b.0) (nat_lt a.1 b.1) (eq-eqb a.0 b.0 l.0) (lt-ltb a.1 b.1 l.1)))

lower_onward : (x y z : ℕ × ℕ) → IsLower x y → IsLower y z → IsLower x z
lower_onward x y z (inl l) (inl m) = inl (omega arith)
lower_onward x y z (inl l) (inr m) = let e = m.0 in inl (omega arith)
lower_onward x y z (inr l) (inl m) = let e = l.0 in inl (omega arith)
lower_onward x y z (inr l) (inr m) = let e = l.1 in let f = m.1 in inr (l.0 ∙ m.0, omega arith)

not_lower : (a b : ℕ × ℕ) → is_earlier a b ≡ false → IsLower a b → ⊥
not_lower a b h l = both_ways (is_earlier a b) h (lower_from a b l)

pub pairs_ordered : IsOrder is_earlier
pairs_ordered = record {
  unlike = λ x. false_from_ne_true (is_earlier x x) (λ h. ⊎_elim (λ l. omega arith) (λ l. let e = l.1 in omega arith) (lower_gives x x h));
  onward = λ x y z h k. lower_from x z (lower_onward x y z (lower_gives x y h) (lower_gives y z k));
  either = λ x y h k.
      let first : x.0 ≡ y.0 = elim (cases_lt x.0 y.0) [
        | inl l ↦ absurd (not_lower x y h (inl l))
        | inr r ↦ elim (cases_lt y.0 x.0) [
          | inl l ↦ absurd (not_lower y x k (inl l))
          | inr t ↦ omega arith
        ]
      ] in
      let second : x.1 ≡ y.1 = elim (cases_lt x.1 y.1) [
        | inl l ↦ absurd (not_lower x y h (inr (first, l)))
        | inr r ↦ elim (cases_lt y.1 x.1) [
          | inl l ↦ absurd (not_lower y x k (inr (sym first, l)))
          | inr t ↦ omega arith
        ]
      ] in
      ap₂ (λ (a b : ℕ). (a, b)) first second;
}

-- two points in order
pub ordered : (a b : ℕ) → a < b → in_order a b ≡ (a, b)
ordered a b h = rw (lt-ltb a b h) refl

pub order_turned : (a b : ℕ) → in_order a b ≡ in_order b a
order_turned a b =
    elim (cases_lt a b) [
      | inl l ↦ rw (lt-ltb a b l, le-ltb b a (omega arith)) refl
      | inr r ↦ elim (cases_lt b a) [
        | inl l ↦ rw (le-ltb a b r, lt-ltb b a l) refl
        | inr t ↦ let e : a ≡ b = omega arith in rw e refl
      ]
    ]

pub order_either : (a b : ℕ) → (in_order a b ≡ (a, b)) ⊎ (in_order a b ≡ (b, a))
order_either a b = elim (cases_lt a b) [ inl l ↦ inl (ordered a b l) | inr r ↦ inr (rw (le-ltb a b r) refl) ]

pub order_rises : (a b : ℕ) → (a ≡ b → ⊥) → (in_order a b).0 < (in_order a b).1
order_rises a b h =
    elim (cases_lt a b) [
      | inl l ↦ rw (lt-ltb a b l) l
      | inr r ↦ elim (cases_lt b a) [
        | inl l ↦ rw (le-ltb a b r) l
        | inr t ↦ absurd (h (omega arith))
      ]
    ]

pub order_below : (v a b : ℕ) → a < v → b < v → (in_order a b).1 < v
order_below v a b h k = elim (cases_lt a b) [ inl l ↦ rw (lt-ltb a b l) k | inr r ↦ rw (le-ltb a b r) h ]

-- what a function makes of two points, in order
pub order_mapped : (f : ℕ → ℕ) (a b : ℕ) → in_order (f (in_order a b).0) (f (in_order a b).1) ≡ in_order (f a) (f b)
order_mapped f a b =
    ⊎_elim (λ e. ap (λ (x : ℕ × ℕ). in_order (f x.0) (f x.1)) e) (λ e. ap (λ (x : ℕ × ℕ). in_order (f x.0) (f x.1)) e ∙ order_turned (f b) (f a)) (order_either a b)
