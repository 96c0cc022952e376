-- Integer multiples of residue lists, and of their numbers.
use Rattle.std.proofs.Common.{◌≡◌, ℕ, suc, ◌+◌, ◌*◌, ◌%◌, ◌<◌, List, [], ◌∷◌, All, refl, sym, ap, ◌∙◌, arith, mod-eq_of_lt, mul_comm, mul_assoc, add-mul, mul-add, zero-mul, one-mul}
use Rattle.std.proofs.Math.Nat.{mod-add-mod, add-mod-mod, zero-div}
use Rattle.std.proofs.lemmas.Nat.{mul-mod_first, mul-mod_second}
use Rattle.df_group.specs.Elements.{order_of, IsElement, number, residues, sum_of, multiple_of, group_of, IsShape}
use Rattle.df_group.specs.Subgroups.{exponent_of}
use Rattle.df_group.specs.Multiples.{Undoes, MultiplesLaw, UnitsLaw}
use Rattle.df_group.proofs.ElementLaws.{ArePositive, positive_shape, order_some, residues_are, sums_are, multiples_are, number_within, residues_number, number_residues}
use Rattle.df_group.proofs.ExponentLaws.{exponent_common, exponent_some}
use Rattle.df_group.proofs.UnitLaws.{mod-mod_of_divides, unit_one, unit_product, unit_reduced, unit_inverse}

mod_divides : (e f m r : ℕ) → e % f ≡ 0 → ((m % e) * r) % f ≡ (m * r) % f
mod_divides e f m r d = sym (mul-mod_first (m % e) r f) ∙ ap (λ n. (n * r) % f) (mod-mod_of_divides e f m d) ∙ mul-mod_first m r f

-- each factor divides e
abbrev AllDivide : ℕ → List ℕ → Type 0
AllDivide e fs = All (λ f. e % f ≡ 0) fs

multiple_reduced : (e : ℕ) (fs : List ℕ) (m : ℕ) (rs : List ℕ) → AllDivide e fs → multiple_of fs (m % e) rs ≡ multiple_of fs m rs
multiple_reduced e [] m rs d = refl
multiple_reduced e (f ∷ fs) m [] d = refl
multiple_reduced e (f ∷ fs) m (r ∷ rs) d = rw (mod_divides e f m r (d 0 0 (omega arith)), multiple_reduced e fs m rs (λ k x l. d (suc k) x (omega (arith, l)))) refl

multiple_none : (fs rs : List ℕ) → ArePositive fs → IsElement fs rs → multiple_of fs 0 rs ≡ residues fs 0
multiple_none [] rs p h = refl
multiple_none (f ∷ fs) [] p h = absurd h
multiple_none (f ∷ fs) (r ∷ rs) p h =
    let o = order_some fs p.1 in
    let b : 0 % order_of fs ≡ 0 = mod-eq_of_lt o in
    rw (zero-mul r, zero-div (order_of fs), b, multiple_none fs rs p.1 h.1) refl

multiple_one : (fs rs : List ℕ) → IsElement fs rs → multiple_of fs 1 rs ≡ rs
multiple_one [] rs h = sym h
multiple_one (f ∷ fs) [] h = absurd h
multiple_one (f ∷ fs) (r ∷ rs) h = rw (one-mul r, mod-eq_of_lt h.0, multiple_one fs rs h.1) refl

multiple_sum : (fs : List ℕ) (m l : ℕ) (rs : List ℕ) → multiple_of fs (m + l) rs ≡ sum_of fs (multiple_of fs m rs) (multiple_of fs l rs)
multiple_sum [] m l rs = refl
multiple_sum (f ∷ fs) m l [] = refl
multiple_sum (f ∷ fs) m l (r ∷ rs) =
    rw (multiple_sum fs m l rs) (ap (λ n. n ∷ sum_of fs (multiple_of fs m rs) (multiple_of fs l rs)) (ap (λ n. n % f) (add-mul m l r) ∙ sym (mod-add-mod (m * r) f ((l * r) % f) ∙ add-mod-mod (m * r) (l * r) f)))

multiple_plus : (fs : List ℕ) (m : ℕ) (rs ss : List ℕ) → multiple_of fs m (sum_of fs rs ss) ≡ sum_of fs (multiple_of fs m rs) (multiple_of fs m ss)
multiple_plus [] m rs ss = refl
multiple_plus (f ∷ fs) m [] ss = refl
multiple_plus (f ∷ fs) m (r ∷ rs) [] = refl
multiple_plus (f ∷ fs) m (r ∷ rs) (s ∷ ss) =
    rw (multiple_plus fs m rs ss) (ap (λ n. n ∷ sum_of fs (multiple_of fs m rs) (multiple_of fs m ss)) (mul-mod_second m (r + s) f ∙ ap (λ n. n % f) (mul-add m r s) ∙ sym (mod-add-mod (m * r) f ((m * s) % f) ∙ add-mod-mod (m * r) (m * s) f)))

multiple_product : (fs : List ℕ) (m l : ℕ) (rs : List ℕ) → multiple_of fs (m * l) rs ≡ multiple_of fs m (multiple_of fs l rs)
multiple_product [] m l rs = refl
multiple_product (f ∷ fs) m l [] = refl
multiple_product (f ∷ fs) m l (r ∷ rs) =
    rw (multiple_product fs m l rs) (ap (λ n. n ∷ multiple_of fs m (multiple_of fs l rs)) (ap (λ n. n % f) (mul_assoc m l r) ∙ sym (mul-mod_second m (l * r) f)))

pub are_multiples : MultiplesLaw
are_multiples fs is = record {
  within = λ m a. number_within fs (multiple_of fs m (residues fs a)) (are m a);
  none = λ a. ap (number fs) (multiple_none fs (residues fs a) p (residues_are fs p a)) ∙ number_residues fs p 0 (order_some fs p);
  one = λ a h. ap (number fs) (multiple_one fs (residues fs a) (residues_are fs p a)) ∙ number_residues fs p a h;
  more = λ m a.
      let e : suc m ≡ 1 + m = omega arith in
      ap (λ n. number fs (multiple_of fs n (residues fs a))) e ∙ ap (number fs) (multiple_sum fs 1 m (residues fs a)
      ∙ ap (λ l. sum_of fs l (multiple_of fs m (residues fs a))) (multiple_one fs (residues fs a) (residues_are fs p a))
      ∙ ap (sum_of fs (residues fs a)) (sym (back m a)));
  sum = λ m l a. ap (number fs) (multiple_sum fs m l (residues fs a)) ∙ rw (back m a, back l a) refl;
  plus = λ m a b.
      rw (residues_number fs (sum_of fs (residues fs a) (residues fs b)) (sums_are fs (residues fs a) (residues fs b) p (residues_are fs p a) (residues_are fs p b)), back m a, back m b)
      (ap (number fs) (multiple_plus fs m (residues fs a) (residues fs b)));
  product = λ m l a. rw (back l a) (ap (number fs) (multiple_product fs m l (residues fs a)));
  reduced = λ m a. ap (number fs) (multiple_reduced (exponent_of fs) fs m (residues fs a) (exponent_common fs p));
}
  where
    p : ArePositive fs
    p = positive_shape fs is

    are : (m a : ℕ) → IsElement fs (multiple_of fs m (residues fs a))
    are m a = multiples_are fs m (residues fs a) p (residues_are fs p a)

    back : (m a : ℕ) → residues fs (number fs (multiple_of fs m (residues fs a))) ≡ multiple_of fs m (residues fs a)
    back m a = residues_number fs (multiple_of fs m (residues fs a)) (are m a)

-- what leaves 1 by the exponent multiplies as 1 does
alone : (fs : List ℕ) → IsShape fs → (n a : ℕ) → a < order_of fs → n % exponent_of fs ≡ 1 % exponent_of fs → (group_of fs).times n a ≡ a
alone fs is n a h e =
    let M = are_multiples fs is in
    sym (M.reduced n a) ∙ ap (λ k. (group_of fs).times k a) e ∙ M.reduced 1 a ∙ M.one a h

pub undone_times : (fs : List ℕ) → IsShape fs → (m l : ℕ) → (m * l) % exponent_of fs ≡ 1 % exponent_of fs → Undoes (group_of fs) m l
undone_times fs is m l e =
    let M = are_multiples fs is in
    record {
      there = λ a h. sym (M.product l m a) ∙ ap (λ n. (group_of fs).times n a) (mul_comm l m) ∙ alone fs is (m * l) a h e;
      back = λ a h. sym (M.product m l a) ∙ alone fs is (m * l) a h e;
    }

pub are_units : UnitsLaw
are_units fs is =
    let e = exponent_of fs in
    let some = exponent_some fs (positive_shape fs is) in
    record {
      one = unit_one e;
      product = λ m l u w. unit_product e m l some u w;
      reduced = λ m. unit_reduced e m some;
      inverse = λ m u. let r = unit_inverse e m some u in (r.0, r.1, r.2, undone_times fs is m r.0 r.2);
    }
