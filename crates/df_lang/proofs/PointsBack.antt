-- Printed elements, points and blocks, read back.
use Rattle.std.proofs.Common.{◌≡◌, ℕ, ◌+◌, ◌-◌, ◌^◌, ◌<◌, ◌≤◌, Bool, true, false, ltb, leb, suc, List, [], ◌∷◌, ◌++◌, length, map, All, Some, None, Ok, decimal, codes, option_map, refl, sym, ap, ◌∙◌, inl, inr, arith, tests, append-nil, append_assoc}
use Rattle.std.proofs.Math.Bool.{and-false}
use Rattle.std.specs.List.{slice_split, join_with_byte}
use Rattle.std.proofs.lemmas.Bool.{cases_lt}
use Rattle.std.proofs.lemmas.Fmt.{decimal_by_steps}
use Rattle.std.proofs.lemmas.List.Splits.{slice_split_none}
use Rattle.df_io.specs.Joined.{Each, Lacks}
use Rattle.df_io.specs.Number.{is_numeral}
use Rattle.df_io.proofs.Joining.{split_join}
use Rattle.df_lists.specs.NumberSets.{has_member}
use Rattle.df_group.specs.Elements.{order_of, number, residues, IsElement, IsFactor, IsShape}
use Rattle.df_group.proofs.ElementLaws.{positive_shape, residues_are, number_residues}
use Rattle.df_lang.specs.declared.fault.SourceFault.TheVariants.{BlockSize}
use Rattle.df_lang.specs.Rules.{must, value_of}
use Rattle.df_lang.specs.Values.{residues_of, element_of, fixed_point, point_of, elements_from, points_from, is_comma}
use Rattle.df_lang.specs.Canonical.{element_text, fixed_text, point_text}
use Rattle.df_lang.proofs.InOrder.{InOrder, Follows, follows_more, follows_none, with_last, last_is_new}
use Rattle.df_lang.proofs.EachMember.{each_append, each_so, all_from}
use Rattle.df_lang.proofs.NumbersBack.{value_back}

-- each byte of a printed number is a digit, and so above the comma
pub decimal_high : (n : ℕ) → n < 2 ^ 64 → Each (λ b. 47 < b) (decimal n)
decimal_high n h =
    decimal_by_steps (λ m ds. Each (λ b. 47 < b) ds) (λ m l. (omega arith, tt)) (λ m ds l each. each_append (λ b. 47 < b) ds _ each (omega arith, tt)) n h

pub lacks_from : (test : ℕ → Bool) (low : ℕ) (text : List ℕ) → ((b : ℕ) → low < b → test b ≡ false) → Each (λ b. low < b) text → Lacks test text
lacks_from test low text so each = all_from (λ b. test b ≡ false) text (each_so (λ b. low < b) (λ b. test b ≡ false) text so each)

comma_low : (b : ℕ) → 47 < b → is_comma b ≡ false
comma_low b h = grind (arith, tests)

residues_lack : (fs rs : List ℕ) → IsElement fs rs → All IsFactor fs → Each (Lacks is_comma) (map decimal rs)
residues_lack [] [] is each = tt
residues_lack [] (r ∷ rs) is each = absurd cc
residues_lack (f ∷ fs) [] is each = absurd is
residues_lack (f ∷ fs) (r ∷ rs) is each =
    let high = each 0 0 (omega arith) in
    (lacks_from is_comma 47 (decimal r) comma_low (decimal_high r (omega (arith, is.0, high.1))), residues_lack fs rs is.1 (λ k d h. each (suc k) d (omega (arith, h))))

residues_back : (fs rs : List ℕ) → IsElement fs rs → All IsFactor fs → residues_of fs (map decimal rs) ≡ Some rs
unfolding residues_of
residues_back [] [] is each = refl
residues_back [] (r ∷ rs) is each = absurd cc
residues_back (f ∷ fs) [] is each = absurd is
residues_back (f ∷ fs) (r ∷ rs) is each =
    let high = each 0 0 (omega arith) in
    let less = is.0 in
    let below : ltb r f ≡ true = grind (arith, tests) in
    let ih = residues_back fs rs is.1 (λ k d h. each (suc k) d (omega (arith, h))) in
    rw (value_back r (omega (arith, less, high.1)), below, ih) refl

split_back : (fs rs : List ℕ) → 0 < length fs → IsElement fs rs → Each (Lacks is_comma) (map decimal rs) → slice_split is_comma (join_with_byte 44 (map decimal rs)) ≡ map decimal rs
split_back [] rs some is lack = absurd (omega arith)
split_back (f ∷ fs) [] some is lack = absurd is
split_back (f ∷ fs) (r ∷ rs) some is lack = split_join is_comma 44 (decimal r) (map decimal rs) refl lack.0 lack.1

-- an element's text
pub element_back : (fs : List ℕ) (e : ℕ) → IsShape fs → e < order_of fs → element_of fs (element_text fs e) ≡ Some e
unfolding element_of element_text
element_back fs e is low =
    let rs = residues fs e in
    let element = residues_are fs (positive_shape fs is) e in
    let split = split_back fs rs is.some element (residues_lack fs rs element is.factors) in
    ap (λ l. option_map (number fs) (residues_of fs l)) split ∙ ap (option_map (number fs)) (residues_back fs rs element is.factors) ∙ ap Some (number_residues fs (positive_shape fs is) e low)

-- `inf` and digits is no element
no_numeral : (ds : List ℕ) → value_of (codes "inf" ++ ds) ≡ None
no_numeral ds = let none : is_numeral (codes "inf" ++ ds) ≡ false = and-false _ in rw none refl

no_residues : (fs : List ℕ) (token : List ℕ) → 0 < length fs → value_of token ≡ None → residues_of fs (token ∷ []) ≡ None
unfolding residues_of
no_residues [] token some none = absurd (omega arith)
no_residues (f ∷ fs) token some none = rw none refl

fixed_high : (n : ℕ) → n < 2 ^ 64 → Each (λ b. 47 < b) (codes "inf" ++ decimal n)
fixed_high n h = (omega arith, (omega arith, (omega arith, decimal_high n h)))

no_element : (fs : List ℕ) (n : ℕ) → IsShape fs → n < 2 ^ 64 → element_of fs (codes "inf" ++ decimal n) ≡ None
unfolding element_of
no_element fs n is h =
    let split = slice_split_none is_comma (codes "inf" ++ decimal n) (lacks_from is_comma 47 (codes "inf" ++ decimal n) comma_low (fixed_high n h)) in
    ap (λ l. option_map (number fs) (residues_of fs l)) split ∙ ap (option_map (number fs)) (no_residues fs (codes "inf" ++ decimal n) is.some (no_numeral (decimal n)))

fixed_back : (fs : List ℕ) (fixed i : ℕ) → IsShape fs → fixed ≤ 128 → i < fixed → point_of fs fixed (fixed_text i) ≡ Some (order_of fs + i)
unfolding fixed_text fixed_point
fixed_back fs fixed i is few low =
    let a : leb 1 (i + 1) ≡ true = grind (arith, tests) in
    let b : leb (i + 1) fixed ≡ true = grind (arith, tests) in
    rw (no_element fs (i + 1) is (omega arith), value_back (i + 1) (omega arith), a, b) (ap Some (omega arith))

-- a point's text
pub point_back : (fs : List ℕ) (fixed p : ℕ) → IsShape fs → fixed ≤ 128 → p < order_of fs + fixed → point_of fs fixed (point_text fs p) ≡ Some p
point_back fs fixed p is few low =
    elim (cases_lt p (order_of fs)) [
      | inl l ↦ let less : ltb p (order_of fs) ≡ true = grind (arith, tests) in rw (less, element_back fs p is l) refl
      | inr r ↦
          let past : ltb p (order_of fs) ≡ false = grind (arith, tests) in
          rw past (fixed_back fs fixed (p - order_of fs) is few (omega arith) ∙ ap Some (omega arith))
    ]

-- elements after those that are taken
pub elements_back : (fs kept es : List ℕ) → IsShape fs → Each (λ e. e < order_of fs) es → elements_from fs kept (map (element_text fs) es) ≡ Ok (kept ++ es)
unfolding elements_from
elements_back fs kept [] is below = ap Ok (sym (append-nil kept))
elements_back fs kept (e ∷ es) is below =
    rw (element_back fs e is below.0) (elements_back fs (kept ++ e ∷ []) es is below.1 ∙ ap Ok (append_assoc kept (e ∷ []) es))

-- points after those that are taken
module _ (fs : List ℕ) (fixed : ℕ) (ks : List ℕ) (is : IsShape fs) (few : fixed ≤ 128) where
  points_kept : (points block : List ℕ) → Each (λ p. p < order_of fs + fixed) block → InOrder (λ p q. p < q) block → Follows (λ p q. p < q) points block
      → points_from fs fixed ks points (map (point_text fs) block) ≡ must (has_member ks (length (points ++ block))) BlockSize (points ++ block)
  unfolding points_from
  points_kept points [] below order follows = ap (λ (l : List ℕ). must (has_member ks (length l)) BlockSize l) (sym (append-nil points))
  points_kept points (p ∷ ps) below order follows =
      let last = with_last p points follows.0 in
      let new = last_is_new p points follows.0 in
      let ih = points_kept (points ++ p ∷ []) ps below.1 order.1 (follows_more (λ p q. p < q) points p ps order.0 follows.1) in
      rw (point_back fs fixed p is few below.0, new, last) (ih ∙ ap (λ (l : List ℕ). must (has_member ks (length l)) BlockSize l) (append_assoc points (p ∷ []) ps))

  pub points_back : (block : List ℕ) → Each (λ p. p < order_of fs + fixed) block → InOrder (λ p q. p < q) block → has_member ks (length block) ≡ true → points_from fs fixed ks [] (map (point_text fs) block) ≡ Ok block
  points_back block below order size = points_kept [] block below order (follows_none (λ p q. p < q) block) ∙ rw size refl
