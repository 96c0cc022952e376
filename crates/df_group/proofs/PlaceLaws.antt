-- The place of an element in the list of all elements.
use Rattle.std.proofs.Common.{◌≡◌, ℕ, zero, suc, ◌+◌, ◌*◌, ◌/◌, ◌%◌, ◌<◌, List, [], ◌∷◌, ◌++◌, map, length, get_or, refl, sym, ap, ◌∙◌, arith, length-append, suc-mul, mod-lt, mod-eq_of_lt, div-add-mod'}
use Rattle.std.specs.List.{flat_map, range_with_len}
use Rattle.std.proofs.lemmas.List.{length-map, get_or-map, get_or-append-add}
use Rattle.std.proofs.Math.ListN.{get_or-append}
use Rattle.std.proofs.lemmas.Nat.{div_below}
use Rattle.df_group.specs.Elements.{order_of, elements, residues}
use Rattle.df_group.specs.Places.{ElementsLaw}
use Rattle.df_group.proofs.ElementLaws.{ArePositive, positive_shape, order_some, residues_are, number_within, residues_number, number_residues}

-- blocks of one length
module _ {X : Type 0} (g : ℕ → List X) (o : ℕ) (long : (r : ℕ) → length (g r) ≡ o) where
  length-blocks : (a n : ℕ) → length (flat_map g (range_with_len a n)) ≡ n * o
  length-blocks a zero = omega arith
  length-blocks a (suc n) = length-append (g a) (flat_map g (range_with_len (a + 1) n)) ∙ omega (arith, long a, length-blocks (a + 1) n, suc-mul n o)

  block_at : (a n q r : ℕ) (d : X) → q < n → r < o → get_or (flat_map g (range_with_len a n)) (q * o + r) d ≡ get_or (g (a + q)) r d
  block_at a zero q r d l m = absurd (omega arith)
  block_at a (suc n) zero r d l m =
      let e : 0 * o + r ≡ r = omega arith in
      let f : a + 0 ≡ a = omega arith in
      rw (e, f) (get_or-append (g a) (flat_map g (range_with_len (a + 1) n)) d r (omega (arith, long a)))
  block_at a (suc n) (suc q) r d l m =
      let f : a + suc q ≡ a + 1 + q = omega arith in
      let past : suc q * o + r ≡ length (g a) + (q * o + r) = omega (arith, long a, suc-mul q o) in
      ap (λ k. get_or (g a ++ flat_map g (range_with_len (a + 1) n)) k d) past ∙ get_or-append-add (g a) (flat_map g (range_with_len (a + 1) n)) (q * o + r) d
      ∙ block_at (a + 1) n q r d (omega arith) m ∙ ap (λ k. get_or (g k) r d) (sym f)

elements_size : (fs : List ℕ) → length (elements fs) ≡ order_of fs
elements_size [] = refl
elements_size (f ∷ fs) = length-blocks (λ r. map (λ e. r ∷ e) (elements fs)) (order_of fs) (λ r. length-map (elements fs) (λ e. r ∷ e) ∙ elements_size fs) 0 f

element_placed : (fs : List ℕ) → ArePositive fs → (e : ℕ) (none : List ℕ) → e < order_of fs → get_or (elements fs) e none ≡ residues fs e
element_placed [] p zero none l = refl
element_placed [] p (suc e) none l = absurd (omega arith)
element_placed (f ∷ fs) p e none l =
    let o = order_of fs in
    let some = order_some fs p.1 in
    let q = e / o in
    let r = e % o in
    let high : q < f = div_below e o f some l in
    let low : r < o = mod-lt e some in
    let whole : e ≡ q * o + r = sym (div-add-mod' e o) in
    let block = block_at (λ r. map (λ e. r ∷ e) (elements fs)) o (λ r. length-map (elements fs) (λ e. r ∷ e) ∙ elements_size fs) 0 f q r none high low in
    let first : 0 + q ≡ q % f = omega (arith, mod-eq_of_lt high) in
    ap (λ k. get_or (elements (f ∷ fs)) k none) whole ∙ block
    ∙ get_or-map (λ e. (0 + q) ∷ e) (elements fs) r [] none (omega (arith, elements_size fs))
    ∙ ap (λ l. (0 + q) ∷ l) (element_placed fs p.1 r [] low) ∙ ap (λ k. k ∷ residues fs r) first

pub are_numbered : ElementsLaw
are_numbered fs is =
    let p = positive_shape fs is in
    record {
      size = elements_size fs;
      at = element_placed fs p;
      numbered = number_residues fs p;
      element = residues_are fs p;
      placed = residues_number fs;
      below = number_within fs;
    }
