-- The pieces of an element's token.
use Rattle.std.proofs.Common.{◌≡◌, ℕ, ◌+◌, ◌*◌, ◌<◌, ◌≤◌, true, false, ltb, Bool, List, [], ◌∷◌, length, get_or, drop, drop_of_length-le, take, All, zero, suc, Bor, is_some, option_copied, Option, Some, None, Ok, Err, ok_or, refl, ap, ◌∙◌, arith, tests, mul-le-mul, mul_assoc, add-mul, option_map, nat_lt, if◌then◌else◌}
use Rattle.std.specs.List.{slice_split, position, position_or_len}
use Rattle.std.proofs.lemmas.List.{drop_more}
use Rattle.std.proofs.lemmas.List.Splits.{slice_split_first, slice_split_none, length-slice_split}
use Rattle.std.proofs.lemmas.List.Sums.{fails_before_first}
use Rattle.df_group.specs.Elements.{order_of, number, IsFactor, IsShape}
use Rattle.df_lang.specs.declared.fault.SourceFault.{SourceFault}
use Rattle.df_lang.specs.declared.fault.SourceFault.TheVariants.{BadNumber}
use Rattle.df_lang.specs.Rules.{◌>>?◌, value_of, number_of}
use Rattle.df_lang.specs.Values.{residues_of, element_of, is_comma}
use Rattle.df_lang.specs.Pieces.{pieces_left}

-- the number of the element, where place is that of the pieces before
unfoldable pub element_from : List ℕ → List (List ℕ) → ℕ → Option ℕ
element_from [] [] place = Some place
element_from [] (piece ∷ pieces) place = None
element_from (f ∷ fs) [] place = None
element_from (f ∷ fs) (piece ∷ pieces) place = value_of piece >>? λ r. if nat_lt r f then element_from fs pieces (place * f + r) else None

-- and it is the number of the residues
module _ (f : ℕ) (fs : List ℕ) (pieces : List (List ℕ)) (place : ℕ) where
  joined : (r : ℕ) (o : Option (List ℕ)) → option_map (λ rs. (place * f + r) * order_of fs + number fs rs) o ≡ option_map (λ rs. place * order_of (f ∷ fs) + number (f ∷ fs) rs) (option_map (λ rs. r ∷ rs) o)
  joined r None = refl
  joined r (Some rs) = ap Some (omega (arith, add-mul (place * f) r (order_of fs), mul_assoc place f (order_of fs)))

  one_part : (r : ℕ) (b : Bool) → element_from fs pieces (place * f + r) ≡ option_map (λ rs. (place * f + r) * order_of fs + number fs rs) (residues_of fs pieces)
      → (if b then element_from fs pieces (place * f + r) else None) ≡ option_map (λ rs. place * order_of (f ∷ fs) + number (f ∷ fs) rs) (if b then option_map (λ rs. r ∷ rs) (residues_of fs pieces) else None)
  one_part r true ih = ih ∙ joined r (residues_of fs pieces)
  one_part r false ih = refl

  part_of : (o : Option ℕ) → ((r : ℕ) → element_from fs pieces (place * f + r) ≡ option_map (λ rs. (place * f + r) * order_of fs + number fs rs) (residues_of fs pieces))
      → (o >>? λ r. if nat_lt r f then element_from fs pieces (place * f + r) else None)
      ≡ option_map (λ rs. place * order_of (f ∷ fs) + number (f ∷ fs) rs) (o >>? λ r. if nat_lt r f then option_map (λ rs. r ∷ rs) (residues_of fs pieces) else None)
  part_of None ih = refl
  part_of (Some r) ih = one_part r (nat_lt r f) (ih r)

by_residues : (fs : List ℕ) (pieces : List (List ℕ)) (place : ℕ) → element_from fs pieces place ≡ option_map (λ rs. place * order_of fs + number fs rs) (residues_of fs pieces)
unfolding element_from residues_of
by_residues [] [] place = ap Some (omega arith)
by_residues [] (piece ∷ pieces) place = refl
by_residues (f ∷ fs) [] place = refl
by_residues (f ∷ fs) (piece ∷ pieces) place = part_of f fs pieces place (value_of piece) (λ r. by_residues fs pieces (place * f + r))

pub element_whole_token : (fs token : List ℕ) → element_from fs (slice_split is_comma token) 0 ≡ element_of fs token
unfolding element_of
element_whole_token fs token = by_residues fs (slice_split is_comma token) 0 ∙ from_zero (residues_of fs (slice_split is_comma token)) where
  from_zero : (o : Option (List ℕ)) → option_map (λ rs. 0 * order_of fs + number fs rs) o ≡ option_map (number fs) o
  from_zero None = refl
  from_zero (Some rs) = ap Some (omega arith)

pub cut_at : (xs : List ℕ) (at : ℕ) → position is_comma xs ≡ Some at → slice_split is_comma xs ≡ take at xs ∷ slice_split is_comma (drop (at + 1) xs)
cut_at xs at e =
    let low : position_or_len is_comma xs < length xs = grind (arith, tests) in
    let is : position_or_len is_comma xs ≡ at = grind (arith, tests) in
    slice_split_first is_comma xs 0 low ∙ ap (λ n. take n xs ∷ slice_split is_comma (drop (n + 1) xs)) is

pub cut_none : (xs : List ℕ) → position is_comma xs ≡ None → slice_split is_comma xs ≡ xs ∷ []
cut_none xs e =
    let past : length xs ≤ position_or_len is_comma xs = grind (arith, tests) in
    slice_split_none is_comma xs (λ k d h. fails_before_first is_comma xs k d (omega arith))

value_some : (o : Option ℕ) (r : ℕ) → Ok r ≡ ok_or o BadNumber → o ≡ Some r
value_some None r e = absurd cc
value_some (Some x) r e = cc

pub value_none : (piece : List ℕ) (e : SourceFault) → Err e ≡ number_of piece → value_of piece ≡ None
value_none piece e is = none_of (value_of piece) is where
  none_of : (o : Option ℕ) → Err e ≡ ok_or o BadNumber → o ≡ None
  none_of None is = refl
  none_of (Some x) is = absurd cc

-- one more piece, of a factor
pub element_more : (fs : List ℕ) (i : ℕ) (piece : List ℕ) (pieces all : List (List ℕ)) (place r : ℕ) → i < length fs → all ≡ piece ∷ pieces → Ok r ≡ number_of piece → r < get_or fs i 0
    → element_from (drop (i + 1) fs) pieces (place * get_or fs i 0 + r) ≡ element_from (drop i fs) all place
unfolding element_from
element_more fs i piece pieces all place r h split e below =
    let fits : ltb r (get_or fs i 0) ≡ true = grind (arith, tests) in
    let value = value_some (value_of piece) r e in
    rw (drop_more fs i 0 h, split, value, fits) refl

pub bound_more : (fs : List ℕ) (i place r n : ℕ) → i < length fs → r < get_or fs i 0 → (place + 1) * order_of (drop i fs) ≤ n → ((place * get_or fs i 0 + r) + 1) * order_of (drop (i + 1) fs) ≤ n
bound_more fs i place r n h below bound =
    let f = get_or fs i 0 in
    let o = order_of (drop (i + 1) fs) in
    let split : order_of (drop i fs) ≡ f * o = ap order_of (drop_more fs i 0 h) in
    let assoc : (place + 1) * f * o ≡ (place + 1) * (f * o) = mul_assoc (place + 1) f o in
    let less : (place * f + r) + 1 ≤ (place + 1) * f = omega arith in
    let more : ((place * f + r) + 1) * o ≤ (place + 1) * f * o = mul-le-mul less (omega arith) in
    omega (arith, more, assoc, ap (λ m. (place + 1) * m) split)

-- the ends of a token
pub element_few : (fs : List ℕ) (i place : ℕ) → i < length fs → element_from (drop i fs) [] place ≡ None
unfolding element_from
element_few fs i place h = rw (drop_more fs i 0 h) refl

pub element_many : (fs : List ℕ) (i place : ℕ) (piece : List ℕ) (pieces : List (List ℕ)) → length fs ≤ i → element_from (drop i fs) (piece ∷ pieces) place ≡ None
unfolding element_from
element_many fs i place piece pieces h = rw (drop_of_length-le fs h) refl

pub element_end : (fs : List ℕ) (i place : ℕ) → length fs ≤ i → element_from (drop i fs) [] place ≡ Some place
unfolding element_from
element_end fs i place h = rw (drop_of_length-le fs h) refl

pub element_bad : (fs : List ℕ) (i : ℕ) (piece : List ℕ) (pieces all : List (List ℕ)) (place : ℕ) → i < length fs → all ≡ piece ∷ pieces → value_of piece ≡ None → element_from (drop i fs) all place ≡ None
unfolding element_from
element_bad fs i piece pieces all place h split e = rw (drop_more fs i 0 h, split, e) refl

pub element_large : (fs : List ℕ) (i : ℕ) (piece : List ℕ) (pieces all : List (List ℕ)) (place r : ℕ) → i < length fs → all ≡ piece ∷ pieces → Ok r ≡ number_of piece → get_or fs i 0 ≤ r → element_from (drop i fs) all place ≡ None
unfolding element_from
element_large fs i piece pieces all place r h split e above =
    let past : ltb r (get_or fs i 0) ≡ false = grind (arith, tests) in
    rw (drop_more fs i 0 h, split, value_some (value_of piece) r e, past) refl

positive_drop : (n : ℕ) (fs : List ℕ) → All IsFactor fs → 1 ≤ order_of (drop n fs)
positive_drop zero [] each = omega arith
positive_drop zero (f ∷ fs) each =
    let rest = positive_drop zero fs (λ k d h. each (suc k) d (omega (arith, h))) in
    omega (arith, mul-le-mul (each 0 0 (omega arith)).0 rest)
positive_drop (suc n) [] each = omega arith
positive_drop (suc n) (f ∷ fs) each = positive_drop n fs (λ k d h. each (suc k) d (omega (arith, h)))

-- the next place is small
pub place_small : (fs : List ℕ) (i place r : ℕ) → IsShape fs → i < length fs → r < get_or fs i 0 → (place + 1) * order_of (drop i fs) ≤ order_of fs → place * get_or fs i 0 + r < 128
place_small fs i place r is h below bound =
    let more = bound_more fs i place r (order_of fs) h below bound in
    let some = positive_drop (i + 1) fs is.factors in
    let n = (place * get_or fs i 0 + r) + 1 in
    let le : n * 1 ≤ n * order_of (drop (i + 1) fs) = mul-le-mul (omega arith) some in
    omega (arith, le, more, is.small)

-- at the end the place is below the order
pub place_end : (fs : List ℕ) (i place : ℕ) → length fs ≤ i → (place + 1) * order_of (drop i fs) ≤ order_of fs → place < order_of fs
place_end fs i place h bound =
    let none : order_of (drop i fs) ≡ 1 = ap order_of (drop_of_length-le fs h) in
    omega (arith, bound, ap (λ n. (place + 1) * n) none)

past : (pieces : List (List ℕ)) (place : ℕ) → 0 < length pieces → element_from [] pieces place ≡ None
unfolding element_from
past [] place h = absurd (omega arith)
past (piece ∷ pieces) place h = refl

-- pieces past the last factor
pub element_past : (fs : List ℕ) (i place : ℕ) (rest : Option (Bor (List ℕ))) → length fs ≤ i → is_some rest ≡ true → element_from (drop i fs) (pieces_left (option_copied rest)) place ≡ None
element_past fs i place None h e = absurd cc
element_past fs i place (Some text) h e = rw (drop_of_length-le fs h) (past (slice_split is_comma text.now) place (omega (arith, length-slice_split is_comma text.now)))

pub element_whole : (fs : List ℕ) (i place : ℕ) (rest : Option (Bor (List ℕ))) → length fs ≤ i → is_some rest ≡ false → element_from (drop i fs) (pieces_left (option_copied rest)) place ≡ Some place
element_whole fs i place None h e = element_end fs i place h
element_whole fs i place (Some text) h e = absurd cc
