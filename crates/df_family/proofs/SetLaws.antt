-- Sets of numbers that grow by one number.
use Rattle.std.proofs.Common.{◌≡◌, ℕ, zero, suc, ◌+◌, ◌<◌, ◌≤◌, Bool, true, false, cond, eqb, ltb, List, [], ◌∷◌, ◌++◌, map, filter, take, get_or, length, refl, sym, ap, ◌∙◌, arith, tests, append-nil}
use Rattle.std.specs.List.{range_with_len}
use Rattle.std.proofs.lemmas.List.{map_more}
use Rattle.df_lists.specs.NumberSets.{set_of, with_member}
use Rattle.df_lists.proofs.RangeLaws.{filter_more}
use Rattle.df_lists.proofs.SetLaws.{set_more}

pub image_more : (v : ℕ) (f : ℕ → ℕ) (xs : List ℕ) (i x : ℕ) → i < length xs → x ≡ get_or xs i x → f x < v → with_member (f x) (set_of v (map f (take i xs))) ≡ set_of v (map f (take (i + 1) xs))
image_more v f xs i x h is below = set_more v (map f (take i xs)) (f x) below ∙ ap (set_of v) (ap (λ y. map f (take i xs) ++ f y ∷ []) is ∙ sym (map_more f xs i x h))

-- a number above all that a test picks
above_all : (t : ℕ → Bool) (a n p : ℕ) → a + n ≤ p → with_member p (filter t (range_with_len a n)) ≡ filter t (range_with_len a n) ++ p ∷ []
above_all t a zero p h = refl
above_all t a (suc n) p h =
    let ih = above_all t (a + 1) n p (omega arith) in
    let less : ltb p a ≡ false = grind (arith, tests) in
    let differs : eqb p a ≡ false = grind (arith, tests) in
    let rest = filter t (range_with_len (a + 1) n) in
    elim (t a) as (λ v. with_member p (cond v (a ∷ rest) rest) ≡ cond v (a ∷ rest) rest ++ p ∷ []) [
      | true ↦ rw (less, differs, ih) refl
      | false ↦ ih
    ]

-- the next number of a range, where the test picks it and where it doesn't
pub picked : (t : ℕ → Bool) (n : ℕ) → t n ≡ true → with_member n (filter t (range_with_len 0 n)) ≡ filter t (range_with_len 0 (n + 1))
picked t n e = above_all t 0 n n (omega arith) ∙ sym (filter_more t n ∙ ap (λ v. filter t (range_with_len 0 n) ++ cond v (n ∷ []) []) e)

pub passed_over : (t : ℕ → Bool) (n : ℕ) → t n ≡ false → filter t (range_with_len 0 n) ≡ filter t (range_with_len 0 (n + 1))
passed_over t n e = sym (filter_more t n ∙ ap (λ v. filter t (range_with_len 0 n) ++ cond v (n ∷ []) []) e ∙ append-nil (filter t (range_with_len 0 n)))
