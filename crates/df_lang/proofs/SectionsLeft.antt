-- The statements of the sections that remain, one section on.
use Rattle.std.proofs.Common.{◌≡◌, ℕ, zero, suc, ◌+◌, ◌-◌, ◌<◌, ◌≤◌, List, [], ◌∷◌, ◌++◌, length, get_or, drop, Some, refl, ap, ◌∙◌, arith, length-append}
use Rattle.std.specs.Prelude.{slice_get}
use Rattle.std.specs.List.{flat_map}
use Rattle.std.proofs.lemmas.List.{drop_more, drop_all}
use Rattle.std.proofs.lemmas.Option.{slice_get-get_or}
use Rattle.df_lang.specs.declared.canonical.Section.{Section}
use Rattle.df_lang.specs.Problems.{Stated}
use Rattle.df_lang.specs.Canonical.{statements_in, statements_of, sections}

get_front : {X : Type 0} (xs ys : List X) (i : ℕ) → i < length xs → slice_get (xs ++ ys) i ≡ slice_get xs i
get_front [] ys i h = absurd (omega arith)
get_front (x ∷ xs) ys zero h = refl
get_front (x ∷ xs) ys (suc i) h = get_front xs ys i (omega arith)

get_back : {X : Type 0} (xs ys : List X) (i : ℕ) → length xs ≤ i → slice_get (xs ++ ys) i ≡ slice_get ys (i - length xs)
get_back [] ys i h = ap (slice_get ys) (omega arith)
get_back (x ∷ xs) ys zero h = absurd (omega arith)
get_back (x ∷ xs) ys (suc i) h = get_back xs ys i (omega arith) ∙ ap (slice_get ys) (omega arith)

module _ (p : Stated) (i : ℕ) (h : i < 13) (d : Section) where
  split : flat_map (statements_in p) (drop i sections) ≡ statements_in p (get_or sections i d) ++ flat_map (statements_in p) (drop (i + 1) sections)
  split = ap (flat_map (statements_in p)) (drop_more sections i d h)

  pub counted_more : (count n : ℕ) → n ≡ length (statements_in p (get_or sections i d)) → count + length (flat_map (statements_in p) (drop i sections)) ≡ length (statements_of p)
      → (count + n) + length (flat_map (statements_in p) (drop (i + 1) sections)) ≡ length (statements_of p)
  counted_more count n is all =
      omega (arith, is, all, ap length split, length-append (statements_in p (get_or sections i d)) (flat_map (statements_in p) (drop (i + 1) sections)))

  pub left_more : (n line before : ℕ) → n ≡ length (statements_in p (get_or sections i d)) → before ≤ line → n ≤ line - before
      → slice_get (statements_of p) line ≡ slice_get (flat_map (statements_in p) (drop i sections)) (line - before)
      → slice_get (statements_of p) line ≡ slice_get (flat_map (statements_in p) (drop (i + 1) sections)) (line - (before + n))
  left_more n line before is within past left =
      left ∙ ap (λ l. slice_get l (line - before)) split
      ∙ get_back (statements_in p (get_or sections i d)) (flat_map (statements_in p) (drop (i + 1) sections)) (line - before) (omega (arith, is))
      ∙ ap (slice_get (flat_map (statements_in p) (drop (i + 1) sections))) (omega (arith, is))

  pub left_found : (n line before : ℕ) → n ≡ length (statements_in p (get_or sections i d)) → line - before < n
      → slice_get (statements_of p) line ≡ slice_get (flat_map (statements_in p) (drop i sections)) (line - before)
      → slice_get (statements_of p) line ≡ Some (get_or (statements_in p (get_or sections i d)) (line - before) [])
  left_found n line before is within left =
      left ∙ ap (λ l. slice_get l (line - before)) split
      ∙ get_front (statements_in p (get_or sections i d)) (flat_map (statements_in p) (drop (i + 1) sections)) (line - before) (omega (arith, is))
      ∙ slice_get-get_or (statements_in p (get_or sections i d)) (line - before) [] (omega (arith, is))

-- after the last section nothing remains
pub none_left : (p : Stated) (i : ℕ) → 13 ≤ i → flat_map (statements_in p) (drop i sections) ≡ []
none_left p i h = ap (flat_map (statements_in p)) (drop_all i sections h)
