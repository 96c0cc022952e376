-- The table of pairs, one row or the rows of one point on, and what its rows are.
use Rattle.std.proofs.Common.{◌≡◌, ℕ, ◌+◌, true, false, cond, List, [], ◌∷◌, ◌++◌, map, filter, get_or, All, refl, sym, ap, ◌∙◌, subst, append_assoc, append-nil}
use Rattle.std.specs.List.{range_with_len, flat_map}
use Rattle.std.proofs.lemmas.List.{map-append}
use Rattle.std.proofs.lemmas.List.Concat.{flat_map-append}
use Rattle.std.proofs.lemmas.List.Elements.{filter-append}
use Rattle.std.proofs.lemmas.List.FromFn.{map-range_with_len_more}
use Rattle.df_lists.proofs.MemberLaws.{In-map_gives}
use Rattle.df_lists.proofs.RangeLaws.{range_more}
use Rattle.df_lang.specs.Problems.{Stated}
use Rattle.df_lists.proofs.ListPlaces.{In-get_or}
use Rattle.df_mixed.specs.declared.table.PairEntry.{PairEntry}
use Rattle.df_mixed.specs.PairOrbits.{shifts_of, pairs_from, is_row, pair_rows}
use Rattle.df_mixed.specs.MixedTables.{pair_entry, mixed_table, IsPair}
use Rattle.df_mixed.proofs.PairBalance.{row_pair}

module _ (s : Stated) (shifts : List ℕ) where
  abbrev rows_in : List (ℕ × ℕ) → List PairEntry
  rows_in pairs = map (pair_entry s shifts) (filter (is_row s shifts) pairs)

  rows_join : (xs ys : List (ℕ × ℕ)) → rows_in (xs ++ ys) ≡ rows_in xs ++ rows_in ys
  rows_join xs ys = ap (map (pair_entry s shifts)) (filter-append (is_row s shifts) xs ys) ∙ map-append (pair_entry s shifts) (filter (is_row s shifts) xs) (filter (is_row s shifts) ys)

  row_alone : (x : ℕ × ℕ) → rows_in (x ∷ []) ≡ cond (is_row s shifts x) (pair_entry s shifts x ∷ []) []
  row_alone x =
      elim (is_row s shifts x) as (λ v. map (pair_entry s shifts) (cond v (x ∷ []) []) ≡ cond v (pair_entry s shifts x ∷ []) []) [
        | true ↦ refl
        | false ↦ refl
      ]

  -- one more pair
  pub row_more : (start old new : List PairEntry) (p a n k m : ℕ) → a + n ≡ k → m ≡ n + 1 → old ≡ start ++ rows_in (map (λ (q : ℕ). (p, q)) (range_with_len a n))
      → new ≡ old ++ cond (is_row s shifts (p, k)) (pair_entry s shifts (p, k) ∷ []) [] → new ≡ start ++ rows_in (map (λ (q : ℕ). (p, q)) (range_with_len a m))
  row_more start old new p a n k m e f before after =
      let with_p : ℕ → ℕ × ℕ = λ q. (p, q) in
      let last = cond (is_row s shifts (p, k)) (pair_entry s shifts (p, k) ∷ []) [] in
      after ∙ ap (λ l. l ++ last) before ∙ append_assoc start (rows_in (map with_p (range_with_len a n))) last
      ∙ ap (λ l. start ++ l)
      (sym (ap (λ x. rows_in (map with_p (range_with_len a x))) f ∙ ap rows_in (map-range_with_len_more with_p a n k e) ∙ rows_join (map with_p (range_with_len a n)) ((p, k) ∷ [])
      ∙ ap (λ l. rows_in (map with_p (range_with_len a n)) ++ l) (row_alone (p, k))))

  -- the pairs of one more first point
  pub rows_more : (old new : List PairEntry) (p : ℕ) → old ≡ rows_in (flat_map (pairs_from s) (range_with_len 0 p)) → new ≡ old ++ rows_in (pairs_from s p) → new ≡ rows_in (flat_map (pairs_from s) (range_with_len 0 (p + 1)))
  rows_more old new p before after =
      after ∙ ap (λ l. l ++ rows_in (pairs_from s p)) before
      ∙ sym (ap (λ l. rows_in (flat_map (pairs_from s) l)) (range_more p)
      ∙ ap rows_in (flat_map-append (pairs_from s) (range_with_len 0 p) (p ∷ []) ∙ ap (λ l. flat_map (pairs_from s) (range_with_len 0 p) ++ l) (append-nil (pairs_from s p)))
      ∙ rows_join (flat_map (pairs_from s) (range_with_len 0 p)) (pairs_from s p))

-- each entry is of two points of the problem, the lower one first
pub entries_are : (s : Stated) → All (λ (e : PairEntry). IsPair s e.pair) (mixed_table s)
entries_are s k d h =
    let e = get_or (mixed_table s) k d in
    let m = In-map_gives (pair_entry s (shifts_of s)) (pair_rows s (shifts_of s)) e (In-get_or (mixed_table s) k d h) in
    subst (λ (e : PairEntry). IsPair s e.pair) m.2 (row_pair s (shifts_of s) m.0 m.1)
