-- The table, one row on.
use Rattle.std.proofs.Common.{◌≡◌, ℕ, ◌+◌, List, [], ◌∷◌, ◌++◌, map, sym, ap, ◌∙◌, append_assoc, append-nil}
use Rattle.std.specs.List.{range_with_len, flat_map}
use Rattle.std.proofs.lemmas.List.{map-id, map-append}
use Rattle.std.proofs.lemmas.List.Concat.{flat_map-append}
use Rattle.std.proofs.lemmas.List.FromFn.{map-range_with_len_more}
use Rattle.df_lang.specs.Problems.{Stated}
use Rattle.df_family.specs.declared.table.Row.{Row}
use Rattle.df_family.specs.declared.table.Entry.{Entry}
use Rattle.df_family.specs.Tables.{entry}

-- one more entry
pub entry_more : (s : Stated) (row : ℕ → Row) (start old new : List Entry) (a n k m : ℕ) → a + n ≡ k → m ≡ n + 1
    → old ≡ start ++ map (entry s) (map row (range_with_len a n)) → new ≡ old ++ entry s (row k) ∷ [] → new ≡ start ++ map (entry s) (map row (range_with_len a m))
entry_more s row start old new a n k m e f before after =
    after ∙ ap (λ l. l ++ entry s (row k) ∷ []) before ∙ append_assoc start (map (entry s) (map row (range_with_len a n))) (entry s (row k) ∷ [])
    ∙ ap (λ l. start ++ l) (sym (ap (λ x. map (entry s) (map row (range_with_len a x))) f ∙ ap (map (entry s)) (map-range_with_len_more row a n k e) ∙ map-append (entry s) (map row (range_with_len a n)) (row k ∷ [])))

range_more_from : (a n k : ℕ) → a + n ≡ k → range_with_len a (n + 1) ≡ range_with_len a n ++ k ∷ []
range_more_from a n k e = sym (map-id (range_with_len a (n + 1))) ∙ map-range_with_len_more (λ (x : ℕ). x) a n k e ∙ ap (λ l. l ++ k ∷ []) (map-id (range_with_len a n))

-- one more list of rows
pub entries_more : (s : Stated) (rows : ℕ → List Row) (start old new : List Entry) (a n k m : ℕ) → a + n ≡ k → m ≡ n + 1
    → old ≡ start ++ map (entry s) (flat_map rows (range_with_len a n)) → new ≡ old ++ map (entry s) (rows k) → new ≡ start ++ map (entry s) (flat_map rows (range_with_len a m))
entries_more s rows start old new a n k m e f before after =
    after ∙ ap (λ l. l ++ map (entry s) (rows k)) before ∙ append_assoc start (map (entry s) (flat_map rows (range_with_len a n))) (map (entry s) (rows k))
    ∙ ap (λ l. start ++ l)
    (sym (ap (λ x. map (entry s) (flat_map rows (range_with_len a x))) f ∙ ap (λ l. map (entry s) (flat_map rows l)) (range_more_from a n k e)
    ∙ ap (map (entry s)) (flat_map-append rows (range_with_len a n) (k ∷ []) ∙ ap (λ l. flat_map rows (range_with_len a n) ++ l) (append-nil (rows k)))
    ∙ map-append (entry s) (flat_map rows (range_with_len a n)) (rows k)))
