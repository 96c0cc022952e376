-- Rows that are listed one pair after another.
use Rattle.std.proofs.Common.{◌≡◌, ℕ, ◌+◌, ◌<◌, ◌++◌, map, List, [], ◌∷◌, length, get_or, take, refl, sym, ap, ap₂, ◌∙◌, subst, arith, eqb, cond, Bool, true, false, Some, slice_get, length-append, eq-eqb, eqb-true}
use Rattle.std.specs.List.Sorted.{IsPermutation}
use Rattle.std.specs.List.{sum_by}
use Rattle.std.proofs.lemmas.List.{append_assoc, take_more, map-append}
use Rattle.std.proofs.lemmas.List.Elements.{All-push}
use Rattle.std.proofs.lemmas.List.Recursion.{is_sum_by}
use Rattle.std.proofs.lemmas.List.Sorted.{sum_by-IsPermutation, All-permutation, length_permutation}
use Rattle.df_lists.specs.Membership.{count}
use Rattle.df_lists.specs.Totals.{one}
use Rattle.df_lists.proofs.ListTotals.{list_total, count_total}
use Rattle.df_lists.proofs.TestLaws.{same_tests}
use Rattle.df_lists.proofs.MemberLaws.{count-append}
use Rattle.df_lang.specs.Problems.{Stated}
use Rattle.df_kramer_mesner.specs.OrbitSystems.{in_one_orbit, pairs_of}
use Rattle.df_matrix.specs.MatrixParts.{AreRowsOf}

pub eqb_turned : (m n : ℕ) → eqb m n ≡ eqb n m
eqb_turned m n = same_tests (eqb m n) (eqb n m) (λ h. eq-eqb n m (sym (eqb-true m n h))) (λ h. eq-eqb m n (sym (eqb-true n m h)))

pub count_one : {X : Type 0} (t : X → Bool) (x : X) → count t (x ∷ []) ≡ one (t x)
count_one t x = elim (t x) as (λ b. length (cond b (x ∷ []) []) ≡ one b) [ true ↦ refl | false ↦ refl ]

pub rows_none : (s : Stated) → AreRowsOf s [] []
rows_none s = record { long = refl; within = λ k d h. absurd (omega arith); tally = λ i pair h. refl }

-- a pair and its row
pub rows_more : (s : Stated) (done : List (List ℕ)) (rows p : List ℕ) (r : ℕ) → AreRowsOf s done rows → r < length (pairs_of s) → ((i : ℕ) (pair : List ℕ) → slice_get (pairs_of s) i ≡ Some pair → in_one_orbit s p pair ≡ eqb i r) → AreRowsOf s (done ++ p ∷ []) (rows ++ r ∷ [])
rows_more s done rows p r R h own = record {
  long = omega (arith, R.long, length-append rows (r ∷ []), length-append done (p ∷ []));
  within = All-push (λ row. row < length (pairs_of s)) rows r R.within h;
  tally = λ i pair at.
      count-append (λ row. eqb row i) rows (r ∷ [])
      ∙ ap₂ (λ m n. m + n) (R.tally i pair at) (count_one (λ row. eqb row i) r ∙ ap one (eqb_turned r i ∙ sym (own i pair at)) ∙ sym (count_one (λ q. in_one_orbit s q pair) p))
      ∙ sym (count-append (λ q. in_one_orbit s q pair) done (p ∷ []));
}

-- the pairs of a point and one point more
pub rows_next : (s : Stated) (done : List (List ℕ)) (rows later : List ℕ) (p k q r : ℕ) → k < length later → q ≡ get_or later k 0 → AreRowsOf s (done ++ map (λ q. p ∷ q ∷ []) (take k later)) rows → r < length (pairs_of s)
    → ((i : ℕ) (pair : List ℕ) → slice_get (pairs_of s) i ≡ Some pair → in_one_orbit s (p ∷ q ∷ []) pair ≡ eqb i r) → AreRowsOf s (done ++ map (λ q. p ∷ q ∷ []) (take (k + 1) later)) (rows ++ r ∷ [])
rows_next s done rows later p k q r within at R h own =
    let e = ap (map (λ q. p ∷ q ∷ [])) (take_more later k 0 within) ∙ map-append (λ q. p ∷ q ∷ []) (take k later) (get_or later k 0 ∷ []) ∙ ap (λ q. map (λ q. p ∷ q ∷ []) (take k later) ++ (p ∷ q ∷ []) ∷ []) (sym at) in
    subst (λ l. AreRowsOf s l (rows ++ r ∷ [])) (append_assoc done (map (λ q. p ∷ q ∷ []) (take k later)) ((p ∷ q ∷ []) ∷ []) ∙ ap (λ l. done ++ l) (sym e)) (rows_more s (done ++ map (λ q. p ∷ q ∷ []) (take k later)) rows (p ∷ q ∷ []) r R h own)

count_sum : {X : Type 0} (t : X → Bool) (xs : List X) → count t xs ≡ sum_by (λ x. one (t x)) xs
count_sum t xs = count_total t xs ∙ is_sum_by (list_total (λ x. one (t x))) (λ x. one (t x)) refl (λ _ _. refl) xs

-- the order in which rows are listed doesn't matter
pub rows_ordered : (s : Stated) (pairs : List (List ℕ)) (rows sorted : List ℕ) → AreRowsOf s pairs rows → IsPermutation rows sorted → AreRowsOf s pairs sorted
rows_ordered s pairs rows sorted R p = record {
  long = length_permutation rows sorted p ∙ R.long;
  within = All-permutation (λ row. row < length (pairs_of s)) rows sorted p R.within;
  tally = λ i pair at. count_sum (λ row. eqb row i) sorted ∙ sum_by-IsPermutation (λ row. one (eqb row i)) rows sorted p ∙ sym (count_sum (λ row. eqb row i) rows) ∙ R.tally i pair at;
}
