-- The place of a block in an increasing list, or else the one where it may be put, as a search by halving tells it.
use Rattle.std.proofs.Common.{◌≡◌, ℕ, suc, zero, ◌+◌, ◌<◌, Bool, true, false, List, [], ◌∷◌, length, get_or, refl, sym, ap, ◌∙◌, subst, inl, arith, Ok, Err}
use Rattle.std.specs.Prelude.{MatchResult}
use Rattle.std.specs.declared.result.Result.{Result}
use Rattle.std.specs.declared.cmp.Ordering.TheVariants.{Less, Equal, Greater}
use Rattle.std.specs.Ordering.{nat_cmp, is_lt, ordering_index, ordering_reverse}
use Rattle.std.specs.Cmp.{nat_cmp_total, IsTotalOrder}
use Rattle.std.specs.Cmp.Lexicographic.{slice_cmp, lists_total}
use Rattle.std.specs.List.Sorted.{IsBinarySearchResult, IsNonDecreasingBy, IsSearchInRange}
use Rattle.std.proofs.lemmas.List.Sorted.{searchable_from_sorted}
use Rattle.df_lists.specs.Membership.{In}
use Rattle.df_lists.specs.Orders.{IsSorted}
use Rattle.df_lists.proofs.ListPlaces.{In-get_or}
use Rattle.df_subsets.specs.Blocks.{before}
use Rattle.df_subsets.specs.SubsetLaws.{AreOrdered}
use Rattle.df_design.specs.LeftBlocks.{IsPlaceFor}
use Rattle.df_design.proofs.ReadyBlocks.{not_both}

lists : IsTotalOrder (slice_cmp nat_cmp)
lists = lists_total nat_cmp_total

false_from : (b : Bool) → (b ≡ true → ⊥) → b ≡ false
false_from true f = absurd (f refl)
false_from false f = refl

module _ (A : AreOrdered) where
  less_before : (a b : List ℕ) → slice_cmp nat_cmp a b ≡ Less → before a b ≡ true
  less_before a b e = A.of_lists a b ∙ ap is_lt e

  -- the other way round
  after_is : (a b : List ℕ) → before b a ≡ is_lt (ordering_reverse (slice_cmp nat_cmp a b))
  after_is a b = A.of_lists b a ∙ ap is_lt (lists.antisymm b a)

  greater_after : (a b : List ℕ) → slice_cmp nat_cmp a b ≡ Greater → before b a ≡ true
  greater_after a b e = after_is a b ∙ ap (λ o. is_lt (ordering_reverse o)) e

  equal_same : (a b : List ℕ) → slice_cmp nat_cmp a b ≡ Equal → a ≡ b
  equal_same a b e = A.order.either a b (A.of_lists a b ∙ ap is_lt e) (after_is a b ∙ ap (λ o. is_lt (ordering_reverse o)) e)

  -- an increasing list doesn't fall
  never_falls : (xs : List (List ℕ)) (k : ℕ) (d : List ℕ) → IsSorted before xs → k + 1 < length xs → before (get_or xs (suc k) d) (get_or xs k d) ≡ false
  never_falls [] k d s l = absurd (omega (arith, l))
  never_falls (x ∷ []) k d s l = absurd (omega (arith, l))
  never_falls (x ∷ (w ∷ xs)) zero d s l = false_from (before w x) (λ h. not_both A.order x w (s.0 w (inl refl)) h)
  never_falls (x ∷ (w ∷ xs)) (suc k) d s l = never_falls (w ∷ xs) k d s.1 (omega (arith, l))

  searchable : (xs : List (List ℕ)) (y : List ℕ) → IsSorted before xs → IsNonDecreasingBy (λ z. ordering_index (slice_cmp nat_cmp z y)) xs
  searchable xs y s = searchable_from_sorted lists (λ z. z) xs y (λ k d low l. sym (A.of_lists (get_or xs (k + 1) d) (get_or xs k d)) ∙ subst (λ n. before (get_or xs n d) (get_or xs k d) ≡ false) (omega arith) (never_falls xs k d s l))

  -- what the search says of blocks that increase
  pub block_found : (xs : List (List ℕ)) (y : List ℕ) (r : Result ℕ ℕ) → IsSorted before xs → IsSearchInRange r (length xs) → IsBinarySearchResult (λ z. slice_cmp nat_cmp z y) xs r → MatchResult r (λ place. In xs y) (IsPlaceFor xs y)
  block_found xs y (Ok place) s l h = subst (In xs) (equal_same (get_or xs place []) y (h [])) (In-get_or xs place [] l)
  block_found xs y (Err place) s l h =
      let parts = h (searchable xs y s) in
      record {
        within = l;
        earlier = λ j m. less_before (get_or xs j []) y (parts.0 j [] (omega arith) m);
        later = λ j m n. greater_after (get_or xs j []) y (parts.1 j [] m n);
      }
