-- The places of blocks.
use Rattle.std.proofs.Common.{◌≡◌, ℕ, suc, zero, ◌+◌, ◌-◌, ◌<◌, ◌≤◌, true, false, ◌++◌, map, List, [], ◌∷◌, length, get_or, refl, sym, ap, ap₂, ◌∙◌, subst, arith, ⊎_elim, slice_get, Some}
use Rattle.std.proofs.lemmas.Bool.{cases_eq, both_ways, cases_Bool}
use Rattle.std.proofs.lemmas.List.{length-map, get_or_append_left, get_or-append-add, get_or-map}
use Rattle.std.proofs.lemmas.List.FromFn.{length-range_with_len}
use Rattle.std.proofs.lemmas.Option.{slice_get-get_or, slice_get_within, get_or_from_slice_get}
use Rattle.std.specs.List.{range_with_len}
use Rattle.df_lists.specs.Membership.{In}
use Rattle.df_lists.specs.NumberSets.{Rises, IsSet}
use Rattle.df_subsets.specs.Blocks.{before}
use Rattle.df_lists.specs.Orders.{IsSorted}
use Rattle.df_subsets.specs.Subsets.{choose, subsets, binomial, same_list, place_of, rank}
use Rattle.df_lists.proofs.RisingLists.{Rises-wider}
use Rattle.df_subsets.proofs.SubsetLists.{length-choose, subsets_inside, subsets_long, same_list-gives, same_list-self}
use Rattle.df_subsets.proofs.BlockOrders.{lists_ordered, subsets_sorted}
use Rattle.df_lists.proofs.ListPlaces.{In-get_or}

-- how many blocks of the size of b come after it: for each of its points those that agree before the point and have a later one there
abbrev pub later : ℕ → List ℕ → ℕ
later v [] = 0
later v (p ∷ b) = binomial (v - 1 - p) (length (p ∷ b)) + later v b

choose_long : (low n k : ℕ) → length (choose (range_with_len low n) k) ≡ binomial n k
choose_long low n k = length-choose (range_with_len low n) k ∙ ap (λ m. binomial m k) (length-range_with_len low n)

-- a block stands where as many places follow as blocks come after it
pub stands : (n low v k : ℕ) (b d : List ℕ) → low + n ≡ v → Rises low v b → length b ≡ k
    → (later v b < binomial n k) × ((i : ℕ) → i + later v b + 1 ≡ binomial n k → get_or (choose (range_with_len low n) k) i d ≡ b)
stands zero low v zero [] d w r e = (omega arith, λ i h. let z : i ≡ 0 = omega (arith, h) in ap (λ i. get_or ([] ∷ []) i d) z)
stands zero low v (suc k) [] d w r e = absurd (omega arith)
stands zero low v k (p ∷ b) d w r e = absurd (omega (arith, r.0, r.1))
stands (suc n) low v zero [] d w r e = (omega arith, λ i h. let z : i ≡ 0 = omega (arith, h) in ap (λ i. get_or ([] ∷ []) i d) z)
stands (suc n) low v (suc k) [] d w r e = absurd (omega arith)
stands (suc n) low v zero (p ∷ b) d w r e = absurd (omega arith)
stands (suc n) low v (suc k) (p ∷ b) d w r e =
    ⊎_elim
    (λ s. here s (stands n (low + 1) v k b d (omega arith) (Rises-wider (low + 1) (p + 1) v v b (omega arith) (omega arith) r.2) (omega arith)))
    (λ ne. there ne (stands n (low + 1) v (suc k) (p ∷ b) d (omega arith) (omega (arith, r.0), r.1, r.2) e))
    (cases_eq p low)
  where
    long : length (map (λ c. low ∷ c) (choose (range_with_len (low + 1) n) k)) ≡ binomial n k
    long = length-map (choose (range_with_len (low + 1) n) k) (λ c. low ∷ c) ∙ choose_long (low + 1) n k

    here : p ≡ low → (later v b < binomial n k) × ((i : ℕ) → i + later v b + 1 ≡ binomial n k → get_or (choose (range_with_len (low + 1) n) k) i d ≡ b)
        → (later v (p ∷ b) < binomial (suc n) (suc k)) × ((i : ℕ) → i + later v (p ∷ b) + 1 ≡ binomial (suc n) (suc k) → get_or (choose (range_with_len low (suc n)) (suc k)) i d ≡ p ∷ b)
    here s more =
        let first : binomial (v - 1 - p) (length (p ∷ b)) ≡ binomial n (suc k) = ap₂ binomial (omega (arith, w, s)) e in (
          omega (arith, first, more.0),
          λ i h.
              let at : i + later v b + 1 ≡ binomial n k = omega (arith, first, h) in
              get_or_append_left (map (λ c. low ∷ c) (choose (range_with_len (low + 1) n) k)) (choose (range_with_len (low + 1) n) (suc k)) d i (omega (arith, at, long))
              ∙ get_or-map (λ c. low ∷ c) (choose (range_with_len (low + 1) n) k) i d d (omega (arith, at, choose_long (low + 1) n k))
              ∙ ap (λ c. low ∷ c) (more.1 i at) ∙ ap (λ q. q ∷ b) (sym s),
        )

    there : (p ≡ low → ⊥) → (later v (p ∷ b) < binomial n (suc k)) × ((i : ℕ) → i + later v (p ∷ b) + 1 ≡ binomial n (suc k) → get_or (choose (range_with_len (low + 1) n) (suc k)) i d ≡ p ∷ b)
        → (later v (p ∷ b) < binomial (suc n) (suc k)) × ((i : ℕ) → i + later v (p ∷ b) + 1 ≡ binomial (suc n) (suc k) → get_or (choose (range_with_len low (suc n)) (suc k)) i d ≡ p ∷ b)
    there ne more = (
      omega (arith, more.0),
      λ i h.
          let m = i - binomial n k in
          let at : m + later v (p ∷ b) + 1 ≡ binomial n (suc k) = omega (arith, h, more.0) in
          let split : i ≡ binomial n k + m = omega (arith, h, more.0) in
          ap (λ j. get_or (map (λ c. low ∷ c) (choose (range_with_len (low + 1) n) k) ++ choose (range_with_len (low + 1) n) (suc k)) j d) (split ∙ ap (λ j. j + m) (sym long))
          ∙ get_or-append-add (map (λ c. low ∷ c) (choose (range_with_len (low + 1) n) k)) (choose (range_with_len (low + 1) n) (suc k)) m d
          ∙ more.1 m at,
    )

-- in a sorted list each member stands first at its place
place_at : (xs : List (List ℕ)) (i : ℕ) (d : List ℕ) → IsSorted before xs → i < length xs → place_of (get_or xs i d) xs ≡ i
place_at [] i d s h = absurd (omega arith)
place_at (x ∷ xs) zero d s h = rw (same_list-self x) refl
place_at (x ∷ xs) (suc i) d s h =
    let y = get_or xs i d in
    let differs : same_list y x ≡ false = ⊎_elim (λ t. absurd (both_ways (before x x) (lists_ordered.unlike x) (subst (λ z. before x z ≡ true) (same_list-gives y x t) (s.0 y (In-get_or xs i d (omega arith)))))) (λ f. f) (cases_Bool (same_list y x)) in
    rw differs (ap suc (place_at xs i d s.1 (omega arith)))

-- the rank, from the number of blocks that come after
pub rank_is : (v : ℕ) (b : List ℕ) (i : ℕ) → IsSet v b → i + later v b + 1 ≡ binomial v (length b) → rank v b ≡ i
rank_is v b i r h =
    let at = (stands v 0 v (length b) b [] (omega arith) r refl).1 i h in
    let long = subsets_long v (length b) in
    sym (ap (λ c. place_of c (subsets v (length b))) at) ∙ place_at (subsets v (length b)) i [] (subsets_sorted v (length b)) (omega (arith, h, long))

pub rank_later : (v : ℕ) (b : List ℕ) → IsSet v b → rank v b + later v b + 1 ≡ binomial v (length b)
rank_later v b r =
    let few = (stands v 0 v (length b) b [] (omega arith) r refl).0 in
    let i = binomial v (length b) - 1 - later v b in
    let at : i + later v b + 1 ≡ binomial v (length b) = omega (arith, few) in
    omega (arith, rank_is v b i r at, at)

pub rank_below : (v k : ℕ) (b : List ℕ) → IsSet v b → length b ≡ k → rank v b < binomial v k
rank_below v k b r e = subst (λ n. rank v b < binomial v n) e (let h = rank_later v b r in omega (arith, h))

pub at_rank : (v k : ℕ) (b : List ℕ) → IsSet v b → length b ≡ k → slice_get (subsets v k) (rank v b) ≡ Some b
at_rank v k b r e =
    let h : rank v b + later v b + 1 ≡ binomial v k = subst (λ n. rank v b + later v b + 1 ≡ binomial v n) e (rank_later v b r) in
    slice_get-get_or (subsets v k) (rank v b) [] (omega (arith, h, subsets_long v k)) ∙ ap Some ((stands v 0 v k b [] (omega arith) r e).1 (rank v b) h)

pub rank_of : (v k i : ℕ) (b : List ℕ) → slice_get (subsets v k) i ≡ Some b → rank v b ≡ i
rank_of v k i b h =
    let inside = slice_get_within (subsets v k) i b h in
    let at = get_or_from_slice_get (subsets v k) i b [] h in
    let long = (subsets_inside v k b (subst (In (subsets v k)) at (In-get_or (subsets v k) i [] inside))).1 in
    ap (λ n. place_of b (subsets v n)) long ∙ sym (ap (λ c. place_of c (subsets v k)) at) ∙ place_at (subsets v k) i [] (subsets_sorted v k) inside

-- what stands at a place is a block of the size
pub inside_at : (v k i : ℕ) (b : List ℕ) → slice_get (subsets v k) i ≡ Some b → IsSet v b × (length b ≡ k)
inside_at v k i b h =
    let inside = slice_get_within (subsets v k) i b h in
    subsets_inside v k b (subst (In (subsets v k)) (get_or_from_slice_get (subsets v k) i b [] h) (In-get_or (subsets v k) i [] inside))

-- the choices that have the first point, and those that don't
pub with_first_at : (n low k i : ℕ) → i < binomial n k → get_or (choose (range_with_len low (suc n)) (suc k)) i [] ≡ low ∷ get_or (choose (range_with_len (low + 1) n) k) i []
with_first_at n low k i h =
    let long = choose_long (low + 1) n k in
    get_or_append_left (map (λ c. low ∷ c) (choose (range_with_len (low + 1) n) k)) (choose (range_with_len (low + 1) n) (suc k)) [] i (omega (arith, h, long, length-map (choose (range_with_len (low + 1) n) k) (λ c. low ∷ c)))
    ∙ get_or-map (λ c. low ∷ c) (choose (range_with_len (low + 1) n) k) i [] [] (omega (arith, h, long))

pub without_first_at : (n low k i : ℕ) → binomial n k ≤ i → get_or (choose (range_with_len low (suc n)) (suc k)) i [] ≡ get_or (choose (range_with_len (low + 1) n) (suc k)) (i - binomial n k) []
without_first_at n low k i h =
    let long : length (map (λ c. low ∷ c) (choose (range_with_len (low + 1) n) k)) ≡ binomial n k = length-map (choose (range_with_len (low + 1) n) k) (λ c. low ∷ c) ∙ choose_long (low + 1) n k in
    let split : i ≡ binomial n k + (i - binomial n k) = omega arith in
    ap (λ j. get_or (map (λ c. low ∷ c) (choose (range_with_len (low + 1) n) k) ++ choose (range_with_len (low + 1) n) (suc k)) j []) (split ∙ ap (λ j. j + (i - binomial n k)) (sym long))
    ∙ get_or-append-add (map (λ c. low ∷ c) (choose (range_with_len (low + 1) n) k)) (choose (range_with_len (low + 1) n) (suc k)) (i - binomial n k) []
