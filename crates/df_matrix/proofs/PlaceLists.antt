-- The places of the listed blocks that pass a test.
use Rattle.std.proofs.Common.{◌≡◌, ℕ, suc, ◌+◌, ◌<◌, ◌≤◌, Bool, true, false, cond, map, filter, ◌++◌, List, [], ◌∷◌, length, get_or, refl, sym, ap, ap₂, ◌∙◌, arith, Some, slice_get, append-nil, ⊎_elim}
use Rattle.std.specs.List.{range_with_len}
use Rattle.std.specs.Option.{option_map}
use Rattle.std.specs.List.Sorted.{IsStrictlyIncreasing}
use Rattle.std.proofs.lemmas.List.{length-map, get_or-map}
use Rattle.std.proofs.lemmas.List.Kept.{IsStrictlyIncreasing-filter}
use Rattle.std.proofs.lemmas.List.FromFn.{get_or-range_with_len, length-range_with_len}
use Rattle.std.proofs.lemmas.Option.{slice_get-map, slice_get-get_or, slice_get_read, get_or_from_slice_get}
use Rattle.std.proofs.lemmas.Bool.{cases_lt}
use Rattle.df_lists.specs.Membership.{In}
use Rattle.df_lists.proofs.RangeLaws.{filter_more}
use Rattle.df_lists.proofs.MemberLaws.{In-filter, In-filter_gives, In-range, In-range_gives}
use Rattle.df_lists.proofs.TestLaws.{filter_agree}
use Rattle.df_lists.proofs.ListPlaces.{In_place, In-slice_get}
use Rattle.df_matrix.specs.MatrixParts.{places_where}

range_rises : (a n : ℕ) → IsStrictlyIncreasing (range_with_len a n)
range_rises a n k h = let l = length-range_with_len a n in let x = get_or-range_with_len a n k 0 (omega (arith, h, l)) in let y = get_or-range_with_len a n (k + 1) 0 (omega (arith, h, l)) in omega (arith, x, y)

module _ (test : List ℕ → Bool) (blocks : List (List ℕ)) where
  -- the places increase
  pub places_rise : IsStrictlyIncreasing (places_where test blocks)
  places_rise = IsStrictlyIncreasing-filter (λ i. test (get_or blocks i [])) (range_with_len 0 (length blocks)) (range_rises 0 (length blocks))

  -- a place is below their number, and the block there passes
  pub place_passes : (i : ℕ) → In (places_where test blocks) i → (i < length blocks) × (test (get_or blocks i []) ≡ true)
  place_passes i j =
      let g = In-filter_gives (λ i. test (get_or blocks i [])) (range_with_len 0 (length blocks)) i j in
      let r = In-range_gives 0 (length blocks) i g.0 in
      (omega (arith, r.1), g.1)

  pub place_listed : (i : ℕ) → i < length blocks → test (get_or blocks i []) ≡ true → In (places_where test blocks) i
  place_listed i h t = In-filter (λ i. test (get_or blocks i [])) (range_with_len 0 (length blocks)) i (In-range 0 (length blocks) i (omega arith) (omega (arith, h))) t

-- blocks at the places from a on
filtered : (test : List ℕ → Bool) (all : List (List ℕ)) (blocks : List (List ℕ)) (a : ℕ) → ((i : ℕ) → i < length blocks → get_or all (a + i) [] ≡ get_or blocks i []) → map (λ i. get_or all i []) (filter (λ i. test (get_or all i [])) (range_with_len a (length blocks))) ≡ filter test blocks
filtered test all [] a look = refl
filtered test all (b ∷ blocks) a look = head (filtered test all blocks (a + 1) later)
  where
    first : get_or all a [] ≡ b
    first = ap (λ i. get_or all i []) {x = a} {y = a + 0} (omega arith) ∙ look 0 (omega arith)

    later : (i : ℕ) → i < length blocks → get_or all (a + 1 + i) [] ≡ get_or blocks i []
    later i l = ap (λ i. get_or all i []) {x = a + 1 + i} {y = a + suc i} (omega arith) ∙ look (suc i) (omega (arith, l))

    head : map (λ i. get_or all i []) (filter (λ i. test (get_or all i [])) (range_with_len (a + 1) (length blocks))) ≡ filter test blocks → map (λ i. get_or all i []) (filter (λ i. test (get_or all i [])) (range_with_len a (suc (length blocks)))) ≡ filter test (b ∷ blocks)
    head rest = step (test b) (ap test first)
      where
        step : (t : Bool) → test (get_or all a []) ≡ t → map (λ i. get_or all i []) (cond (test (get_or all a [])) (a ∷ filter (λ i. test (get_or all i [])) (range_with_len (a + 1) (length blocks))) (filter (λ i. test (get_or all i [])) (range_with_len (a + 1) (length blocks)))) ≡ cond t (b ∷ filter test blocks) (filter test blocks)
        step true e = rw e (ap₂ (λ x l. x ∷ l) first rest)
        step false e = rw e rest

-- the blocks at the places are those that pass
pub blocks_at_places : (test : List ℕ → Bool) (blocks : List (List ℕ)) → map (λ i. get_or blocks i []) (places_where test blocks) ≡ filter test blocks
blocks_at_places test blocks = filtered test blocks blocks 0 (λ i h. ap (λ i. get_or blocks i []) {x = 0 + i} {y = i} (omega arith))

pub places_long : (test : List ℕ → Bool) (blocks : List (List ℕ)) → length (places_where test blocks) ≡ length (filter test blocks)
places_long test blocks = sym (length-map (places_where test blocks) (λ i. get_or blocks i [])) ∙ ap length (blocks_at_places test blocks)

-- the block at a listed place
pub block_at_place : (test : List ℕ → Bool) (blocks : List (List ℕ)) (k i : ℕ) → slice_get (places_where test blocks) k ≡ Some i → slice_get (filter test blocks) k ≡ slice_get blocks i
block_at_place test blocks k i h =
    let at = place_passes test blocks i (In-slice_get (places_where test blocks) k i h) in
    ap (λ l. slice_get l k) (sym (blocks_at_places test blocks)) ∙ slice_get-map (λ i. get_or blocks i []) (places_where test blocks) k ∙ ap (option_map (λ i. get_or blocks i [])) h ∙ sym (slice_get-get_or blocks i [] at.0)

-- one number more
pub numbers_more : (test : ℕ → Bool) (n : ℕ) (numbers : List ℕ) → numbers ≡ filter test (range_with_len 0 n) → test n ≡ true → numbers ++ n ∷ [] ≡ filter test (range_with_len 0 (n + 1))
numbers_more test n numbers e t = ap (λ l. l ++ n ∷ []) e ∙ sym (filter_more test n ∙ ap (λ b. filter test (range_with_len 0 n) ++ cond b (n ∷ []) []) t)

pub numbers_same : (test : ℕ → Bool) (n : ℕ) (numbers : List ℕ) → numbers ≡ filter test (range_with_len 0 n) → test n ≡ false → numbers ≡ filter test (range_with_len 0 (n + 1))
numbers_same test n numbers e t = e ∙ sym (filter_more test n ∙ ap (λ b. filter test (range_with_len 0 n) ++ cond b (n ∷ []) []) t ∙ append-nil (filter test (range_with_len 0 n)))

-- marks tell the places
pub places_marked : (test : List ℕ → Bool) (blocks : List (List ℕ)) (marks : List Bool) → marks ≡ map test blocks → filter (λ i. get_or marks i false) (range_with_len 0 (length marks)) ≡ places_where test blocks
places_marked test blocks marks e =
    ap (λ l. filter (λ i. get_or l i false) (range_with_len 0 (length l))) e
    ∙ ap (λ n. filter (λ i. get_or (map test blocks) i false) (range_with_len 0 n)) (length-map blocks test)
    ∙ filter_agree (λ i. get_or (map test blocks) i false) (λ i. test (get_or blocks i [])) (range_with_len 0 (length blocks))
    (λ i j. let r = In-range_gives 0 (length blocks) i j in get_or-map test blocks i [] false (omega (arith, r.1)))

-- where no number is the one that was looked for
pub not_listed : (xs : List ℕ) (x r : ℕ) → ((k : ℕ) → k < r → get_or xs k 0 < x) → ((k : ℕ) → r ≤ k → k < length xs → x < get_or xs k 0) → In xs x → ⊥
not_listed xs x r below above i =
    let p = In_place xs x 0 i in
    ⊎_elim (λ less. let e = below p.0 less in omega (arith, e, p.2)) (λ more. let e = above p.0 more p.1 in omega (arith, e, p.2)) (cases_lt p.0 r)

-- a number that is read among the places, and the block there
pub read_place : (test : List ℕ → Bool) (blocks : List (List ℕ)) (numbers : List ℕ) (k x : ℕ) → numbers ≡ places_where test blocks → k < length numbers → x ≡ get_or numbers k x → (x < length blocks) × (slice_get (filter test blocks) k ≡ slice_get blocks x)
read_place test blocks numbers k x e h read =
    let at : slice_get (places_where test blocks) k ≡ Some x = ap (λ l. slice_get l k) (sym e) ∙ slice_get_read numbers (length numbers) k x refl h read in
    ((place_passes test blocks x (In-slice_get (places_where test blocks) k x at)).0, block_at_place test blocks k x at)

pub read_block : (test : List ℕ → Bool) (blocks : List (List ℕ)) (numbers : List ℕ) (k x : ℕ) → numbers ≡ places_where test blocks → k < length numbers → x ≡ get_or numbers k x → get_or (filter test blocks) k [] ≡ get_or blocks x []
read_block test blocks numbers k x e h read =
    let r = read_place test blocks numbers k x e h read in
    get_or_from_slice_get (filter test blocks) k (get_or blocks x []) [] (r.1 ∙ slice_get-get_or blocks x [] r.0)
