-- What is found in tables.
use Rattle.std.proofs.Common.{◌≡◌, ℕ, ◌+◌, ◌*◌, ◌/◌, ◌%◌, ◌<◌, ◌≤◌, ◌++◌, List, [], ◌∷◌, length, get_or, sym, ap, ap₂, ◌∙◌, subst, arith, ⊎_elim, length-append}
use Rattle.std.proofs.lemmas.Bool.{cases_lt}
use Rattle.std.proofs.lemmas.List.{get_or_push, get_or_append_left}
use Rattle.std.proofs.lemmas.Nat.{div-mul-add, mod-mul-add, mul-add-lt}
use Rattle.std.specs.List.{range_with_len}
use Rattle.df_lists.specs.Membership.{In}
use Rattle.df_lists.proofs.MemberLaws.{In-map}
use Rattle.df_lists.proofs.SetLaws.{In-points}
use Rattle.df_maps.specs.FullMaps.{MapGroup, full_maps, map_number, carried, point_count}
use Rattle.df_maps.specs.Laws.{AreGroup}
use Rattle.df_orbits.specs.LookupTables.{AreImages, AreNumbered, IsPairNumber}

-- one place more of a table
pub table_more : (f : ℕ → ℕ) (old new : List ℕ) (n x : ℕ) → length old ≡ n → ((k : ℕ) → k < n → get_or old k 0 ≡ f k) → new ≡ old ++ x ∷ [] → x ≡ f n → (k : ℕ) → k < n + 1 → get_or new k 0 ≡ f k
table_more f old new n x long is put here k h =
    ap (λ l. get_or l k 0) put
    ∙ ⊎_elim
    (λ l. get_or_append_left old (x ∷ []) 0 k (omega (arith, l, long)) ∙ is k l)
    (λ g. let e : k ≡ n = omega (arith, g, h) in get_or_push old x 0 k (omega (arith, long, e)) ∙ here ∙ ap f (sym e))
    (cases_lt k n)

pub table_longer : (old new : List ℕ) (n x : ℕ) → length old ≡ n → new ≡ old ++ x ∷ [] → length new ≡ n + 1
table_longer old new n x long put = omega (arith, ap length put, length-append old (x ∷ []), long)

pub number_in : (M : MapGroup) → AreGroup M → (i : ℕ) → i < length (full_maps M) → In (full_maps M) (map_number M i)
number_in M A i h = subst (λ l. In l (map_number M i)) (sym A.numbered) (In-map (map_number M) (range_with_len 0 (length (full_maps M))) i (In-points (length (full_maps M)) i h))

-- an image that is looked up
pub image_found : (own M : MapGroup) (points count : ℕ) (table : List ℕ) → AreImages own points count table → own ≡ M → (i p x : ℕ) → i < length (full_maps M) → p < point_count M → x ≡ get_or table (i * points + p) 0
    → (x ≡ carried M (map_number M i) p) × (x < point_count M)
image_found own M points count table is same i p x h k at = subst (λ N. (x ≡ carried N (map_number N i) p) × (x < point_count N)) same found
  where
    inside : i < length (full_maps own)
    inside = subst (λ N. i < length (full_maps N)) (sym same) h

    below : p < point_count own
    below = subst (λ N. p < point_count N) (sym same) k

    found : (x ≡ carried own (map_number own i) p) × (x < point_count own)
    found =
        let e = at ∙ is.images i p (omega (arith, inside, is.count_is)) (omega (arith, below, is.points_are)) in
        (e, subst (λ y. y < point_count own) (sym e) (is.maps.group.stays (map_number own i) (number_in own is.maps i inside) p below))

-- where an image is looked up
pub image_place : (own M : MapGroup) (points count : ℕ) (table : List ℕ) → AreImages own points count table → own ≡ M → (i p : ℕ) → i < length (full_maps M) → p < point_count M → i * points + p < length table
image_place own M points count table is same i p h k =
    let inside = subst (λ N. i < length (full_maps N)) (sym same) h in
    let below = subst (λ N. p < point_count N) (sym same) k in
    let rows = is.count_is in
    let width = is.points_are in
    omega (arith, mul-add-lt i points p count (omega (arith, inside, rows)) (omega (arith, below, width)), is.long)

-- a table that was filled place by place
pub images_filled : (M : MapGroup) (points count : ℕ) (table : List ℕ) → AreGroup M → points ≡ point_count M → 2 ≤ points → points ≤ 128 → count ≡ length (full_maps M) → 0 < count → count ≤ 16384 → length table ≡ count * points
    → ((k : ℕ) → k < length table → get_or table k 0 ≡ carried M (map_number M (k / point_count M)) (k % point_count M)) → AreImages M points count table
images_filled M points count table A width two small rows some few long is = record {
  maps = A;
  points_are = width;
  two = two;
  small = small;
  count_is = rows;
  some = some;
  few = few;
  long = long;
  images = λ i p h k.
      let place = mul-add-lt i points p count h k in
      is (i * points + p) (omega (arith, place, long))
      ∙ ap₂ (λ j q. carried M (map_number M j) q) (ap (λ w. (i * points + p) / w) (sym width) ∙ div-mul-add i points p k) (ap (λ w. (i * points + p) % w) (sym width) ∙ mod-mul-add i points p k);
}

-- a number that is looked up
pub number_found : (own M : MapGroup) (points : ℕ) (numbers : List ℕ) → AreNumbered own points numbers → own ≡ M → (p q x : ℕ) → p < q → q < point_count M → x ≡ get_or numbers (p * points + q) 0 → IsPairNumber M (p ∷ q ∷ []) x
number_found own M points numbers is same p q x l h at =
    let below = subst (λ N. q < point_count N) (sym same) h in
    subst (λ N. IsPairNumber N (p ∷ q ∷ []) x) same (subst (IsPairNumber own (p ∷ q ∷ [])) (sym at) (is.numbered p q l (omega (arith, below, is.points_are))))

pub number_place : (own M : MapGroup) (points : ℕ) (numbers : List ℕ) → AreNumbered own points numbers → own ≡ M → (p q : ℕ) → p < q → q < point_count M → p * points + q < length numbers
number_place own M points numbers is same p q l h =
    let below = subst (λ N. q < point_count N) (sym same) h in
    let width = is.points_are in
    omega (arith, mul-add-lt p points q points (omega (arith, below, width, l)) (omega (arith, below, width)), is.long)
