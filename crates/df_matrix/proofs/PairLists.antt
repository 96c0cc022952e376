-- The pairs of a block's points, one first point after another.
use Rattle.std.proofs.Common.{◌≡◌, ℕ, zero, suc, ◌+◌, ◌-◌, ◌*◌, ◌<◌, ◌≤◌, ◌++◌, map, List, [], ◌∷◌, length, take, drop, get_or, refl, sym, ap, ap₂, ◌∙◌, arith, length-append, append-nil, mul-le-mul}
use Rattle.std.proofs.lemmas.List.{length-map, append_assoc, get_or_read, drop_more, take_rest}
use Rattle.std.proofs.lemmas.Simd.{map-map}
use Rattle.df_lists.specs.NumberSets.{IsSet, Rises}
use Rattle.df_subsets.specs.Subsets.{choose}
use Rattle.df_matrix.specs.MatrixParts.{pairs_before}

-- one first point more
pub pairs_more : (k p : ℕ) (b later : List ℕ) → drop k b ≡ p ∷ later → pairs_before (k + 1) b ≡ pairs_before k b ++ map (λ q. p ∷ q ∷ []) later
pairs_more zero p [] later h = absurd (let e = h in cc)
pairs_more zero p (q ∷ b) later h = append-nil (map (λ r. q ∷ r ∷ []) b) ∙ ap₂ (λ p l. map (λ r. p ∷ r ∷ []) l) (let e = h in cc) (let e = h in cc)
pairs_more (suc k) p [] later h = absurd (let e = h in cc)
pairs_more (suc k) p (q ∷ b) later h =
    ap (λ n. pairs_before n (q ∷ b)) {x = suc k + 1} {y = suc (k + 1)} (omega arith)
    ∙ ap (λ l. map (λ r. q ∷ r ∷ []) b ++ l) (pairs_more k p b later h)
    ∙ sym (append_assoc (map (λ r. q ∷ r ∷ []) b) (pairs_before k b) (map (λ q. p ∷ q ∷ []) later))

choose_one : (b : List ℕ) → choose b 1 ≡ map (λ q. q ∷ []) b
choose_one [] = refl
choose_one (q ∷ b) = ap (λ l. (q ∷ []) ∷ l) (choose_one b)

-- in the end all pairs
pub pairs_all : (b : List ℕ) → pairs_before (length b) b ≡ choose b 2
pairs_all [] = refl
pairs_all (p ∷ b) = ap₂ (λ x y. x ++ y) (sym (ap (map (λ c. p ∷ c)) (choose_one b) ∙ map-map (λ c. p ∷ c) (λ q. q ∷ []) b)) (pairs_all b)

pairs_bound : (k : ℕ) (b : List ℕ) → 2 * length (pairs_before k b) + length b ≤ length b * length b
pairs_bound zero [] = omega arith
pairs_bound zero (p ∷ b) = omega arith
pairs_bound (suc k) [] = omega arith
pairs_bound (suc k) (p ∷ b) =
    let e = length-append (map (λ q. p ∷ q ∷ []) b) (pairs_before k b) in
    let f = length-map b (λ q. p ∷ q ∷ []) in
    omega (arith, pairs_bound k b, e, f)

-- at most 120 where there are at most 16 points
pub pairs_few : (k : ℕ) (b : List ℕ) → length b ≤ 16 → length (pairs_before k b) ≤ 120
pairs_few k b h =
    let e : length b * length b ≤ 16 * length b = mul-le-mul h (omega arith) in
    omega (arith, pairs_bound k b, e)

-- what follows in a block is a block
pub block_drop : (low v k : ℕ) (b : List ℕ) → Rises low v b → IsSet v (drop k b)
block_drop low v zero [] r = tt
block_drop low v zero (p ∷ b) (l, w, r) = (omega arith, w, r)
block_drop low v (suc k) [] r = tt
block_drop low v (suc k) (p ∷ b) (l, w, r) = block_drop (p + 1) v k b r

-- each point is from the first on, and below the number of points
pub rises_at : (low v k : ℕ) (b : List ℕ) → Rises low v b → k < length b → (low ≤ get_or b k 0) × (get_or b k 0 < v)
rises_at low v k [] r h = absurd (omega (arith, h))
rises_at low v zero (p ∷ b) (l, w, r) h = (l, w)
rises_at low v (suc k) (p ∷ b) (l, w, r) h = let m = rises_at (p + 1) v k b r (omega (arith, h)) in (omega (arith, m.0, l), m.1)

-- a point that is read comes after the first point, and lies below the number of points
pub read_later : (v p k q : ℕ) (later : List ℕ) → IsSet v (p ∷ later) → k < length later → q ≡ get_or later k q → (p < q) × (q < v)
read_later v p k q later (l, w, r) h at = let m = rises_at (p + 1) v k later r h in let e = get_or_read later k q h at 0 in (omega (arith, m.0, e), omega (arith, m.1, e))

-- a block from one of its points on, as it is read
pub from_point : (b points others : List ℕ) (k p : ℕ) → k < length b → points ≡ b → p ≡ get_or points k p → others ≡ b → drop k b ≡ p ∷ take (length others - (k + 1)) (drop (k + 1) others)
from_point b points others k p h e at f =
    let first : p ≡ get_or b k 0 = get_or_read b k p h (at ∙ ap (λ l. get_or l k p) e) 0 in
    let rest : take (length others - (k + 1)) (drop (k + 1) others) ≡ drop (k + 1) b = take_rest others (k + 1) ∙ ap (drop (k + 1)) f in
    drop_more b k 0 h ∙ sym (ap₂ (λ p l. p ∷ l) first rest)
