-- The first block of a size, and the next one.
use Rattle.std.proofs.Common.{◌≡◌, ℕ, suc, zero, ◌+◌, ◌-◌, ◌*◌, ◌^◌, ◌<◌, ◌≤◌, ◌++◌, List, [], ◌∷◌, length, bit_or, ◌%◌, ⊎_elim, refl, sym, ap, ap₂, ◌∙◌, arith, length-append, slice_get, Some, None}
use Rattle.std.specs.List.{range_with_len}
use Rattle.std.proofs.lemmas.List.FromFn.{length-range_with_len}
use Rattle.std.proofs.lemmas.Nat.{pow_pos, pow-add, one_shl, shl_whole, or_shifted}
use Rattle.std.proofs.lemmas.Bool.{cases_lt}
use Rattle.std.proofs.Math.Nat.{pow-le-pow_right}
use Rattle.std.proofs.lemmas.Option.{slice_get_past}
use Rattle.std.proofs.lemmas.List.Sums.{sum_by-cons}
use Rattle.df_lists.specs.Bits.{members, weight}
use Rattle.df_lists.proofs.BitLaws.{weight_members}
use Rattle.df_lists.specs.NumberSets.{Rises, IsSet}
use Rattle.df_subsets.specs.Subsets.{points, subsets, binomial, rank}
use Rattle.df_lists.proofs.RisingLists.{Rises-wider}
use Rattle.df_subsets.proofs.SubsetLists.{subsets_long}
use Rattle.df_subsets.proofs.Binomials.{binomial_all}
use Rattle.df_sets.proofs.MemberBits.{members_weight, members_low}
use Rattle.df_subsets.proofs.BlockBits.{weight_run, weight-append, run_rises, Rises-append}
use Rattle.df_subsets.proofs.Places.{later, rank_is, rank_later, at_rank}

later-append : (v x : ℕ) (a b c : List ℕ) → length c ≡ length b → later v c + x ≡ later v b → later v (a ++ c) + x ≡ later v (a ++ b)
later-append v x [] b c e h = h
later-append v x (p ∷ a) b c e h =
    let same : binomial (v - 1 - p) (length (p ∷ (a ++ c))) ≡ binomial (v - 1 - p) (length (p ∷ (a ++ b))) = ap (λ n. binomial (v - 1 - p) (suc n)) (length-append a c ∙ ap (λ n. length a + n) e ∙ sym (length-append a b)) in
    let ih = later-append v x a b c e h in
    omega (arith, same, ih)

-- after a run of points come as many blocks as there are other choices from its first point on
later_run : (v q s : ℕ) → q + s ≤ v → later v (range_with_len q s) + 1 ≡ binomial (v - q) s
later_run v q zero h = refl
later_run v q (suc s) h =
    let ih = later_run v (q + 1) s (omega arith) in
    let first : binomial (v - 1 - q) (length (range_with_len q (suc s))) ≡ binomial (v - 1 - q) (suc s) = ap (binomial (v - 1 - q)) (length-range_with_len q (suc s)) in
    let rest : binomial (v - (q + 1)) s ≡ binomial (v - 1 - q) s = ap (λ n. binomial n s) {x = v - (q + 1)} {y = v - 1 - q} (omega arith) in
    let row : binomial (v - q) (suc s) ≡ binomial (v - 1 - q) s + binomial (v - 1 - q) (suc s) = ap (λ n. binomial n (suc s)) {x = v - q} {y = suc (v - 1 - q)} (omega arith) in
    omega (arith, ih, first, rest, row)

later_top : (v t : ℕ) → t ≤ v → later v (range_with_len (v - t) t) ≡ 0
later_top v t h =
    let run = later_run v (v - t) t (omega arith) in
    let one : binomial (v - (v - t)) t ≡ 1 = ap (λ n. binomial n t) {x = v - (v - t)} {y = t} (omega arith) ∙ binomial_all t in
    omega (arith, run, one)

next_later : (v p t : ℕ) (a : List ℕ) → p + t + 2 ≤ v → later v (a ++ range_with_len (p + 1) (t + 1)) + 1 ≡ later v (a ++ p ∷ range_with_len (v - t) t)
next_later v p t a h =
    later-append v 1 a (p ∷ range_with_len (v - t) t) (range_with_len (p + 1) (t + 1)) (length-range_with_len (p + 1) (t + 1) ∙ long)
    (let run = later_run v (p + 1) (t + 1) (omega arith) in
    let first : binomial (v - 1 - p) (length (p ∷ range_with_len (v - t) t)) ≡ binomial (v - (p + 1)) (t + 1) = ap₂ binomial {x = v - 1 - p} {y = v - (p + 1)} (omega arith) (sym long) in
    omega (arith, run, first, later_top v t (omega arith)))
  where
    long : t + 1 ≡ length (p ∷ range_with_len (v - t) t)
    long = let l = length-range_with_len (v - t) t in omega arith

-- the first block
pub first_is : (v k : ℕ) → k ≤ v → slice_get (subsets v k) 0 ≡ Some (points k)
first_is v k h =
    let block = run_rises 0 k v (omega arith) in
    let long = length-range_with_len 0 k in
    let run : later v (points k) + 1 ≡ binomial v k = later_run v 0 k (omega arith) ∙ ap (λ n. binomial n k) {x = v - 0} {y = v} (omega arith) in
    let zeroth : rank v (points k) ≡ 0 = rank_is v (points k) 0 block (omega (arith, run, ap (binomial v) long)) in
    sym (ap (slice_get (subsets v k)) zeroth) ∙ at_rank v k (points k) block long

pub first_bits : (k : ℕ) → k ≤ 128 → members (2 ^ k - 1) ≡ points k
first_bits k h =
    let run = weight_run 0 k in
    let same : 2 ^ (0 + k) ≡ 2 ^ k = ap (λ n. 2 ^ n) {x = 0 + k} {y = k} (omega arith) in
    ap members {x = 2 ^ k - 1} {y = weight (points k)} (omega (arith, run, same)) ∙ members_weight 0 128 (points k) (omega arith) (run_rises 0 k 128 (omega arith))

-- the block next to another stands at the next place
pub next_is : (v : ℕ) (b c : List ℕ) → IsSet v b → IsSet v c → length c ≡ length b → later v c + 1 ≡ later v b → slice_get (subsets v (length b)) (rank v b + 1) ≡ Some c
next_is v b c r s e h =
    let here = rank_later v b r in
    let same = ap (binomial v) e in
    let next : rank v c ≡ rank v b + 1 = rank_is v c (rank v b + 1) s (omega (arith, here, h, same)) in
    sym (ap (slice_get (subsets v (length b))) next) ∙ at_rank v (length b) c s e

pub none_next : (v : ℕ) (b : List ℕ) → IsSet v b → later v b ≡ 0 → slice_get (subsets v (length b)) (rank v b + 1) ≡ None
none_next v b r h = let here = rank_later v b r in slice_get_past (subsets v (length b)) (rank v b + 1) (omega (arith, here, h, subsets_long v (length b)))

run_product : (a m q w lower : ℕ) → a ≡ m + 1 → w + q ≡ q * a → m * q + lower ≡ lower + w
run_product a m q w lower e h = let f : w + q ≡ q * (m + 1) = h ∙ ap (λ n. q * n) e in omega (arith, f)

-- a run at the top of v points, and the bits below it
module _ (v t : ℕ) (small : v ≤ 128) (fits : t ≤ v) where
  top_rises : Rises (v - t) v (range_with_len (v - t) t)
  top_rises = run_rises (v - t) t v (omega arith)

  -- nothing below the run
  pub all_top : (b : List ℕ) → IsSet v b → 0 + weight (range_with_len (v - t) t) ≡ weight b → b ≡ range_with_len (v - t) t
  all_top b r e = sym (members_weight 0 v b small r) ∙ ap members {x = weight b} {y = weight (range_with_len (v - t) t)} (omega (arith, e)) ∙ members_weight (v - t) v (range_with_len (v - t) t) small top_rises

  pub last_one : (b : List ℕ) → IsSet v b → 0 + weight (range_with_len (v - t) t) ≡ weight b → slice_get (subsets v (length b)) (rank v b + 1) ≡ None
  last_one b r e = none_next v b r (ap (later v) (all_top b r e) ∙ later_top v t fits)

  -- a point p below the run, with a gap between them, and the points before it
  module _ (p lower : ℕ) (gap : p + t + 2 ≤ v) (low : lower < 2 ^ p) where
    before_p : IsSet p (members lower)
    before_p = members_low lower p (omega arith) low

    lower_weight : weight (members lower) ≡ lower
    lower_weight = weight_members lower (let l = pow-le-pow_right {n = 2} (omega arith) {i = p} {j = 128} (omega arith) in omega (arith, l, low))

    old_rises : IsSet v (members lower ++ p ∷ range_with_len (v - t) t)
    old_rises = Rises-append 0 p v (members lower) (p ∷ range_with_len (v - t) t) (omega arith) (omega arith) before_p (omega arith, omega arith, Rises-wider (p + 1) (v - t) v v (range_with_len (v - t) t) (omega arith) (omega arith) top_rises)

    new_rises : IsSet v (members lower ++ range_with_len (p + 1) (t + 1))
    new_rises = Rises-append 0 (p + 1) v (members lower) (range_with_len (p + 1) (t + 1)) (omega arith) (omega arith) (Rises-wider 0 0 p (p + 1) (members lower) (omega arith) (omega arith) before_p) (run_rises (p + 1) (t + 1) v (omega arith))

    old_is : (b : List ℕ) → IsSet v b → 2 ^ p + lower + weight (range_with_len (v - t) t) ≡ weight b → b ≡ members lower ++ p ∷ range_with_len (v - t) t
    old_is b r e =
        let old = members lower ++ p ∷ range_with_len (v - t) t in
        let same : weight b ≡ weight old = omega (arith, e, weight-append (members lower) (p ∷ range_with_len (v - t) t), sum_by-cons (λ i. 2 ^ i) p (range_with_len (v - t) t), lower_weight) in
        sym (members_weight 0 v b small r) ∙ ap members same ∙ members_weight 0 v old small old_rises

    pub new_is : members ((2 ^ (t + 1) - 1) * 2 ^ (p + 1) + lower) ≡ members lower ++ range_with_len (p + 1) (t + 1)
    new_is =
        let new = members lower ++ range_with_len (p + 1) (t + 1) in
        let run = weight_run (p + 1) (t + 1) in
        let product : 2 ^ (p + 1 + (t + 1)) ≡ 2 ^ (p + 1) * 2 ^ (t + 1) = pow-add 2 (p + 1) (t + 1) in
        let powers = pow_pos (t + 1) in
        let same : (2 ^ (t + 1) - 1) * 2 ^ (p + 1) + lower ≡ weight new = run_product (2 ^ (t + 1)) (2 ^ (t + 1) - 1) (2 ^ (p + 1)) (weight (range_with_len (p + 1) (t + 1))) lower (omega (arith, powers)) (run ∙ product) ∙ sym (weight-append (members lower) (range_with_len (p + 1) (t + 1)) ∙ ap (λ n. n + weight (range_with_len (p + 1) (t + 1))) lower_weight) in
        ap members same ∙ members_weight 0 v new small new_rises

    pub next_one : (b : List ℕ) → IsSet v b → 2 ^ p + lower + weight (range_with_len (v - t) t) ≡ weight b
        → slice_get (subsets v (length b)) (rank v b + 1) ≡ Some (members ((2 ^ (t + 1) - 1) * 2 ^ (p + 1) + lower))
    next_one b r e =
        let new = members lower ++ range_with_len (p + 1) (t + 1) in
        let is = old_is b r e in
        let long : length new ≡ length b = omega (
          arith,
          ap length is,
          length-append (members lower) (p ∷ range_with_len (v - t) t),
          length-append (members lower) (range_with_len (p + 1) (t + 1)),
          length-range_with_len (v - t) t,
          length-range_with_len (p + 1) (t + 1),
        ) in
        next_is v b new r new_rises long (next_later v p t (members lower) gap ∙ sym (ap (later v) is)) ∙ ap Some (sym new_is)

-- the last point below the run has a gap above it
pub has_gap : (v t p low : ℕ) → 2 ^ p ≤ low → low < 2 ^ (v - 1 - t) → p + t + 2 ≤ v
has_gap v t p low h k = ⊎_elim (λ l. omega arith) (λ g. let up = pow-le-pow_right {n = 2} (omega arith) {i = v - 1 - t} {j = p} g in absurd (omega (arith, up, h, k))) (cases_lt p (v - 1 - t))

-- the bits of the next block, as they are shifted and joined
pub joined_bits : (v t p lower : ℕ) → v ≤ 128 → p + t + 2 ≤ v → lower < 2 ^ p → bit_or ((1 * 2 ^ (t + 1) % 2 ^ 128 - 1) * 2 ^ (p + 1) % 2 ^ 128) lower ≡ (2 ^ (t + 1) - 1) * 2 ^ (p + 1) + lower
joined_bits v t p lower small gap low =
    let pos = pow_pos (t + 1) in
    let up = pow-le-pow_right {n = 2} (omega arith) {i = p} {j = p + 1} (omega arith) in
    ap (λ n. bit_or ((n - 1) * 2 ^ (p + 1) % 2 ^ 128) lower) (one_shl (t + 1) 128 (omega arith))
    ∙ ap (λ n. bit_or n lower) (shl_whole (2 ^ (t + 1) - 1) (t + 1) (p + 1) 128 (omega (arith, pos)) (omega arith))
    ∙ or_shifted (2 ^ (t + 1) - 1) (p + 1) lower (omega (arith, up, low))
