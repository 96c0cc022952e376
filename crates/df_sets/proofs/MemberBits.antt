-- Bits and the members that they keep: the first member is the lowest bit, and there are as many members as bits.
use Rattle.std.proofs.Common.{◌≡◌, ℕ, ◌+◌, ◌-◌, ◌*◌, ◌/◌, ◌%◌, ◌^◌, ◌<◌, ◌≤◌, true, eqb, eqb-true, List, [], ◌∷◌, length, refl, sym, subst, ap, ap₂, ◌∙◌, arith, bit_or, bit_and, ⊎_elim, eq-eqb}
use Rattle.std.specs.Int.{bit_at, w128, trailing_zeros}
use Rattle.std.specs.Int.RustNames.{count_ones}
use Rattle.std.proofs.lemmas.Bool.{cases_lt, cases_order, both_ways, or_left}
use Rattle.std.proofs.lemmas.Nat.{pow_pos, ones_cat, pow-add, shl-shr, or_disjoint, one_shl}
use Rattle.std.proofs.lemmas.Nat.Bits.{and_pow, bit_at-trailing_zeros}
use Rattle.std.proofs.lemmas.List.Sums.{sum_by-cons}
use Rattle.std.proofs.Math.Nat.{two-pow-succ, pow-le-pow_right, mul-mod_left, div-eq_of_lt}
use Rattle.df_lists.specs.Membership.{In}
use Rattle.df_lists.specs.NumberSets.{has_member, with_member, IsSet, Rises}
use Rattle.df_lists.proofs.SetLaws.{filter_is_set}
use Rattle.df_lists.proofs.TestLaws.{has_from}
use Rattle.df_lists.proofs.RisingLists.{Rises-filter, Rises-bound, Rises-below, none_below, with_first}
use Rattle.df_lists.specs.Bits.{members, weight, is_set}
use Rattle.df_lists.proofs.BitLaws.{members_put, has_members, weight_view}

pub members_rise : (bits : ℕ) → Rises 0 128 (members bits)
unfolding members
members_rise bits = Rises-filter (is_set bits) 0 128

pub members_set : (bits : ℕ) → IsSet 128 (members bits)
unfolding members
members_set bits = filter_is_set (is_set bits) 128

-- the weight of points from low on is a multiple of 2 ^ low
weight_multiple : (low v : ℕ) (b : List ℕ) → Rises low v b → (m : ℕ) × (weight b ≡ m * 2 ^ low)
weight_multiple low v [] r = (0, omega arith)
weight_multiple low v (p ∷ b) r =
    let more = weight_multiple (p + 1) v b r.2 in
    let m = more.0 in
    let twice : 2 ^ (p + 1) ≡ 2 * 2 ^ p = ap (λ n. 2 ^ n) (omega arith) ∙ two-pow-succ p ∙ omega arith in
    let sum : weight (p ∷ b) ≡ 2 ^ p + m * 2 ^ (p + 1) = sum_by-cons (λ i. 2 ^ i) p b ∙ ap (λ n. 2 ^ p + n) more.1 in
    let here : weight (p ∷ b) ≡ (1 + 2 * m) * 2 ^ p = sum ∙ ap (λ n. 2 ^ p + m * n) twice ∙ omega arith in
    let shift : 2 ^ p ≡ 2 ^ (p - low) * 2 ^ low = ap (λ n. 2 ^ n) (omega (arith, r.0)) ∙ pow-add 2 (p - low) low in
    ((1 + 2 * m) * 2 ^ (p - low), here ∙ ap (λ n. (1 + 2 * m) * n) shift ∙ omega arith)

-- no bit below low is set
pub weight_clear : (p v : ℕ) (b : List ℕ) → Rises (p + 1) v b → bit_at (weight b) p ≡ 0
weight_clear p v b r =
    let more = weight_multiple (p + 1) v b r in
    let twice : more.0 * 2 ^ (p + 1) ≡ more.0 * 2 * 2 ^ p = ap (λ n. more.0 * 2 ^ n) (omega arith) ∙ ap (λ n. more.0 * n) (two-pow-succ p) ∙ omega arith in
    ap (λ n. n / 2 ^ p % 2) (more.1 ∙ twice) ∙ ap (λ n. n % 2) (shl-shr (more.0 * 2) p) ∙ mul-mod_left more.0 2

-- the bits of a block have its points
pub members_weight : (low v : ℕ) (b : List ℕ) → v ≤ 128 → Rises low v b → members (weight b) ≡ b
unfolding members
members_weight low v [] h r = refl
members_weight low v (p ∷ b) h r =
    let clear : bit_and (weight b) (2 ^ p) ≡ 0 = and_pow (weight b) p ∙ ap (λ n. n * 2 ^ p) (weight_clear p v b r.2) ∙ omega arith in
    let small : p < 128 = omega (arith, r.1) in
    let joined : bit_or (weight b) (1 * 2 ^ p % 2 ^ 128) ≡ weight (p ∷ b) = ap (bit_or (weight b)) (one_shl p 128 small) ∙ or_disjoint (weight b) (2 ^ p) clear ∙ omega (arith, sum_by-cons (λ i. 2 ^ i) p b) in
    sym (ap members joined) ∙ members_put (weight b) p small ∙ ap (with_member p) (members_weight (p + 1) v b h r.2) ∙ with_first p v b r.2

-- the points below a bound have bits below its power
pub weight_bound : (low v : ℕ) (b : List ℕ) → low ≤ v → Rises low v b → weight b + 2 ^ low ≤ 2 ^ v
weight_bound low v [] h r = let l = pow-le-pow_right {n = 2} (omega arith) {i = low} {j = v} h in omega (arith, l)
weight_bound low v (p ∷ b) h r =
    let ih = weight_bound (p + 1) v b (omega (arith, r.1)) r.2 in
    let twice : 2 ^ (p + 1) ≡ 2 ^ p + 2 ^ p = ap (λ n. 2 ^ n) (omega arith) ∙ two-pow-succ p in
    let low_power = pow-le-pow_right {n = 2} (omega arith) {i = low} {j = p} r.0 in
    omega (arith, ih, twice, low_power, sum_by-cons (λ i. 2 ^ i) p b)

-- bits below a power of 2 are those of points below its exponent
pub members_low : (bits n : ℕ) → n ≤ 128 → bits < 2 ^ n → Rises 0 n (members bits)
members_low bits n h small = Rises-below 0 n 128 (members bits) (members_rise bits) (λ p i. ⊎_elim (λ l. l) (λ g. absurd (beyond p g i)) (cases_lt p n))
  where
    beyond : (p : ℕ) → n ≤ p → In (members bits) p → ⊥
    beyond p g i =
        let r = Rises-bound 0 128 (members bits) p (members_rise bits) i in
        let high = pow-le-pow_right {n = 2} (omega arith) {i = n} {j = p} g in
        let none : bits / 2 ^ p ≡ 0 = div-eq_of_lt (omega (arith, small, high)) in
        both_ways (has_member (members bits) p) (has_members bits p r ∙ ap (λ q. eqb (q % 2) 1) none) (has_from (members bits) p i)

pub no_members : members 0 ≡ []
unfolding members
no_members = refl

-- the lowest bit that is set is the first point, and the other bits keep the other points
pub lowest_first : (bits : ℕ) → 0 < bits → bits < 2 ^ 128 → (trailing_zeros w128 bits < 128) × (2 ^ trailing_zeros w128 bits ≤ bits) × (members bits ≡ trailing_zeros w128 bits ∷ members (bits - 2 ^ trailing_zeros w128 bits))
lowest_first bits pos fits = go (members bits) refl (members_rise bits)
  where
    zeros : (trailing_zeros w128 bits < 128) × (bit_at bits (trailing_zeros w128 bits) ≡ 1) × ((i : ℕ) → i < trailing_zeros w128 bits → bit_at bits i ≡ 0)
    zeros = bit_at-trailing_zeros w128 bits pos fits

    go : (b : List ℕ) → members bits ≡ b → Rises 0 128 (members bits) → (trailing_zeros w128 bits < 128) × (2 ^ trailing_zeros w128 bits ≤ bits) × (members bits ≡ trailing_zeros w128 bits ∷ members (bits - 2 ^ trailing_zeros w128 bits))
    go [] e r = let none = weight_view bits [] e fits in absurd (omega (arith, none, pos))
    go (q ∷ b) e r =
        let t = trailing_zeros w128 bits in
        let s : Rises 0 128 (q ∷ b) = subst (Rises 0 128) e r in
        let whole : 2 ^ q + weight b ≡ bits = sym (sum_by-cons (λ i. 2 ^ i) q b) ∙ weight_view bits (q ∷ b) e fits in
        let has_first : is_set bits q ≡ true = sym (has_members bits q s.1) ∙ ap (λ l. has_member l q) e ∙ or_left (eqb q q) (has_member b q) (eq-eqb q q refl) in
        let has_low : has_member (q ∷ b) t ≡ true = ap (λ l. has_member l t) (sym e) ∙ has_members bits t zeros.0 ∙ eq-eqb (bit_at bits t) 1 zeros.1 in
        let same : t ≡ q = ⊎_elim (λ x. x)
        (λ o. ⊎_elim
        (λ l. absurd (both_ways (has_member (q ∷ b) t) (none_below q 128 (q ∷ b) t (omega arith, s.1, s.2) l) has_low))
        (λ l. let z = zeros.2 q l in let one = eqb-true (bit_at bits q) 1 has_first in absurd (omega (arith, z, one))) o)
        (cases_order t q) in
        let rest : bits - 2 ^ q ≡ weight b = omega (arith, whole) in
        (zeros.0, omega (arith, whole, ap (λ n. 2 ^ n) same), e ∙ ap₂ (λ x l. x ∷ l) (sym same) (sym (ap (λ n. members (bits - 2 ^ n)) same ∙ ap members rest ∙ members_weight (q + 1) 128 b (omega arith) s.2)))

no_ones : count_ones 0 ≡ 0
unfolding count_ones
no_ones = refl

one_one : count_ones 1 ≡ 1
unfolding count_ones
one_one = refl

-- as many bits are set as there are points
pub ones_weight : (low v : ℕ) (b : List ℕ) → Rises low v b → count_ones (weight b) ≡ length b
ones_weight low v [] r = no_ones
ones_weight low v (p ∷ b) r =
    let more = weight_multiple (p + 1) v b r.2 in
    let high : weight b ≡ more.0 * 2 ^ (p + 1) + 0 = more.1 ∙ omega arith in
    let up = two-pow-succ p in
    let twice : 2 ^ (p + 1) ≡ 2 ^ p + 2 ^ p = ap (λ n. 2 ^ n) (omega arith) ∙ up in
    let pos = pow_pos p in
    let here : weight (p ∷ b) ≡ more.0 * 2 ^ (p + 1) + 2 ^ p = sum_by-cons (λ i. 2 ^ i) p b ∙ omega (arith, more.1) in
    let one : count_ones (2 ^ p) ≡ 1 = ap count_ones {x = 2 ^ p} {y = 1 * 2 ^ p + 0} (omega arith) ∙ ones_cat p 1 0 pos ∙ omega (arith, one_one, no_ones) in
    let all = ap count_ones here ∙ ones_cat (p + 1) more.0 (2 ^ p) (omega (arith, twice, pos)) in
    let rest = ap count_ones high ∙ ones_cat (p + 1) more.0 0 (pow_pos (p + 1)) in
    let ih = ones_weight (p + 1) v b r.2 in
    omega (arith, all, rest, ih, one, no_ones)
