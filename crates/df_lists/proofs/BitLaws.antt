-- The set that bits keep, and the bits of a set.
use Rattle.std.proofs.Common.{◌≡◌, ℕ, zero, suc, ◌+◌, ◌*◌, ◌^◌, ◌%◌, ◌<◌, cond, eqb, List, [], ◌∷◌, filter, sym, ap, ◌∙◌, arith, bit_or}
use Rattle.std.specs.List.{range_with_len}
use Rattle.std.specs.Int.{bit_at, w128}
use Rattle.std.proofs.Math.Nat.{mod-eq_of_lt, mod-one}
use Rattle.std.proofs.lemmas.List.Sums.{sum_by-append}
use Rattle.std.proofs.lemmas.Nat.{mod-pow-add}
use Rattle.std.proofs.lemmas.Nat.Bits.{bit_at-lt, bit_at_set_same, bit_at_set_other}
use Rattle.df_lists.specs.NumberSets.{with_member, has_member}
use Rattle.df_lists.proofs.CountLaws.{has_filter}
use Rattle.df_lists.proofs.RangeLaws.{filter_more, placed}
use Rattle.df_lists.specs.Bits.{members, is_set, weight}

one_weight_of : (i v : ℕ) → v < 2 → weight (cond (eqb v 1) (i ∷ []) []) ≡ v * 2 ^ i
one_weight_of i zero h = omega arith
one_weight_of i (suc zero) h = omega arith
one_weight_of i (suc (suc v)) h = absurd (omega arith)

one_weight : (bits i : ℕ) → weight (cond (is_set bits i) (i ∷ []) []) ≡ bit_at bits i * 2 ^ i
one_weight bits i = one_weight_of i (bit_at bits i) (bit_at-lt bits i)

low_weight : (bits n : ℕ) → weight (filter (is_set bits) (range_with_len 0 n)) ≡ bits % 2 ^ n
low_weight bits zero = sym (mod-one bits)
low_weight bits (suc n) =
    let e : suc n ≡ n + 1 = omega arith in
    let f : suc n ≡ 1 + n = omega arith in
    let low = filter (is_set bits) (range_with_len 0 n) in
    let split = ap (λ m. weight (filter (is_set bits) (range_with_len 0 m))) e ∙ ap weight (filter_more (is_set bits) n) ∙ sum_by-append (λ i. 2 ^ i) low (cond (is_set bits n) (n ∷ []) []) in
    let high = mod-pow-add bits 1 n in
    let same : bits % 2 ^ suc n ≡ bits % 2 ^ (1 + n) = ap (λ m. bits % 2 ^ m) f in
    omega (arith, split, low_weight bits n, one_weight bits n, high, same)

pub weight_members : (bits : ℕ) → bits < 2 ^ 128 → weight (members bits) ≡ bits
unfolding members
weight_members bits fits = low_weight bits 128 ∙ mod-eq_of_lt fits

pub has_members : (bits p : ℕ) → p < 128 → has_member (members bits) p ≡ is_set bits p
unfolding members
has_members bits p h = has_filter (is_set bits) 128 p h

pub members_put : (bits p : ℕ) → p < 128 → members (bit_or bits (1 * 2 ^ p % 2 ^ 128)) ≡ with_member p (members bits)
unfolding members
members_put bits p h =
    placed (is_set bits) (is_set (bit_or bits (1 * 2 ^ p % 2 ^ 128))) p
    (ap (λ v. eqb v 1) (bit_at_set_same w128 bits p h)) (λ i ne. ap (λ v. eqb v 1) (bit_at_set_other w128 bits p h i ne)) 0 128 (omega arith) (omega arith)

pub weight_view : (bits : ℕ) (set : List ℕ) → members bits ≡ set → bits < 2 ^ 128 → weight set ≡ bits
weight_view bits set is fits = sym (ap weight is) ∙ weight_members bits fits
