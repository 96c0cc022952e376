-- Printed numbers, read back.
use Rattle.std.proofs.Common.{◌≡◌, ℕ, ◌+◌, ◌*◌, ◌^◌, ◌<◌, ◌≤◌, true, ltb, leb, suc, List, [], ◌∷◌, ◌++◌, length, map, All, Some, Ok, decimal, refl, sym, ap, ◌∙◌, arith, tests, append-nil, append_assoc, length-append, mul_assoc, mul-le-mul, ◌%◌}
use Rattle.df_io.specs.Joined.{Each}
use Rattle.df_io.proofs.NumbersBack.{number_back as read_back}
use Rattle.df_group.specs.Elements.{order_of, IsFactor}
use Rattle.df_group.specs.Subgroups.{is_unit}
use Rattle.df_group.proofs.ElementLaws.{positive_factors, order_some}
use Rattle.df_lang.specs.declared.fault.SourceFault.{SourceFault}
use Rattle.df_lang.specs.declared.fault.SourceFault.TheVariants.{SizeRange}
use Rattle.df_lang.specs.Rules.{value_read, value_of, number_of, number_in, one_number}
use Rattle.df_lang.specs.Values.{factors_from, mults_from, sizes_from}
use Rattle.df_lang.proofs.Factors.{factors_step, order_push}
use Rattle.df_lang.proofs.InOrder.{InOrder, Follows, follows_more, with_last, not_member}
use Rattle.std.proofs.Math.Nat.{mod-eq_of_lt}

pub value_back : (n : ℕ) → n < 2 ^ 64 → value_of (decimal n) ≡ Some n
value_back n h = ap value_read (read_back n h)

pub number_back : (n : ℕ) → n < 2 ^ 64 → number_of (decimal n) ≡ Ok n
number_back n h = rw (value_back n h) refl

pub number_in_back : (low high : ℕ) (fault : SourceFault) (n : ℕ) → n < 2 ^ 64 → low ≤ n → n ≤ high → number_in low high fault (decimal n) ≡ Ok n
number_in_back low high fault n h l u =
    let a : leb low n ≡ true = grind (arith, tests) in
    let b : leb n high ≡ true = grind (arith, tests) in
    rw (value_back n h, a, b) refl

pub one_number_back : (low high : ℕ) (fault : SourceFault) (n : ℕ) → n < 2 ^ 64 → low ≤ n → n ≤ high → one_number low high fault (decimal n ∷ []) ≡ Ok n
unfolding one_number
one_number_back low high fault n h l u = rw (number_in_back low high fault n h l u) refl

-- factors after those that are taken
pub factors_back : (kept fs : List ℕ) → All IsFactor fs → 0 < length kept + length fs → length kept + length fs ≤ 7 → order_of kept * order_of fs ≤ 128
    → factors_from kept (map decimal fs) ≡ Ok (kept ++ fs)
unfolding factors_from
factors_back kept [] each some few small =
    let t : ltb 0 (length kept) ≡ true = grind (arith, tests) in
    rw t (ap Ok (sym (append-nil kept)))
factors_back kept (f ∷ fs) each some few small =
    let is = each 0 0 (omega arith) in
    let others : All IsFactor fs = λ k d h. each (suc k) d (omega (arith, h)) in
    let assoc : order_of kept * f * order_of fs ≡ order_of kept * (f * order_of fs) = mul_assoc (order_of kept) f (order_of fs) in
    let below : order_of kept * f * 1 ≤ order_of kept * f * order_of fs = mul-le-mul (omega arith) (order_some fs (positive_factors fs others)) in
    let fit : order_of kept * f ≤ 128 = omega (arith, assoc, below) in
    let more : order_of (kept ++ f ∷ []) * order_of fs ≤ 128 = omega (arith, ap (λ n. n * order_of fs) (order_push kept f), assoc) in
    let len = length-append kept (f ∷ []) in
    sym (factors_step kept (decimal f) (map decimal fs) f (sym (number_back f (omega (arith, is.1)))) is.0 is.1 (omega arith) fit)
    ∙ factors_back (kept ++ f ∷ []) fs others (omega (arith, len)) (omega (arith, len)) more
    ∙ ap Ok (append_assoc kept (f ∷ []) fs)

-- multipliers after those that are taken
pub mults_back : (e : ℕ) (kept ms : List ℕ) → e ≤ 128 → 0 < length kept + length ms → Each (λ m. m < e) ms → Each (λ m. is_unit e m ≡ true) ms → InOrder (λ m n. m ≡ n → ⊥) ms
    → Follows (λ m n. m ≡ n → ⊥) kept ms → mults_from e kept (map decimal ms) ≡ Ok (kept ++ ms)
unfolding mults_from
mults_back e kept [] small some below unit order follows =
    let t : ltb 0 (length kept) ≡ true = grind (arith, tests) in
    rw t (ap Ok (sym (append-nil kept)))
mults_back e kept (m ∷ ms) small some below unit order follows =
    let less = below.0 in
    let same : m % e ≡ m = mod-eq_of_lt less in
    let new = not_member m kept follows.0 in
    let ih = mults_back e (kept ++ m ∷ []) ms small (omega (arith, length-append kept (m ∷ []))) below.1 unit.1 order.1 (follows_more (λ m n. m ≡ n → ⊥) kept m ms order.0 follows.1) in
    rw (value_back m (omega arith), unit.0, same, new) (ih ∙ ap Ok (append_assoc kept (m ∷ []) ms))

-- sizes after those that are taken
pub sizes_back : (most : ℕ) (kept ks : List ℕ) → most ≤ 16 → Each (λ k. 2 ≤ k) ks → Each (λ k. k ≤ most) ks → InOrder (λ p q. p < q) ks → Follows (λ p q. p < q) kept ks
    → sizes_from most kept (map decimal ks) ≡ Ok (kept ++ ks)
unfolding sizes_from
sizes_back most kept [] few low high order follows = ap Ok (sym (append-nil kept))
sizes_back most kept (k ∷ ks) few low high order follows =
    let u = high.0 in
    let last = with_last k kept follows.0 in
    let ih = sizes_back most (kept ++ k ∷ []) ks few low.1 high.1 order.1 (follows_more (λ p q. p < q) kept k ks order.0 follows.1) in
    rw (number_in_back 2 most SizeRange k (omega arith) low.0 high.0, last) (ih ∙ ap Ok (append_assoc kept (k ∷ []) ks))
