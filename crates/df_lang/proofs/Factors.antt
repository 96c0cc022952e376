-- The factors of a group, one more.
use Rattle.std.proofs.Common.{◌≡◌, ℕ, ◌*◌, ◌<◌, ◌≤◌, true, false, ltb, leb, suc, List, [], ◌∷◌, ◌++◌, length, All, None, Ok, refl, sym, ap, ◌∙◌, arith, tests, mul_assoc}
use Rattle.std.specs.List.{position_or_len}
use Rattle.df_group.specs.Elements.{order_of, IsFactor, IsShape}
use Rattle.df_group.specs.Refusals.{refusal, is_outside}
use Rattle.df_lang.specs.Rules.{number_of}
use Rattle.df_lang.specs.Values.{factors_from, fits}

pub order_push : (fs : List ℕ) (f : ℕ) → order_of (fs ++ f ∷ []) ≡ order_of fs * f
order_push [] f = omega arith
order_push (k ∷ ks) f = ap (λ n. k * n) (order_push ks f) ∙ sym (mul_assoc k (order_of ks) f)

pub factors_step : (kept token : List ℕ) (tokens : List (List ℕ)) (f : ℕ) → Ok f ≡ number_of token → 2 ≤ f → f ≤ 128 → length kept < 7 → order_of kept * f ≤ 128
    → factors_from (kept ++ f ∷ []) tokens ≡ factors_from kept (token ∷ tokens)
unfolding factors_from
factors_step kept token tokens f e low high few small =
    let fit : fits kept f ≡ true = grind (arith, tests) in
    rw (sym e, fit) refl

no_outside : (fs : List ℕ) → All IsFactor fs → length fs ≤ position_or_len is_outside fs
no_outside [] h = omega arith
no_outside (f ∷ fs) h =
    let is = h 0 0 (omega arith) in
    let low = is.0 in
    let high = is.1 in
    let here : is_outside f ≡ false = grind (arith, tests) in
    let ih = no_outside fs (λ k d l. h (suc k) d (omega (arith, l))) in
    rw here (omega (arith, ih))

-- a shape's factors aren't refused
pub refusal_none : (fs : List ℕ) → IsShape fs → refusal fs ≡ None
refusal_none fs is =
    let a : leb (length fs) 0 ≡ false = grind (arith, tests, is.some) in
    let b : ltb 7 (length fs) ≡ false = grind (arith, tests, is.few) in
    let c : ltb (position_or_len is_outside fs) (length fs) ≡ false = grind (arith, tests, no_outside fs is.factors) in
    let d : leb (order_of fs) 128 ≡ true = grind (arith, tests, is.small) in
    rw (a, b, c, d) refl
