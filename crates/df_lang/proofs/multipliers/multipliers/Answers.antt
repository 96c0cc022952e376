use Rattle.std.proofs.Common.{◌≡◌, ◌<◌, ◌%◌, ◌++◌, ◌∷◌, [], refl, sym, ap, ◌∙◌, arith, length, mod-lt, lit<}
use Rattle.std.proofs.lemmas.List.{length_push}
use Rattle.df_lists.specs.NumberSets.{has_member}
use Rattle.df_group.specs.Subgroups.{exponent_of}
use Rattle.df_lang.specs.Values.{mults_from}
use Rattle.df_lang.proofs.KeptOnce.{apart_none, apart_few, apart_more, mults_bad, mults_old, mults_new}
use Rattle.df_lang.proofs.multipliers.multipliers.Goals as goal

pub loop-token-init : goal.loop-token-init
loop-token-init c = rw c.new-kept.ensures (record { value = refl; apart = apart_none _ })

pub returns-then-not-is_unit : goal.returns-then-not-is_unit
returns-then-not-is_unit c =
    let e = exponent_of c.args.shape.now in
    let same = c.from-exponent.ensures ∙ c.exponent.ensures.exponent in
    let some : 0 < e = omega (arith, c.exponent.ensures.low, c.exponent.ensures.exponent) in
    sym c.loop-token.invariant.value
    ∙ ap (mults_from e c.loop-token.kept.items) c.in-Some.ensures
    ∙ mults_bad e c.from-exponent.result c.in_ok-m.field-0 c.loop-token.kept.items c.in-Some.token.now _ same some c.in_ok-m.ensures (sym c.is_unit.ensures.unit ∙ c.if-not-is_unit.true)

pub push-requires : goal.push-requires
push-requires c =
    let e = exponent_of c.args.shape.now in
    let x = c.from-exponent.result in
    let kept = c.loop-token.kept.items in
    let m = c.in_ok-m.field-0 % x in
    let same : x ≡ e = c.from-exponent.ensures ∙ c.exponent.ensures.exponent in
    let some : 0 < e = omega (arith, c.exponent.ensures.low, c.exponent.ensures.exponent) in
    let new = ap (λ l. has_member l m) (sym c.as_slice.ensures.value) ∙ sym c.has.ensures ∙ c.if-not-has.true in
    let low : m < e = omega (arith, mod-lt c.in_ok-m.field-0 some, ap (λ y. c.in_ok-m.field-0 % y) same) in
    let more = apart_few e (kept ++ m ∷ []) (apart_more e m kept c.loop-token.invariant.apart new low) in
    let few : length kept < 128 = omega (arith, more, length_push kept m, c.exponent.ensures.high, c.exponent.ensures.exponent) in
    (lit< tt, few)

pub loop-token-preserved-then-not-has : goal.loop-token-preserved-then-not-has
loop-token-preserved-then-not-has c =
    let e = exponent_of c.args.shape.now in
    let x = c.from-exponent.result in
    let kept = c.loop-token.kept.items in
    let m = c.in_ok-m.field-0 % x in
    let same : x ≡ e = c.from-exponent.ensures ∙ c.exponent.ensures.exponent in
    let some : 0 < e = omega (arith, c.exponent.ensures.low, c.exponent.ensures.exponent) in
    let new = ap (λ l. has_member l m) (sym c.as_slice.ensures.value) ∙ sym c.has.ensures ∙ c.if-not-has.true in
    let low : m < e = omega (arith, mod-lt c.in_ok-m.field-0 some, ap (λ y. c.in_ok-m.field-0 % y) same) in
    rw c.push.ensures.items (record {
      value =
          mults_new e x c.in_ok-m.field-0 kept c.in-Some.token.now _ same some c.in_ok-m.ensures (sym c.is_unit.ensures.unit ∙ c.if-not-is_unit.false) new
          ∙ ap (mults_from e kept) (sym c.in-Some.ensures)
          ∙ c.loop-token.invariant.value;
      apart = apart_more e m kept c.loop-token.invariant.apart new low;
    })

pub loop-token-preserved : goal.loop-token-preserved
loop-token-preserved c =
    let e = exponent_of c.args.shape.now in
    let x = c.from-exponent.result in
    let kept = c.loop-token.kept.items in
    let m = c.in_ok-m.field-0 % x in
    let same : x ≡ e = c.from-exponent.ensures ∙ c.exponent.ensures.exponent in
    let some : 0 < e = omega (arith, c.exponent.ensures.low, c.exponent.ensures.exponent) in
    let old = ap (λ l. has_member l m) (sym c.as_slice.ensures.value) ∙ sym c.has.ensures ∙ c.if-not-has.false in
    record {
      value =
          mults_old e x c.in_ok-m.field-0 kept c.in-Some.token.now _ same some c.in_ok-m.ensures (sym c.is_unit.ensures.unit ∙ c.if-not-is_unit.false) old
          ∙ ap (mults_from e kept) (sym c.in-Some.ensures)
          ∙ c.loop-token.invariant.value;
      apart = c.loop-token.invariant.apart;
    }
