use Rattle.std.proofs.Common.{◌≡◌, ◌<◌, ◌≤◌, ◌*◌, sym, ap, ◌∙◌, arith, length, drop, get_or, option_copied}
use Rattle.df_group.specs.Elements.{order_of}
use Rattle.df_lang.specs.Pieces.{pieces_left}
use Rattle.df_lang.proofs.ElementPieces.{element_from, element_whole_token}
use Rattle.df_lang.proofs.ElementPieces.{element_more, bound_more, element_few, element_past, element_whole, element_bad, element_large, place_small, place_end, value_none}
use Rattle.df_lang.proofs.elements.element.Goals as goal

pub loop-f-init : goal.loop-f-init
loop-f-init c = (element_whole_token c.args.shape.now c.args.token.now, omega arith)

pub returns-in_err-rest-clause-value : goal.returns-in_err-rest-clause-value
returns-in_err-rest-clause-value c =
    let fs = c.args.shape.now in
    let i = c.loop-f.f-index in
    let items = c.factors-f-items.ensures.factors in
    let low : i < length fs = omega (arith, ap length items, c.loop-f-test.true) in
    c.from_residual.ensures
    ∙ sym (element_few fs i c.loop-f.place low)
    ∙ ap (λ o. element_from (drop i fs) (pieces_left (option_copied o)) c.loop-f.place) (sym c.in_err-rest.was)
    ∙ c.loop-f.invariant.0

pub returns-in_default-clause-value : goal.returns-in_default-clause-value
returns-in_default-clause-value c =
    let fs = c.args.shape.now in
    let i = c.loop-f.f-index in
    let items = c.factors-f-items.ensures.factors in
    let low : i < length fs = omega (arith, ap length items, c.loop-f-test.true) in
    let split = ap (λ o. pieces_left (option_copied o)) c.in_ok-rest.was ∙ c.cut.ensures in
    let piece = c.cut.result.0.now in
    let pieces = pieces_left (option_copied c.cut.result.1) in
    let all = pieces_left (option_copied c.loop-f.rest) in
    sym (element_bad fs i piece pieces all c.loop-f.place low split (value_none piece _ c.in_default.ensures)) ∙ c.loop-f.invariant.0

pub returns-then-r-from-clause-value : goal.returns-then-r-from-clause-value
returns-then-r-from-clause-value c =
    let fs = c.args.shape.now in
    let i = c.loop-f.f-index in
    let items = c.factors-f-items.ensures.factors in
    let low : i < length fs = omega (arith, ap length items, c.loop-f-test.true) in
    let split = ap (λ o. pieces_left (option_copied o)) c.in_ok-rest.was ∙ c.cut.ensures in
    let piece = c.cut.result.0.now in
    let pieces = pieces_left (option_copied c.cut.result.1) in
    let all = pieces_left (option_copied c.loop-f.rest) in
    let above : get_or fs i 0 ≤ c.in-Ok.r = omega (arith, c.from.ensures, ap (λ l. get_or l i 0) items) in
    sym (element_large fs i piece pieces all c.loop-f.place c.in-Ok.r low split c.in-Ok.ensures above) ∙ c.loop-f.invariant.0

pub overflow_mul-place : goal.overflow_mul-place
overflow_mul-place c =
    let fs = c.args.shape.now in
    let i = c.loop-f.f-index in
    let items = c.factors-f-items.ensures.factors in
    let low : i < length fs = omega (arith, ap length items, c.loop-f-test.true) in
    let factor : c.from-in-loop-f.result ≡ get_or fs i 0 = c.from-in-loop-f.ensures ∙ ap (λ l. get_or l i 0) items in
    let below : c.in-Ok.r < get_or fs i 0 = omega (arith, c.from.ensures, ap (λ l. get_or l i 0) items) in
    let small = place_small fs i c.loop-f.place c.in-Ok.r c.factors-f-items.ensures.shape low below c.loop-f.invariant.1 in
    omega (arith, small, ap (λ n. c.loop-f.place * n) factor)

pub overflow_add-place : goal.overflow_add-place
overflow_add-place c =
    let fs = c.args.shape.now in
    let i = c.loop-f.f-index in
    let items = c.factors-f-items.ensures.factors in
    let low : i < length fs = omega (arith, ap length items, c.loop-f-test.true) in
    let factor : c.from-in-loop-f.result ≡ get_or fs i 0 = c.from-in-loop-f.ensures ∙ ap (λ l. get_or l i 0) items in
    let below : c.in-Ok.r < get_or fs i 0 = omega (arith, c.from.ensures, ap (λ l. get_or l i 0) items) in
    let small = place_small fs i c.loop-f.place c.in-Ok.r c.factors-f-items.ensures.shape low below c.loop-f.invariant.1 in
    omega (arith, small, ap (λ n. c.loop-f.place * n) factor)

pub loop-f-preserved : goal.loop-f-preserved
loop-f-preserved c =
    let fs = c.args.shape.now in
    let i = c.loop-f.f-index in
    let items = c.factors-f-items.ensures.factors in
    let low : i < length fs = omega (arith, ap length items, c.loop-f-test.true) in
    let split = ap (λ o. pieces_left (option_copied o)) c.in_ok-rest.was ∙ c.cut.ensures in
    let piece = c.cut.result.0.now in
    let pieces = pieces_left (option_copied c.cut.result.1) in
    let all = pieces_left (option_copied c.loop-f.rest) in
    let factor : c.from-in-loop-f.result ≡ get_or fs i 0 = c.from-in-loop-f.ensures ∙ ap (λ l. get_or l i 0) items in
    let below : c.in-Ok.r < get_or fs i 0 = omega (arith, c.from.ensures, ap (λ l. get_or l i 0) items) in
    rw factor (
      element_more fs i piece pieces all c.loop-f.place c.in-Ok.r low split c.in-Ok.ensures below ∙ c.loop-f.invariant.0,
      bound_more fs i c.loop-f.place c.in-Ok.r (order_of fs) low below c.loop-f.invariant.1,
    )

pub returns-then-is_some-clause-value : goal.returns-then-is_some-clause-value
returns-then-is_some-clause-value c =
    let fs = c.args.shape.now in
    let i = c.loop-f.f-index in
    let items = c.factors-f-items.ensures.factors in
    let end : length fs ≤ i = omega (arith, ap length items, c.loop-f-test.false) in
    sym (element_past fs i c.loop-f.place c.loop-f.rest end (sym c.is_some.ensures ∙ c.if-is_some.true)) ∙ c.loop-f.invariant.0

pub overflow_cast-result : goal.overflow_cast-result
overflow_cast-result c =
    let fs = c.args.shape.now in
    let i = c.loop-f.f-index in
    let items = c.factors-f-items.ensures.factors in
    let end : length fs ≤ i = omega (arith, ap length items, c.loop-f-test.false) in
    omega (arith, place_end fs i c.loop-f.place end c.loop-f.invariant.1, c.factors-f-items.ensures.shape.small)

pub returns-clause-value : goal.returns-clause-value
returns-clause-value c =
    let fs = c.args.shape.now in
    let i = c.loop-f.f-index in
    let items = c.factors-f-items.ensures.factors in
    let end : length fs ≤ i = omega (arith, ap length items, c.loop-f-test.false) in
    sym (element_whole fs i c.loop-f.place c.loop-f.rest end (sym c.is_some.ensures ∙ c.if-is_some.false)) ∙ c.loop-f.invariant.0

pub returns-clause-below : goal.returns-clause-below
returns-clause-below c =
    let fs = c.args.shape.now in
    let i = c.loop-f.f-index in
    let items = c.factors-f-items.ensures.factors in
    let end : length fs ≤ i = omega (arith, ap length items, c.loop-f-test.false) in
    place_end fs i c.loop-f.place end c.loop-f.invariant.1
