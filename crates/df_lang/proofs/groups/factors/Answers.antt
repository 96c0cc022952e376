use Rattle.std.proofs.Common.{◌≤◌, ◌∷◌, [], ◌*◌, All, subst, sym, ap, ◌∙◌, arith, List, ℕ, length, length-append}
use Rattle.std.proofs.lemmas.List.Elements.{All-push}
use Rattle.df_group.specs.Elements.{order_of, IsFactor}
use Rattle.df_io.specs.Lines.{left}
use Rattle.df_lang.specs.Values.{factors_from}
use Rattle.df_lang.proofs.Factors.{factors_step, order_push}
use Rattle.df_lang.proofs.groups.factors.Goals as goal

pub loop-token-preserved : goal.loop-token-preserved
loop-token-preserved c =
    let kept = c.loop-token.factors.items in
    let f = c.in_ok-f.f in
    let item = c.push.ensures.items in
    let rest = left c.next_token.new.self in
    let order = c.loop-token.invariant.1 in
    let few : length kept ≤ 7 = c.loop-token.invariant.3 in
    let small : order_of kept * f ≤ 128 = omega (arith, ap (λ n. n * f) order) in
    let step = factors_step kept c.in-Some.token.now rest f c.in_ok-f.ensures (omega arith) (omega arith) (omega arith) small in (
      ap (λ l. factors_from l rest) item ∙ step ∙ ap (factors_from kept) (sym c.in-Some.ensures) ∙ c.loop-token.invariant.0,
      ap (λ n. n * f) order ∙ sym (order_push kept f) ∙ ap order_of (sym item),
      omega arith,
      omega (arith, ap length item, length-append kept (f ∷ [])),
      subst (λ (l : List ℕ). All IsFactor l) (sym item) (All-push IsFactor kept f c.loop-token.invariant.4 (omega arith, omega arith)),
    )
