use Rattle.std.proofs.Common.{◌≡◌, ◌≤◌, ℕ, ◌+◌, ◌-◌, ◌++◌, List, false, ltb, decimal, codes, length, refl, sym, ap, ◌∙◌, arith, tests, append_assoc, length-append}
use Rattle.df_group.specs.Elements.{order_of}
use Rattle.df_lang.specs.Canonical.{point_text, fixed_text}
use Rattle.df_lang.proofs.print_points.put_point.Goals as goal

-- the text of a fixed point
fixed_is : (fs : List ℕ) (p : ℕ) → order_of fs ≤ p → point_text fs p ≡ codes "inf" ++ decimal ((p - order_of fs) + 1)
unfolding fixed_text
fixed_is fs p h = let past : ltb p (order_of fs) ≡ false = grind (arith, tests) in rw past refl

pub put_text-requires : goal.put_text-requires
put_text-requires c =
    let fs = c.args.problem.now.group in
    let order = c.order-order.ensures.order ∙ ap (λ s. order_of s.group) c.problem.view_is in
    let text = ap length (fixed_is fs c.args.p (omega (arith, order, c.p.view_is))) in
    omega (arith, text, c.requires)

pub put_number-requires : goal.put_number-requires
put_number-requires c =
    let fs = c.args.problem.now.group in
    let order = c.order-order.ensures.order ∙ ap (λ s. order_of s.group) c.problem.view_is in
    let text = ap length (fixed_is fs c.args.p (omega (arith, order, c.p.view_is))) in
    let number : c.from.result ≡ c.args.p - order_of fs = omega (arith, order, c.p.view_is) in
    omega (arith, text, c.requires, c.put_text.ensures.len, ap (λ n. length (decimal (n + 1))) number)

pub returns-else-p-order-clause-text : goal.returns-else-p-order-clause-text
returns-else-p-order-clause-text c =
    let fs = c.args.problem.now.group in
    let order = c.order-order.ensures.order ∙ ap (λ s. order_of s.group) c.problem.view_is in
    let number : c.from.result ≡ c.args.p - order_of fs = omega (arith, order, c.p.view_is) in
    c.put_number.ensures.text
    ∙ ap (λ l. l ++ decimal (c.from.result + 1)) c.put_text.ensures.text
    ∙ append_assoc c.args.buf.now.items (codes "inf") (decimal (c.from.result + 1))
    ∙ ap (λ n. c.args.buf.now.items ++ (codes "inf" ++ decimal (n + 1))) number
    ∙ ap (λ l. c.args.buf.now.items ++ l) (sym (fixed_is fs c.args.p (omega (arith, order, c.p.view_is))))

pub returns-else-p-order-clause-len : goal.returns-else-p-order-clause-len
returns-else-p-order-clause-len c =
    ap length (returns-else-p-order-clause-text c) ∙ length-append c.args.buf.now.items (point_text c.args.problem.now.group c.args.p)
