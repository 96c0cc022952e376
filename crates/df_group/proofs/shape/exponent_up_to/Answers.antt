use Rattle.std.proofs.Common.{◌≤◌, ap, ◌∙◌, sym, arith, one-mul}
use Rattle.df_group.specs.Elements.{order_of}
use Rattle.df_group.specs.Subgroups.{is_common_multiple}
use Rattle.df_group.proofs.ElementLaws.{positive_shape, order_some}
use Rattle.df_group.proofs.ExponentLaws.{exponent_first, order_common}
use Rattle.df_group.proofs.shape.exponent_up_to.Goals as goal

pub returns-then-is_common_multiple : goal.returns-then-is_common_multiple
returns-then-is_common_multiple c =
    sym (exponent_first c.args.factors.now c.loop-n.n (omega arith) (omega arith) (sym c.if-is_common_multiple.ensures) c.loop-n.invariant)

pub returns : goal.returns
returns c =
    let fs = c.args.factors.now in
    let some = order_some fs (positive_shape fs c.requires.shape) in
    let end : order_of fs ≤ c.loop-n.n = omega (arith, c.requires.order) in
    let all = ap (is_common_multiple fs) (sym (one-mul (order_of fs))) ∙ order_common fs 1 in
    c.requires.order ∙ sym (exponent_first fs (order_of fs) (omega arith) (omega arith) all (λ k l m. c.loop-n.invariant k l (omega arith)))
