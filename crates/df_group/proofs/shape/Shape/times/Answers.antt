use Rattle.std.proofs.Common.{◌≡◌, ◌%◌, ◌∙◌, ap, subst, arith}
use Rattle.df_group.specs.Elements.{group_of, IsShape}
use Rattle.df_group.specs.Subgroups.{exponent_of}
use Rattle.df_group.proofs.ExponentLaws.{exponent_low, exponent_high}
use Rattle.df_group.proofs.MultipleLaws.{are_multiples}
use Rattle.df_group.proofs.shape.Shape.times.Goals as goal

pub reduced-m-requires : goal.reduced-m-requires
reduced-m-requires c = omega (arith, c.self.invariant.1, exponent_low c.self.inside.factors.items c.self.invariant.2)

pub multiple-requires-clause-m : goal.multiple-requires-clause-m
multiple-requires-clause-m c = omega (arith, c.reduced-m.ensures.below, c.self.invariant.1, exponent_high c.self.inside.factors.items c.self.invariant.2)

pub returns-clause-multiple : goal.returns-clause-multiple
returns-clause-multiple c =
    let fs = c.args.self.now in
    let factors : c.as_slice.result.now ≡ fs = cc in
    let remainder : c.reduced-m.result ≡ c.args.m % exponent_of fs = c.reduced-m.ensures.value ∙ ap (λ e. c.args.m % e) (c.self.invariant.1 ∙ ap exponent_of c.self.view_is) in
    c.multiple.ensures.multiple ∙ ap (λ l. (group_of l).times c.reduced-m.result c.a.inside.0) factors
    ∙ ap (λ n. (group_of fs).times n c.a.inside.0) remainder ∙ ap ((group_of fs).times (c.args.m % exponent_of fs)) c.a.view_is
    ∙ (are_multiples fs (subst IsShape c.self.view_is c.self.invariant.2)).reduced c.args.m c.args.a
