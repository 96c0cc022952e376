use Rattle.std.proofs.Common.{ap, ◌∙◌, subst, arith}
use Rattle.df_group.specs.Elements.{IsShape}
use Rattle.df_group.specs.Subgroups.{exponent_of}
use Rattle.df_group.proofs.ElementLaws.{positive_shape}
use Rattle.df_group.proofs.ExponentLaws.{exponent_common, exponent_least, exponent_low, exponent_high}
use Rattle.df_group.proofs.shape.Shape.exponent.Goals as goal

pub returns-clause-multiple : goal.returns-clause-multiple
returns-clause-multiple c =
    let fs = c.args.self.now in
    let is = subst IsShape c.self.view_is c.self.invariant.2 in
    let e = c.self.invariant.1 ∙ ap exponent_of c.self.view_is in
    λ k d l. rw e (exponent_common fs (positive_shape fs is) k d l)

pub returns-clause-least : goal.returns-clause-least
returns-clause-least c =
    let fs = c.args.self.now in
    let is = subst IsShape c.self.view_is c.self.invariant.2 in
    let e = c.self.invariant.1 ∙ ap exponent_of c.self.view_is in
    λ n l h. rw e (exponent_least fs (positive_shape fs is) n l h)

pub returns-clause-low : goal.returns-clause-low
returns-clause-low c = omega (arith, c.self.invariant.1, exponent_low c.self.inside.factors.items c.self.invariant.2)

pub returns-clause-high : goal.returns-clause-high
returns-clause-high c = omega (arith, c.self.invariant.1, exponent_high c.self.inside.factors.items c.self.invariant.2)
