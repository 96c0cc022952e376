use Rattle.std.proofs.Common.{◌≡◌, ◌∙◌, ap, subst}
use Rattle.df_group.specs.Elements.{group_of, minus, IsShape}
use Rattle.df_group.proofs.PlaceSums.{none_minus}
use Rattle.df_group.proofs.shape.Shape.neg.Goals as goal

pub returns-clause-negative : goal.returns-clause-negative
returns-clause-negative c =
    let factors : c.as_slice.result.now ≡ c.args.self.now = cc in
    c.difference.ensures.difference ∙ ap (λ l. minus (group_of l) 0 c.a.inside.0) factors ∙ ap (minus (group_of c.args.self.now) 0) c.a.view_is
    ∙ none_minus c.args.self.now (subst IsShape c.self.view_is c.self.invariant.2) c.args.a
