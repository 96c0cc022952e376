use Rattle.std.proofs.Common.{◌≡◌, ◌∙◌, ◌∷◌, [], true, ap, sym, subst, arith, get_or}
use Rattle.df_group.specs.Subgroups.{exponent_of, is_unit}
use Rattle.df_orbits.proofs.tests.made.Goals as goal

pub new-requires-clause-units : goal.new-requires-clause-units
new-requires-clause-units c = λ k d h.
    let e = exponent_of c.args.shape.now in
    let first : k ≡ 0 = omega (arith, h) in
    subst (λ j. is_unit e (get_or (c.args.mult ∷ []) j d) ≡ true) (sym first) (sym (c.is_unit.ensures.unit ∙ ap (is_unit e) c.from.ensures) ∙ c.if-not-is_unit.false)
