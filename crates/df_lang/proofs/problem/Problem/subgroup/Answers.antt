use Rattle.std.proofs.Common.{◌≡◌, [], subst, ap}
use Rattle.df_group.specs.Subgroups.{IsSubgroup}
use Rattle.df_lang.specs.Problems.{Stated}
use Rattle.df_lang.proofs.NamePlaces.{entry_at}
use Rattle.df_lang.proofs.problem.Problem.subgroup.Goals as goal

pub returns-in-Some-clause-subgroup : goal.returns-in-Some-clause-subgroup
returns-in-Some-clause-subgroup c =
    let at = entry_at c.self.inside.names.entries c.in-Named.place c.in-Some.field-0-0.now c.in-Some.subgroup.now c.in-Some.ensures.entry in
    let group : c.self.inside.shape ≡ c.args.self.now.group = ap (λ (s : Stated). s.group) c.self.view_is in
    subst (λ gs. IsSubgroup gs c.in-Some.subgroup.now) group (subst (IsSubgroup c.self.inside.shape) at.1 (c.self.invariant.names c.in-Named.place ([], []) at.0).subgroup)
