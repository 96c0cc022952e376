use Rattle.std.proofs.Common.{◌≡◌, ℕ, true, ap, subst, ◌∙◌}
use Rattle.df_lists.specs.Membership.{In}
use Rattle.df_lists.proofs.ListPlaces.{In_place}
use Rattle.df_group.specs.Subgroups.{exponent_of, is_unit, IsSubgroup}
use Rattle.df_lang.specs.Problems.{Stated, IsStated}
use Rattle.df_lang.specs.Targets.{subgroup_at}
use Rattle.df_kramer_mesner.specs.OrbitSystems.{maps_of_problem}
use Rattle.df_matrix.proofs.orbits.maps_of.Goals as goal

pub returns-clause-group : goal.returns-clause-group
returns-clause-group c =
    let s = c.args.problem.now in
    let stated : IsStated s = subst IsStated c.problem.view_is c.problem.invariant in
    let members = c.subgroup-shift.ensures.members ∙ ap (λ (t : Stated). subgroup_at s t.shift) c.problem.view_is in
    let shift : IsSubgroup s.group (subgroup_at s s.shift) = subst (IsSubgroup s.group) members c.subgroup-shift.ensures.subgroup in
    let units : (m : ℕ) → In s.mults m → is_unit (exponent_of s.group) m ≡ true = λ m i. let p = In_place s.mults m 0 i in subst (λ m. is_unit (exponent_of s.group) m ≡ true) p.2 (stated.mults p.0 0 p.1).unit in
    c.maps_are_groups.ensures (maps_of_problem s) (c.maps_are_made.ensures s.group s.fixed (subgroup_at s s.shift) s.mults stated.shape stated.points shift units)
