use Rattle.std.proofs.Common.{◌≡◌, subst, refl, inl, inr, ⊎_elim, Some, None}
use Rattle.df_matrix.specs.Limits.{or_else, column_limit, entry_limit}
use Rattle.df_matrix.proofs.SubsetLimits.{limit_later, not_passed, passed_first}
use Rattle.df_matrix.proofs.matrix.build.Goals as goal

pub returns-in-Err-clause-refused : goal.returns-in-Err-clause-refused
returns-in-Err-clause-refused c = passed_first c.args.problem.now c.in-Err.error c.passed.result c.passed.ensures c.in-Err.ensures.above c.in-Err.ensures.below

pub returns-in-Ok-parts_of-clause-within : goal.returns-in-Ok-parts_of-clause-within
returns-in-Ok-parts_of-clause-within c = λ _.
    limit_later c.args.problem.now None (not_passed c.args.problem.now c.in-Ok.orbits c.in-Ok.ensures.above) (subst (λ s. or_else (column_limit s) (entry_limit s) ≡ None) c.in-Ok.ensures.value (c.in-Ok-parts_of.ensures.within refl))

pub returns-in-Err-parts_of-clause-refused : goal.returns-in-Err-parts_of-clause-refused
returns-in-Err-parts_of-clause-refused c =
    ⊎_elim
    (λ h. inl (limit_later c.args.problem.now (Some c.in-Err-parts_of.error) (not_passed c.args.problem.now c.in-Ok.orbits c.in-Ok.ensures.above) (subst (λ s. or_else (column_limit s) (entry_limit s) ≡ Some c.in-Err-parts_of.error) c.in-Ok.ensures.value h)))
    (λ h. inr h)
    c.in-Err-parts_of.ensures.refused
