use Rattle.std.proofs.Common.{◌≡◌, length, ap, ◌∙◌, subst, arith, refl, inl, Some, None}
use Rattle.df_lists.proofs.ListTotals.{count_whole}
use Rattle.df_lang.specs.Problems.{Stated, IsStated}
use Rattle.df_kramer_mesner.specs.OrbitSystems.{has_in_orbit, is_kept, orbits_of, columns_of, targets_of}
use Rattle.df_kramer_mesner.specs.Laws.{AreSparse}
use Rattle.df_matrix.specs.Limits.{or_else, column_limit_of, entry_limit_of}
use Rattle.df_matrix.proofs.PlaceLists.{places_long}
use Rattle.df_matrix.proofs.matrix.parts_of.Goals as goal

pub targets_of-requires : goal.targets_of-requires
targets_of-requires c =
    let s = c.args.orbits.now in
    c.len.ensures ∙ c.in-Ok.needed.ok.0 ∙ ap length c.in-Ok.ensures ∙ places_long (has_in_orbit s s.required) (orbits_of s)

pub judge-requires-clause-rows : goal.judge-requires-clause-rows
judge-requires-clause-rows c =
    let s = c.args.orbits.now in
    let sparse : AreSparse s = c.columns_are_sparse.ensures s (subst IsStated c.problem.ensures c.version_of-version.ensures.stated) in
    omega (arith, c.len-2.ensures, c.in-Ok-targets.targets.ok.0, ap length c.in-Ok-targets.ensures, sparse.rows)

pub judge-requires-clause-columns : goal.judge-requires-clause-columns
judge-requires-clause-columns c =
    let s = c.args.orbits.now in
    omega (arith, c.len-3.ensures, c.in-Ok-kept_numbers.kept.ok.0, ap length c.in-Ok-kept_numbers.ensures, places_long (is_kept s) (orbits_of s), count_whole (is_kept s) (orbits_of s), c.orbit_count.ensures.count, c.orbit_count.ensures.few)

pub returns-in-Err-clause-refused : goal.returns-in-Err-clause-refused
returns-in-Err-clause-refused c =
    let s = c.args.orbits.now in
    let e = c.in-Err.error in
    let columns = c.len-3.ensures ∙ c.in-Ok-kept_numbers.kept.ok.0 ∙ ap length c.in-Ok-kept_numbers.ensures ∙ places_long (is_kept s) (orbits_of s) in
    let rows = c.len-2.ensures ∙ c.in-Ok-targets.targets.ok.0 ∙ ap length c.in-Ok-targets.ensures in
    let version = c.version_of-version.ensures.version ∙ ap (λ (t : Stated). t.version) c.problem.ensures in
    inl (subst (λ v. or_else (column_limit_of (length (columns_of s))) (entry_limit_of v (length (targets_of s)) (length (columns_of s))) ≡ Some e) version
    (subst (λ r. or_else (column_limit_of (length (columns_of s))) (entry_limit_of c.version_of-version.result r (length (columns_of s))) ≡ Some e) rows
    (subst (λ n. or_else (column_limit_of n) (entry_limit_of c.version_of-version.result c.len-2.result n) ≡ Some e) columns c.in-Err.ensures.refused)))

pub returns-in-Ok-system_of-clause-within : goal.returns-in-Ok-system_of-clause-within
returns-in-Ok-system_of-clause-within c = λ _.
    let s = c.args.orbits.now in
    let columns = c.len-3.ensures ∙ c.in-Ok-kept_numbers.kept.ok.0 ∙ ap length c.in-Ok-kept_numbers.ensures ∙ places_long (is_kept s) (orbits_of s) in
    let rows = c.len-2.ensures ∙ c.in-Ok-targets.targets.ok.0 ∙ ap length c.in-Ok-targets.ensures in
    let version = c.version_of-version.ensures.version ∙ ap (λ (t : Stated). t.version) c.problem.ensures in
    subst (λ v. or_else (column_limit_of (length (columns_of s))) (entry_limit_of v (length (targets_of s)) (length (columns_of s))) ≡ None) version
    (subst (λ r. or_else (column_limit_of (length (columns_of s))) (entry_limit_of c.version_of-version.result r (length (columns_of s))) ≡ None) rows
    (subst (λ n. or_else (column_limit_of n) (entry_limit_of c.version_of-version.result c.len-2.result n) ≡ None) columns (c.in-Ok-judge.ensures.within refl)))
