use Rattle.std.proofs.Common.{◌++◌, ◌∷◌, [], sym, ap, ap₂, ◌∙◌, arith}
use Rattle.std.proofs.lemmas.List.{map_more}
use Rattle.df_lang.specs.Targets.{target}
use Rattle.df_kramer_mesner.specs.OrbitSystems.{pairs_of, pair_target}
use Rattle.df_matrix.proofs.columns.pair_targets.Goals as goal

pub loop-row-preserved : goal.loop-row-preserved
loop-row-preserved c =
    let s = c.args.orbits.now in
    let p = c.pair-p.result.0 in
    let q = c.pair-p.result.1 in
    let value = c.target.ensures ∙ ap (λ s. target s p q) c.problem.ensures ∙ ap (pair_target s) c.pair-p.ensures.pair in
    c.in_ok-push.ensures.items ∙ ap₂ (λ l n. l ++ n ∷ []) c.loop-row.invariant value ∙ sym (map_more (pair_target s) (pairs_of s) c.loop-row.row [] (omega (arith, c.loop-row-test.true, c.pair_count-row-end.ensures.count)))
