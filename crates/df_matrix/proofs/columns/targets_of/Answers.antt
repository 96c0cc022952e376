use Rattle.std.proofs.Common.{ℕ, ◌++◌, ◌∷◌, [], map, take, List, sym, ap, ◌∙◌, arith}
use Rattle.std.proofs.lemmas.List.{map_more, append_assoc}
use Rattle.df_kramer_mesner.specs.OrbitSystems.{pairs_of, needed_of, pair_target}
use Rattle.df_matrix.proofs.columns.targets_of.Goals as goal

pub loop-i-preserved : goal.loop-i-preserved
loop-i-preserved c =
    let s = c.args.orbits.now in
    let first = map (pair_target s) (pairs_of s) in
    c.in_ok-push.ensures.items ∙ ap (λ l. l ++ 1 ∷ []) c.loop-i.invariant ∙ append_assoc first (map (λ (needed : List ℕ). 1) (take c.loop-i._i (needed_of s))) (1 ∷ [])
    ∙ sym (ap (λ l. first ++ l) (map_more (λ (needed : List ℕ). 1) (needed_of s) c.loop-i._i [] (omega (arith, c.loop-i-test.true, c.requires))))
