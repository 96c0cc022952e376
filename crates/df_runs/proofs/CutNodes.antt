-- What remains at a node, cut at a node that isn't before it.
use Rattle.std.proofs.Common.{◌≡◌, ◌+◌, Bool, true, false, not, List, [], ◌++◌, length, refl, sym, ap, ◌∙◌, length-append}
use Rattle.std.specs.Prelude.{filter, ◌&&◌}
use Rattle.std.proofs.lemmas.List.Elements.{filter_agree, filter-append, filter_map-append}
use Rattle.std.proofs.Math.Bool.{and_comm}
use Rattle.df_lists.proofs.TestLaws.{filter-filter}
use Rattle.df_walk.specs.declared.Rules.{Rules}
use Rattle.df_walk.specs.Systems.{System, IsSystem}
use Rattle.df_walk.specs.Walks.{Step, walk, solution_of, solutions_in, node_of, nodes_in}
use Rattle.df_walk.specs.Paths.{not_before}
use Rattle.df_walk.specs.Remains.{walk_on, IsStart, earlier}
use Rattle.df_walk.proofs.WalkOrder.{on_path, remains_is}
use Rattle.df_walk.proofs.WalkCuts.{walk-cut}
use Rattle.df_walk.proofs.RestSolutions.{solutions_in-walk_on}
use Rattle.df_walk.proofs.WalkNodes.{nodes_in-walk_on}
use Rattle.df_runs.specs.Orders.{IsCutBetween}
use Rattle.df_runs.proofs.StepLists.{filter_all, all_pass, all_weaker, not_before_trans}

-- a test that a stronger one implies
and_implied : (a b : Bool) → (b ≡ true → a ≡ true) → (a && b) ≡ b
and_implied a true h = let e = h refl in rw e
and_implied true false h = refl
and_implied false false h = refl

-- those that aren't before p, and of them those that aren't before q
pub later_of : (p q : List Bool) (steps : List Step) → not_before p q ≡ true → filter (on_path (not_before q)) (filter (on_path (not_before p)) steps) ≡ filter (on_path (not_before q)) steps
later_of p q steps h = filter-filter (on_path (not_before q)) (on_path (not_before p)) steps ∙ filter_agree _ (on_path (not_before q)) (λ x. and_implied (not_before p x.0) (not_before q x.0) (λ e. not_before_trans p q x.0 h e)) steps

filters_swap : {X : Type 0} (a b : X → Bool) (xs : List X) → filter a (filter b xs) ≡ filter b (filter a xs)
filters_swap a b xs = filter-filter a b xs ∙ filter_agree _ (λ x. a x && b x) (λ x. and_comm (b x) (a x)) xs ∙ sym (filter-filter b a xs)

pub cut_between : (rules : Rules) (s : System) (p q : List Bool) → IsSystem s → IsStart rules s p → IsStart rules s q → not_before p q ≡ true → IsCutBetween rules s p q
cut_between rules s p q ok hp hq pq =
    let W = walk rules s [] in
    let t = on_path (not_before p) in
    let u = on_path (not_before q) in
    let fp : filter t W ≡ walk_on rules s p = remains_is rules s p hp in
    let fq : filter u W ≡ walk_on rules s q = remains_is rules s q hq in
    let remains : filter u (walk_on rules s p) ≡ walk_on rules s q = ap (filter u) (sym fp) ∙ later_of p q W pq ∙ fq in
    let cut : W ≡ earlier q W ++ walk_on rules s q = walk-cut rules s q hq.short hq.visited in
    let kept : filter t (walk_on rules s q) ≡ walk_on rules s q = ap (filter t) (sym fq) ∙ filter_all t (filter u W) (all_weaker _ _ (λ x e. not_before_trans p q x.0 pq e) (filter u W) (all_pass u W)) ∙ fq in
    let front : filter t (earlier q W) ≡ earlier q (walk_on rules s p) = filters_swap t (λ x. not (not_before q x.0)) W ∙ ap (earlier q) fp in
    let parts : walk_on rules s p ≡ earlier q (walk_on rules s p) ++ walk_on rules s q = sym fp ∙ ap (filter t) cut ∙ filter-append t (earlier q W) (walk_on rules s q) ∙ ap (λ l. l ++ filter t (walk_on rules s q)) front ∙ ap (λ l. earlier q (walk_on rules s p) ++ l) kept in
    let before = earlier q (walk_on rules s p) in
    record {
      parts = parts;
      remains = remains;
      rests_add = ap (λ l. solutions_in s before ++ l) (sym (solutions_in-walk_on rules s q ok hq.short)) ∙ sym (filter_map-append (solution_of s) before (walk_on rules s q)) ∙ ap (solutions_in s) (sym parts) ∙ solutions_in-walk_on rules s p ok hp.short;
      loads_add = ap (λ n. length (nodes_in before) + n) (sym (nodes_in-walk_on rules s q hq.short hq.visited)) ∙ sym (length-append (nodes_in before) (nodes_in (walk_on rules s q))) ∙ ap length (sym (filter_map-append node_of before (walk_on rules s q)) ∙ ap nodes_in (sym parts)) ∙ nodes_in-walk_on rules s p hp.short hp.visited;
    }
