-- A walk cut at a path that it comes by: what comes before it, then what remains there.
use Rattle.std.proofs.Common.{◌≡◌, ℕ, suc, zero, ◌+◌, ◌≤◌, Bool, true, false, not, List, [], ◌∷◌, ◌++◌, length, sym, ap, ◌∙◌, arith, length-append}
use Rattle.std.specs.Prelude.{filter}
use Rattle.std.proofs.lemmas.List.{append_assoc, append-nil}
use Rattle.std.proofs.lemmas.List.Elements.{filter-append, filter_map-append}
use Rattle.df_walk.specs.declared.Rules.{Rules}
use Rattle.df_walk.specs.Systems.{System, IsSystem}
use Rattle.df_walk.specs.Walks.{entry_at, below, walk_from, walk, solution_of, solutions_in, node_of, nodes_in}
use Rattle.df_walk.specs.Paths.{is_node, not_before}
use Rattle.df_walk.specs.Remains.{earlier, later_walk, walk_on, IsVisitedFrom, IsVisited}
use Rattle.df_walk.specs.LawStatements.{IsCutAt}
use Rattle.df_walk.proofs.WalkOrder.{on_path, walk_is, walk_passes, walk_fails, below_branch, not_before_self, not_before_prefix, not_before_no, not_before_yes, walk-not_before}
use Rattle.df_walk.proofs.WalkSolutions.{solutions_in-walk}
use Rattle.df_walk.proofs.RestSolutions.{solutions_in-walk_on}
use Rattle.df_walk.proofs.WalkNodes.{nodes_in-walk_on}
use Rattle.df_walk.proofs.NodeVisits.{node_visited}

-- the test of what comes before a path
abbrev comes_before : List Bool → List Bool → Bool
comes_before p q = not (not_before p q)

walk_from-cut : (rules : Rules) (s : System) (left : ℕ) (before p : List Bool) → length before + left ≡ length s.columns → length p ≤ left → IsVisitedFrom rules s before p → walk_from rules s left before ≡ earlier (before ++ p) (walk_from rules s left before) ++ (walk rules s (before ++ p) ++ later_walk rules s before p)
walk_from-cut rules s left before [] long short v =
    rw (append-nil before, append-nil (walk rules s before), walk_fails rules s left before (comes_before before) (λ q. ap not (not_before_self before q))) (sym (walk_is rules s before left long))
walk_from-cut rules s zero before (b ∷ p) long short v = absurd (omega arith)
walk_from-cut rules s (suc left) before (true ∷ p) long short v =
    let t = comes_before (before ++ true ∷ p) in
    let e = entry_at rules s before in
    let A = walk_from rules s left (before ++ true ∷ []) in
    let B = walk_from rules s left (before ++ false ∷ []) in
    let W = walk rules s (before ++ true ∷ p) in
    let later = later_walk rules s (before ++ true ∷ []) p in
    let N = walk rules s (before ++ false ∷ []) in
    let f = filter (on_path t) A in
    let first : A ≡ f ++ (W ++ later) = rw (append_assoc before (true ∷ []) p) at (walk_from-cut rules s left (before ++ true ∷ []) p (omega (arith, length-append before (true ∷ []))) (omega arith) v.1) in
    let second = walk_fails rules s left (before ++ false ∷ []) t (λ q. ap not (not_before_no before p q)) in
    let none : filter (on_path t) (below e (A ++ B)) ≡ f = ap (filter (on_path t)) (below_branch e (A ++ B) v.0) ∙ filter-append (on_path t) A B ∙ ap (λ l. f ++ l) second ∙ append-nil f in
    let is : B ≡ N = sym (walk_is rules s (before ++ false ∷ []) left (omega (arith, length-append before (false ∷ [])))) in
    let below_is : below e (A ++ B) ≡ f ++ (W ++ (later ++ N)) = below_branch e (A ++ B) v.0 ∙ ap (λ l. l ++ B) first ∙ append_assoc f (W ++ later) B ∙ ap (λ l. f ++ l) (append_assoc W later B) ∙ ap (λ l. f ++ (W ++ (later ++ l))) is in
    rw (not_before_prefix before true p, none) (ap (λ l. (before, e) ∷ l) below_is)
walk_from-cut rules s (suc left) before (false ∷ p) long short v =
    let t = comes_before (before ++ false ∷ p) in
    let e = entry_at rules s before in
    let A = walk_from rules s left (before ++ true ∷ []) in
    let B = walk_from rules s left (before ++ false ∷ []) in
    let W = walk rules s (before ++ false ∷ p) in
    let later = later_walk rules s (before ++ false ∷ []) p in
    let f = filter (on_path t) B in
    let first = walk_passes rules s left (before ++ true ∷ []) t (λ q. ap not (not_before_yes before p q)) in
    let second : B ≡ f ++ (W ++ later) = rw (append_assoc before (false ∷ []) p) at (walk_from-cut rules s left (before ++ false ∷ []) p (omega (arith, length-append before (false ∷ []))) (omega arith) v.1) in
    let all : filter (on_path t) (below e (A ++ B)) ≡ A ++ f = ap (filter (on_path t)) (below_branch e (A ++ B) v.0) ∙ filter-append (on_path t) A B ∙ ap (λ l. l ++ f) first in
    let below_is : below e (A ++ B) ≡ (A ++ f) ++ (W ++ later) = below_branch e (A ++ B) v.0 ∙ ap (λ l. A ++ l) second ∙ sym (append_assoc A f (W ++ later)) in
    rw (not_before_prefix before false p, all) (ap (λ l. (before, e) ∷ l) below_is)

pub walk-cut : (rules : Rules) (s : System) (p : List Bool) → length p ≤ length s.columns → IsVisited rules s p → walk rules s [] ≡ earlier p (walk rules s []) ++ walk_on rules s p
walk-cut rules s p short v = rw (walk_is rules s [] (length s.columns) (omega arith)) (walk_from-cut rules s (length s.columns) [] p (omega arith) short v)

pub walk_cut_at_node : (rules : Rules) (s : System) (p : List Bool) → IsSystem s → length p ≤ length s.columns → is_node rules s p ≡ true → IsCutAt rules s p
walk_cut_at_node rules s p ok short node =
    let v = node_visited rules s p node in
    let cut = walk-cut rules s p short v in
    let before = earlier p (walk rules s []) in
    let rests = solutions_in-walk_on rules s p ok short in
    let loads = nodes_in-walk_on rules s p short v in
    record {
      parts = cut;
      remains = walk-not_before rules s p short v;
      rest_remains = rests;
      load_remains = loads;
      solutions_add = ap (λ l. solutions_in s before ++ l) (sym rests) ∙ sym (filter_map-append (solution_of s) before (walk_on rules s p)) ∙ ap (solutions_in s) (sym cut) ∙ solutions_in-walk rules s ok;
      loads_add = ap (λ n. length (nodes_in before) + n) (sym loads) ∙ sym (length-append (nodes_in before) (nodes_in (walk_on rules s p))) ∙ ap length (sym (filter_map-append node_of before (walk_on rules s p)) ∙ ap nodes_in (sym cut)) ∙ ap (λ l. length (nodes_in l)) (sym (append-nil (walk rules s []))) ∙ nodes_in-walk_on rules s [] (omega arith) tt;
    }
