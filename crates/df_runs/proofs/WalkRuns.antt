-- Runs from a node: the steps taken, and what remains at the stop.
use Rattle.std.proofs.Common.{◌≡◌, ℕ, ◌+◌, ◌-◌, ◌≤◌, Bool, true, false, List, [], ◌∷◌, ◌++◌, length, Option, Some, None, refl, sym, ap, ◌∙◌, subst, arith, length-append}
use Rattle.std.specs.Prelude.{filter}
use Rattle.std.specs.List.{AllByRecursion}
use Rattle.std.proofs.lemmas.List.{append-nil}
use Rattle.std.proofs.lemmas.List.Elements.{filter_map-append}
use Rattle.df_lists.proofs.MemberLaws.{all_front, all_back}
use Rattle.df_walk.specs.declared.Rules.{Rules}
use Rattle.df_walk.specs.declared.Entry.{Entry}
use Rattle.df_walk.specs.Systems.{System, IsSystem}
use Rattle.df_walk.specs.Walks.{Step, walk, solution_of, solutions_in, node_of, nodes_in}
use Rattle.df_walk.specs.Paths.{is_node, not_before, rest, load, IsNode}
use Rattle.df_walk.specs.Remains.{walk_on, IsStart, remaining}
use Rattle.df_walk.proofs.WalkOrder.{on_path, remains_is}
use Rattle.df_walk.proofs.RestSolutions.{solutions_in-walk_on}
use Rattle.df_walk.proofs.WalkNodes.{nodes_in-walk_on}
use Rattle.df_walk.proofs.NodeVisits.{node_visited, start_of}
use Rattle.df_runs.specs.Orders.{Ascend}
use Rattle.df_runs.specs.Runs.{Run, run_over, run_of, then_run, IsRunFrom, counted_as, IsCounted, StopsFirst}
use Rattle.df_runs.proofs.StepLists.{all_kept, all_pass, Ascend-filter, Ascend-cut}
use Rattle.df_runs.proofs.WalkOrders.{walk_from-all, walk_from-ascends}
use Rattle.df_runs.proofs.CutNodes.{later_of}
use Rattle.df_runs.proofs.BudgetRuns.{left_over, Ends, run_splits, run_joins, nodes_among_is}
use Rattle.df_runs.proofs.CountedSteps.{count_node, run_after, walk_from-counted, steps-counted}

steps-short : (rules : Rules) (s : System) (p : List Bool) → AllByRecursion (λ step. length step.0 ≤ length s.columns) (remaining rules s p)
steps-short rules s p = all_kept _ (on_path (not_before p)) (walk rules s []) (walk_from-all rules s (length s.columns - 0) [] (λ q. length q ≤ length s.columns) (λ q n. omega arith))

-- a step of what remains at p whose path is a node, and what remains from it on
pub record IsStop (rules : Rules) (s : System) (p q : List Bool) (left : List Step) : Type 0 where
  pub node : IsNode rules s q
  pub later : not_before p q ≡ true
  pub left_is : left ≡ walk_on rules s q

is_stop : (rules : Rules) (s : System) (p q : List Bool) (e : Entry) (taken more : List Step) → remaining rules s p ≡ taken ++ (q, e) ∷ more → is_node rules s q ≡ true → IsStop rules s p q ((q, e) ∷ more)
is_stop rules s p q e taken more joined node =
    let short = (all_back (λ step. length step.0 ≤ length s.columns) taken ((q, e) ∷ more) (subst (AllByRecursion (λ step. length step.0 ≤ length s.columns)) joined (steps-short rules s p))).0 in
    let later = (all_back (λ step. not_before p step.0 ≡ true) taken ((q, e) ∷ more) (subst (AllByRecursion (λ step. not_before p step.0 ≡ true)) joined (all_pass (on_path (not_before p)) (walk rules s [])))).0 in
    let at : IsNode rules s q = record { short = short; node = node } in
    let ascends = subst Ascend joined (Ascend-filter (on_path (not_before p)) (walk rules s []) (walk_from-ascends rules s (length s.columns - 0) [])) in
    record {
      node = at;
      later = later;
      left_is = sym (Ascend-cut taken (q, e) more ascends) ∙ ap (filter (on_path (not_before q))) (sym joined) ∙ later_of p q (walk rules s []) later ∙ remains_is rules s q (start_of rules s q at);
    }

-- what remains at p, in two parts
solutions_add : (rules : Rules) (s : System) (p : List Bool) (taken left : List Step) → IsSystem s → IsStart rules s p → walk_on rules s p ≡ taken ++ left → solutions_in s taken ++ solutions_in s left ≡ rest s p
solutions_add rules s p taken left ok h joined = sym (filter_map-append (solution_of s) taken left) ∙ ap (solutions_in s) (sym joined) ∙ solutions_in-walk_on rules s p ok h.short

nodes_add : (rules : Rules) (s : System) (p : List Bool) (taken left : List Step) → IsStart rules s p → walk_on rules s p ≡ taken ++ left → length (nodes_in taken) + length (nodes_in left) ≡ load rules s p
nodes_add rules s p taken left h joined = sym (length-append (nodes_in taken) (nodes_in left)) ∙ ap length (sym (filter_map-append node_of taken left) ∙ ap nodes_in (sym joined)) ∙ nodes_in-walk_on rules s p h.short h.visited

run_ends : (rules : Rules) (s : System) (p : List Bool) (n : ℕ) (taken left : List Step) (stop : Option (List Bool)) → IsSystem s → IsStart rules s p → remaining rules s p ≡ taken ++ left → AllByRecursion (IsCounted (is_node rules s)) left → Ends (is_node rules s) n (length (nodes_in taken)) left stop → IsRunFrom rules s p n (record { taken = taken; stop = stop })
run_ends rules s p n taken left None ok h joined counted ends =
    let whole : walk_on rules s p ≡ taken ++ [] = sym (remains_is rules s p h) ∙ joined ∙ ap (λ l. taken ++ l) ends.0 in
    let count : length (nodes_in taken) + 0 ≡ load rules s p = nodes_add rules s p taken [] h whole in
    record {
      joined = whole;
      solutions = solutions_add rules s p taken [] ok h whole;
      nodes = count;
      end = (omega arith, omega (arith, ends.1));
    }
run_ends rules s p n taken left (Some q) ok h joined counted ends =
    let e = ends.0 in
    let more = ends.1 in
    let stop = is_stop rules s p q e taken more (joined ∙ ap (λ l. taken ++ l) ends.2) ends.3 in
    let whole : walk_on rules s p ≡ taken ++ walk_on rules s q = sym (remains_is rules s p h) ∙ joined ∙ ap (λ l. taken ++ l) (ends.2 ∙ stop.left_is) in
    let sol = solutions_add rules s p taken (walk_on rules s q) ok h whole in
    let count = nodes_add rules s p taken (walk_on rules s q) h whole in
    let load_q : length (nodes_in (walk_on rules s q)) ≡ load rules s q = nodes_in-walk_on rules s q stop.node.short (node_visited rules s q stop.node.node) in
    let first : node_of (q, e) ≡ Some q = (subst (AllByRecursion (IsCounted (is_node rules s))) ends.2 counted).0 ∙ ap (λ b. counted_as b (q, e)) ends.3 in
    let some : length (nodes_in (walk_on rules s q)) ≡ length (nodes_in more) + 1 = ap (λ l. length (nodes_in l)) (sym stop.left_is) ∙ count_node (q, e) more q first in
    record {
      joined = whole;
      solutions = ap (λ l. solutions_in s taken ++ l) (sym (solutions_in-walk_on rules s q ok stop.node.short)) ∙ sol;
      nodes = omega arith;
      end = (ends.4, omega (arith, ends.4), stop.node, stop.later);
    }

pub run_whole : (rules : Rules) (s : System) (p : List Bool) (n : ℕ) → IsSystem s → IsStart rules s p → IsRunFrom rules s p n (run_of rules s p n)
run_whole rules s p n ok h =
    let steps = remaining rules s p in
    let run = run_of rules s p n in
    let left = left_over (is_node rules s) n steps in
    let all = steps-counted rules s p in
    let splits = run_splits (is_node rules s) n steps all in
    run_ends rules s p n run.taken left run.stop ok h splits.joined (all_back _ run.taken left (subst (AllByRecursion (IsCounted (is_node rules s))) splits.joined all)) splits.ends

left_at : (rules : Rules) (s : System) (p q : List Bool) (n : ℕ) (taken left : List Step) (stop : Option (List Bool)) → stop ≡ Some q → remaining rules s p ≡ taken ++ left → Ends (is_node rules s) n (length (nodes_in taken)) left stop → left ≡ remaining rules s q
left_at rules s p q n taken left None is joined ends = cc
left_at rules s p q n taken left (Some r) is joined ends =
    let stop = is_stop rules s p r ends.0 taken ends.1 (joined ∙ ap (λ l. taken ++ l) ends.2) ends.3 in
    let same : r ≡ q = cc in
    ends.2 ∙ stop.left_is ∙ sym (remains_is rules s r (start_of rules s r stop.node)) ∙ ap (remaining rules s) same

pub run_join : (rules : Rules) (s : System) (p q : List Bool) (n m : ℕ) → (run_of rules s p n).stop ≡ Some q → run_of rules s p (n + m) ≡ then_run (run_of rules s p n) (run_of rules s q m)
run_join rules s p q n m is =
    let steps = remaining rules s p in
    let run = run_of rules s p n in
    let left = left_over (is_node rules s) n steps in
    let splits = run_splits (is_node rules s) n steps (steps-counted rules s p) in
    run_joins (is_node rules s) n m steps ∙ ap (λ l. then_run run (run_over (is_node rules s) m l)) (left_at rules s p q n run.taken left run.stop is splits.joined splits.ends)

-- nothing is left of a finished run
none_left : (node : List Bool → Bool) (n count : ℕ) (left : List Step) (stop : Option (List Bool)) → stop ≡ None → Ends node n count left stop → left ≡ []
none_left node n count left None is ends = ends.0
none_left node n count left (Some q) is ends = cc

-- a finished run, and then nothing
pub ends_there : (run : Run) → run.stop ≡ None → then_run run (record { taken = []; stop = None }) ≡ run
ends_there run is = rw (append-nil run.taken) (ap (λ (o : Option (List Bool)). record { taken = run.taken; stop = o }) (sym is))

pub finished_stays : (rules : Rules) (s : System) (p : List Bool) (n m : ℕ) → (run_of rules s p n).stop ≡ None → run_of rules s p (n + m) ≡ run_of rules s p n
finished_stays rules s p n m is =
    let steps = remaining rules s p in
    let run = run_of rules s p n in
    let left = left_over (is_node rules s) n steps in
    let splits = run_splits (is_node rules s) n steps (steps-counted rules s p) in
    let none = none_left (is_node rules s) n (length (nodes_in run.taken)) left run.stop is splits.ends in
    run_joins (is_node rules s) n m steps ∙ ap (λ l. then_run run (run_over (is_node rules s) m l)) none ∙ ends_there run is

pub walk-counted : (rules : Rules) (s : System) → AllByRecursion (IsCounted (is_node rules s)) (walk rules s [])
walk-counted rules s = walk_from-counted rules s (length s.columns - 0) [] refl

-- steps that the budget pays
pub run_of_steps : (rules : Rules) (s : System) (p : List Bool) (k : ℕ) (taken left : List Step) → IsStart rules s p → walk_on rules s p ≡ taken ++ left → run_of rules s p (length (nodes_in taken) + k) ≡ then_run (record { taken = taken; stop = None }) (run_over (is_node rules s) k left)
run_of_steps rules s p k taken left h joined =
    let steps : remaining rules s p ≡ taken ++ left = remains_is rules s p h ∙ joined in
    let counted = all_front _ taken left (subst (AllByRecursion (IsCounted (is_node rules s))) steps (steps-counted rules s p)) in
    ap (run_over (is_node rules s) (length (nodes_in taken) + k)) steps ∙ run_after (is_node rules s) k taken left counted

-- all of them
pub run_of_all : (rules : Rules) (s : System) (p : List Bool) (n : ℕ) → IsStart rules s p → length (nodes_in (walk_on rules s p)) ≤ n → run_of rules s p n ≡ record { taken = walk_on rules s p; stop = None }
run_of_all rules s p n h few =
    let k = n - length (nodes_in (walk_on rules s p)) in
    let e : n ≡ length (nodes_in (walk_on rules s p)) + k = omega arith in
    ap (run_of rules s p) e ∙ run_of_steps rules s p k (walk_on rules s p) [] h (sym (append-nil (walk_on rules s p))) ∙ rw (append-nil (walk_on rules s p))

-- up to a node that the budget doesn't pay
pub run_to_node : (rules : Rules) (s : System) (p q : List Bool) (e : Entry) (taken more : List Step) → IsStart rules s p → walk_on rules s p ≡ taken ++ (q, e) ∷ more → is_node rules s q ≡ true → run_of rules s p (length (nodes_in taken)) ≡ record { taken = taken; stop = Some q }
run_to_node rules s p q e taken more h joined node =
    let n : length (nodes_in taken) ≡ length (nodes_in taken) + 0 = omega arith in
    let stops : run_over (is_node rules s) 0 ((q, e) ∷ more) ≡ record { taken = []; stop = Some q } = rw node in
    ap (run_of rules s p) n ∙ run_of_steps rules s p 0 taken ((q, e) ∷ more) h joined ∙ ap (then_run (record { taken = taken; stop = None })) stops ∙ rw (append-nil taken)

-- the stop is the first that can be one
pub run_stops_first : (rules : Rules) (s : System) (p : List Bool) (n : ℕ) → StopsFirst rules s p n (run_of rules s p n).taken (run_of rules s p n).stop
run_stops_first rules s p n =
    let steps = remaining rules s p in
    let run = run_of rules s p n in
    let left = left_over (is_node rules s) n steps in
    let all = steps-counted rules s p in
    let splits = run_splits (is_node rules s) n steps all in
    go run.taken left run.stop splits.joined (all_front _ run.taken left (subst (AllByRecursion (IsCounted (is_node rules s))) splits.joined all)) splits.ends
  where
    go : (taken left : List Step) (stop : Option (List Bool)) → remaining rules s p ≡ taken ++ left → AllByRecursion (IsCounted (is_node rules s)) taken → Ends (is_node rules s) n (length (nodes_in taken)) left stop → StopsFirst rules s p n taken stop
    go taken left None joined counted ends = (joined ∙ ap (λ l. taken ++ l) ends.0 ∙ append-nil taken, omega (arith, nodes_among_is (is_node rules s) taken counted, ends.1))
    go taken left (Some q) joined counted ends = (ends.0, ends.1, joined ∙ ap (λ l. taken ++ l) ends.2, ends.3, nodes_among_is (is_node rules s) taken counted ∙ ends.4)

-- where the entry counts as a node the path is one
counted_node : (b : Bool) (step : Step) (q : List Bool) → node_of step ≡ counted_as b step → node_of step ≡ Some q → b ≡ true
counted_node true step q c h = refl
counted_node false step q c h = cc

pub run_to_unpaid : (rules : Rules) (s : System) (p q : List Bool) (e : Entry) (taken more : List Step) → IsStart rules s p → walk_on rules s p ≡ taken ++ (q, e) ∷ more → node_of (q, e) ≡ Some q → run_of rules s p (length (nodes_in taken)) ≡ record { taken = taken; stop = Some q }
run_to_unpaid rules s p q e taken more h joined counts =
    let steps : remaining rules s p ≡ taken ++ (q, e) ∷ more = remains_is rules s p h ∙ joined in
    let counted = (all_back _ taken ((q, e) ∷ more) (subst (AllByRecursion (IsCounted (is_node rules s))) steps (steps-counted rules s p))).0 in
    run_to_node rules s p q e taken more h joined (counted_node (is_node rules s q) (q, e) q counted counts)
