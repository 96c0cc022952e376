-- Steps whose entries count where their paths are nodes: those of a walk, and a run over them.
use Rattle.std.proofs.Common.{◌≡◌, ℕ, suc, zero, ◌+◌, ◌-◌, Bool, true, false, cond, List, [], ◌∷◌, ◌++◌, length, Some, None, refl, ap, ◌∙◌, arith}
use Rattle.std.specs.List.{AllByRecursion}
use Rattle.std.proofs.lemmas.Bool.{or_parts}
use Rattle.std.proofs.lemmas.List.{append_assoc, append-nil}
use Rattle.df_lists.proofs.MemberLaws.{AllByRecursion-append}
use Rattle.df_walk.specs.declared.Rules.{Rules}
use Rattle.df_walk.specs.declared.Entry.{Entry}
use Rattle.df_walk.specs.declared.Entry.TheVariants.{Branch, Over, Under, Settled, Residue, Cut}
use Rattle.df_walk.specs.Systems.{System}
use Rattle.df_walk.specs.Assignments.{is_settled}
use Rattle.df_walk.specs.Walks.{Step, decided, entry_at, below, walk_from, walk, node_of, nodes_in}
use Rattle.df_walk.specs.Paths.{settled_between, settled_before, is_node, not_before}
use Rattle.df_walk.specs.Remains.{remaining}
use Rattle.df_walk.proofs.EntryMeanings.{Says, entry_says}
use Rattle.df_walk.proofs.DeadPaths.{live_counts}
use Rattle.df_walk.proofs.WalkOrder.{on_path}
use Rattle.df_runs.specs.Runs.{after_step, pay, run_over, then_run, counted_as, IsCounted}
use Rattle.df_runs.proofs.StepLists.{all_kept}

pub count_node : (step : Step) (steps : List Step) (p : List Bool) → node_of step ≡ Some p → length (nodes_in (step ∷ steps)) ≡ length (nodes_in steps) + 1
count_node step steps p h = rw h (omega arith)

pub count_none : (step : Step) (steps : List Step) → node_of step ≡ None → length (nodes_in (step ∷ steps)) ≡ length (nodes_in steps) + 0
count_none step steps h = rw h (omega arith)

-- steps that the budget pays come first
pub run_after : (node : List Bool → Bool) (k : ℕ) (taken left : List Step) → AllByRecursion (IsCounted node) taken → run_over node (length (nodes_in taken) + k) (taken ++ left) ≡ then_run (record { taken = taken; stop = None }) (run_over node k left)
run_after node k [] left h = let e : 0 + k ≡ k = omega arith in rw e
run_after node k (step ∷ taken) left h = go (node step.0) refl h.0 (run_after node k taken left h.1)
  where
    go : (b : Bool) → node step.0 ≡ b → IsCounted node step → run_over node (length (nodes_in taken) + k) (taken ++ left) ≡ then_run (record { taken = taken; stop = None }) (run_over node k left) → cond b (pay (length (nodes_in (step ∷ taken)) + k) step (λ m. run_over node m (taken ++ left))) (after_step step (run_over node (length (nodes_in (step ∷ taken)) + k) (taken ++ left))) ≡ then_run (record { taken = step ∷ taken; stop = None }) (run_over node k left)
    go true is c r =
        let counts : node_of step ≡ Some step.0 = c ∙ ap (λ b. counted_as b step) is in
        let n : length (nodes_in (step ∷ taken)) + k ≡ suc (length (nodes_in taken) + k) = omega (arith, count_node step taken step.0 counts) in
        ap (λ n. pay n step (λ m. run_over node m (taken ++ left))) n ∙ ap (after_step step) r
    go false is c r =
        let counts : node_of step ≡ None = c ∙ ap (λ b. counted_as b step) is in
        let n : length (nodes_in (step ∷ taken)) + k ≡ length (nodes_in taken) + k = omega (arith, count_none step taken counts) in
        ap (λ n. after_step step (run_over node n (taken ++ left))) n ∙ ap (after_step step) r

settled_more : (s : System) (before p : List Bool) (b : Bool) → settled_between s before p ≡ false → is_settled s (decided (before ++ p)) ≡ false → settled_between s before (p ++ b ∷ []) ≡ false
settled_more s before [] b v h = let e = rw (append-nil before) at h in rw e
settled_more s before (c ∷ p) b v h =
    let parts = or_parts (is_settled s (decided before)) (settled_between s (before ++ c ∷ []) p) v in
    let here = parts.0 in
    let more = settled_more s (before ++ c ∷ []) p b parts.1 (rw (append_assoc before (c ∷ []) p) h) in
    rw (here, more)

-- the walk's entry counts where its path is a node
counted_here : (rules : Rules) (s : System) (p : List Bool) (e : Entry) → settled_between s [] p ≡ false → Says rules s p e → IsCounted (is_node rules s) (p, e)
counted_here rules s p (Over r) v h = let l = live_counts rules s p (Over r) h in rw l
counted_here rules s p (Under r) v h = let l = live_counts rules s p (Under r) h in rw l
counted_here rules s p (Residue r m) v h = let l = live_counts rules s p (Residue r m) h in rw l
counted_here rules s p (Cut ws) v h = absurd h
counted_here rules s p Settled v h = let l = live_counts rules s p Settled h in let w : settled_before s p ≡ false = v in rw (l, w)
counted_here rules s p (Branch c) v h = let l = live_counts rules s p (Branch c) h in let w : settled_before s p ≡ false = v in rw (l, w)

pub walk_from-counted : (rules : Rules) (s : System) (left : ℕ) (p : List Bool) → settled_between s [] p ≡ false → AllByRecursion (IsCounted (is_node rules s)) (walk_from rules s left p)
walk_from-counted rules s zero p v = (counted_here rules s p (entry_at rules s p) v (entry_says rules s p), tt)
walk_from-counted rules s (suc left) p v =
    (counted_here rules s p (entry_at rules s p) v (entry_says rules s p), go (entry_at rules s p) (entry_says rules s p) (λ h. walk_from-counted rules s left (p ++ true ∷ []) h) (λ h. walk_from-counted rules s left (p ++ false ∷ []) h))
  where
    A : List Step
    A = walk_from rules s left (p ++ true ∷ [])

    B : List Step
    B = walk_from rules s left (p ++ false ∷ [])

    go : (e : Entry) → Says rules s p e → (settled_between s [] (p ++ true ∷ []) ≡ false → AllByRecursion (IsCounted (is_node rules s)) A) → (settled_between s [] (p ++ false ∷ []) ≡ false → AllByRecursion (IsCounted (is_node rules s)) B) → AllByRecursion (IsCounted (is_node rules s)) (below e (A ++ B))
    go (Over r) h a b = tt
    go (Under r) h a b = tt
    go (Residue r m) h a b = tt
    go (Cut ws) h a b = tt
    go Settled h a b = tt
    go (Branch c) h a b = AllByRecursion-append _ A B (a (settled_more s [] p true v h.4)) (b (settled_more s [] p false v h.4))

-- so do those that remain at a path
pub steps-counted : (rules : Rules) (s : System) (p : List Bool) → AllByRecursion (IsCounted (is_node rules s)) (remaining rules s p)
steps-counted rules s p = all_kept _ (on_path (not_before p)) (walk rules s []) (walk_from-counted rules s (length s.columns - 0) [] refl)
