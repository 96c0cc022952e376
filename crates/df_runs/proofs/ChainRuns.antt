-- Chains of runs.
use Rattle.std.proofs.Common.{◌≡◌, ℕ, ◌-◌, Bool, List, [], ◌∷◌, ◌++◌, length, map, Option, Some, None, refl, sym, ap, ◌∙◌, subst, arith}
use Rattle.std.specs.Prelude.{replicate}
use Rattle.std.proofs.lemmas.List.{append_assoc, append-nil, map-append}
use Rattle.std.proofs.lemmas.List.Elements.{filter_map-append}
use Rattle.df_walk.specs.declared.Rules.{Rules}
use Rattle.df_walk.specs.declared.Entry.{Entry}
use Rattle.df_walk.specs.Systems.{System, IsSystem}
use Rattle.df_walk.specs.Assignments.{Decisions, total}
use Rattle.df_walk.specs.Solutions.{solutions, chosen_columns}
use Rattle.df_walk.specs.Walks.{Step, solution_of, solutions_in, nodes_in, entries_in, walk}
use Rattle.df_walk.specs.Paths.{IsNode}
use Rattle.df_walk.specs.Remains.{padded, IsStart}
use Rattle.df_walk.specs.Logs.{Proves, Completes}
use Rattle.df_walk.proofs.NodeVisits.{start_of}
use Rattle.df_walk.proofs.RestSolutions.{rest_all}
use Rattle.df_walk.proofs.WalkLogs.{chosen_in}
use Rattle.df_walk.proofs.LogForms.{Completes-from_AreLogs, AreLogs-from_Completes}
use Rattle.df_runs.specs.Runs.{Run, run_of, then_run, walk_at, rest_at, EndsAt}
use Rattle.df_runs.specs.Chains.{chain_run, Leg, chain_from, chain_stop, AreAllowed, steps_of, legs_of, open_at, open_at_stop}
use Rattle.df_runs.specs.Statements.{IsWholeChain, IsChain, IsOwnChain}
use Rattle.df_runs.proofs.WalkRuns.{ends_there, run_whole, run_join, finished_stays}
use Rattle.df_runs.proofs.OpenPaths.{walk_passes_on}

chosen_in-append : (s : System) (A B : List Step) (M : List (List ℕ)) → chosen_in s A ++ (chosen_in s B ++ M) ≡ chosen_in s (A ++ B) ++ M
chosen_in-append s A B M = sym (append_assoc (chosen_in s A) (chosen_in s B) M) ∙ ap (λ l. l ++ M) (sym (ap (map chosen_columns) (filter_map-append (solution_of s) A B) ∙ map-append chosen_columns (solutions_in s A) (solutions_in s B)))

entries_in-append : (A B : List Step) (F : List Entry) → entries_in A ++ (entries_in B ++ F) ≡ entries_in (A ++ B) ++ F
entries_in-append A B F = sym (append_assoc (entries_in A) (entries_in B) F) ∙ ap (λ l. l ++ F) (sym (map-append (λ step. step.1) A B))

pub chain_passes : (s : System) (start : Option (List Bool)) (legs : List Leg) (F : List Entry) (M : List (List ℕ)) → IsSystem s → AreAllowed s start legs → Completes s (open_at_stop (length s.columns) (chain_stop s start legs)) F M → Completes s (open_at_stop (length s.columns) start) (entries_in (steps_of (chain_from s start legs)) ++ F) (chosen_in s (steps_of (chain_from s start legs)) ++ M)
chain_passes s None [] F M ok allowed done = done
chain_passes s None (leg ∷ legs) F M ok allowed done = done
chain_passes s (Some p) [] F M ok allowed done = done
chain_passes s (Some p) (leg ∷ legs) F M ok allowed done =
    let run = run_of leg.rules s p leg.budget in
    let whole = run_whole leg.rules s p leg.budget ok allowed.0 in
    let B = steps_of (chain_from s run.stop legs) in
    let next = chain_passes s run.stop legs F M ok allowed.1 done in
    let here = walk_passes_on leg.rules s run.taken p run.stop (entries_in B ++ F) (chosen_in s B ++ M) allowed.0.short whole.joined next in
    subst (λ E. Completes s (open_at (length s.columns) p) E (chosen_in s (run.taken ++ B) ++ M)) (entries_in-append run.taken B F) (subst (λ L. Completes s (open_at (length s.columns) p) (entries_in run.taken ++ (entries_in B ++ F)) L) (chosen_in-append s run.taken B M) here)

pub chain_solutions : (s : System) (start : Option (List Bool)) (legs : List Leg) → IsSystem s → AreAllowed s start legs → solutions_in s (steps_of (chain_from s start legs)) ++ rest_at s (chain_stop s start legs) ≡ rest_at s start
chain_solutions s None [] ok allowed = refl
chain_solutions s None (leg ∷ legs) ok allowed = refl
chain_solutions s (Some p) [] ok allowed = refl
chain_solutions s (Some p) (leg ∷ legs) ok allowed =
    let run = run_of leg.rules s p leg.budget in
    let whole = run_whole leg.rules s p leg.budget ok allowed.0 in
    let B = steps_of (chain_from s run.stop legs) in
    let end = rest_at s (chain_stop s run.stop legs) in
    ap (λ l. l ++ end) (filter_map-append (solution_of s) run.taken B) ∙ append_assoc (solutions_in s run.taken) (solutions_in s B) end ∙ ap (λ l. solutions_in s run.taken ++ l) (chain_solutions s run.stop legs ok allowed.1) ∙ whole.solutions

-- one log
pub one_log : (s : System) (ds : Decisions) (E : List Entry) (L : List (List ℕ)) → Completes s (ds ∷ []) E L → Proves s ds E L
one_log s ds E L h =
    let logs = AreLogs-from_Completes s (ds ∷ []) E L h in
    let F = logs.0 in
    let M = logs.2 in
    let no_more = logs.7 in
    let e : E ≡ F = logs.4 ∙ ap (λ l. F ++ l) no_more.0 ∙ append-nil F in
    let l : L ≡ M = logs.5 ∙ ap (λ l. M ++ l) no_more.1 ∙ append-nil M in
    subst (λ E. Proves s ds E L) (sym e) (subst (λ L. Proves s ds F L) (sym l) logs.6)

pub chain_whole : (s : System) (legs : List Leg) → IsSystem s → AreAllowed s (Some []) legs → chain_stop s (Some []) legs ≡ None → IsWholeChain s legs
chain_whole s legs ok allowed end =
    let steps = steps_of (chain_from s (Some []) legs) in
    let columns = length s.columns in
    let all : solutions_in s steps ≡ solutions s = sym (append-nil (solutions_in s steps)) ∙ ap (λ o. solutions_in s steps ++ rest_at s o) (sym end) ∙ chain_solutions s (Some []) legs ok allowed ∙ rest_all s in
    let passes = chain_passes s (Some []) legs [] [] ok allowed (subst (λ o. Completes s (open_at_stop columns o) [] []) (sym end) refl) in
    let log : Completes s (padded columns [] ∷ []) (entries_in steps ++ []) (chosen_in s steps ++ []) = passes in
    let plain = subst (λ E. Completes s (padded columns [] ∷ []) E (chosen_in s steps)) (append-nil (entries_in steps)) (subst (λ L. Completes s (padded columns [] ∷ []) (entries_in steps ++ []) L) (append-nil (chosen_in s steps)) log) in
    let none : columns - 0 ≡ columns = omega arith in
    record {
      solutions_are = all;
      proves = subst (λ n. Proves s (replicate n None) (entries_in steps) (map chosen_columns (solutions s))) none (subst (λ L. Proves s (padded columns []) (entries_in steps) (map chosen_columns L)) all (one_log s (padded columns []) (entries_in steps) (chosen_in s steps) plain));
    }

-- by the same rules
after_allowed : (rules : Rules) (s : System) (p : List Bool) (n nodes : ℕ) (stop : Option (List Bool)) (legs : List Leg) → EndsAt rules s p n nodes stop → ((q : List Bool) → IsNode rules s q → AreAllowed s (Some q) legs) → AreAllowed s stop legs
after_allowed rules s p n nodes None [] e h = tt
after_allowed rules s p n nodes None (leg ∷ legs) e h = tt
after_allowed rules s p n nodes (Some q) legs e h = h q e.2

pub same_allowed : (rules : Rules) (s : System) (budgets : List ℕ) (p : List Bool) → IsSystem s → IsStart rules s p → AreAllowed s (Some p) (legs_of rules budgets)
same_allowed rules s [] p ok h = tt
same_allowed rules s (n ∷ budgets) p ok h =
    let whole = run_whole rules s p n ok h in
    (h, after_allowed rules s p n (length (nodes_in (run_of rules s p n).taken)) (run_of rules s p n).stop (legs_of rules budgets) whole.end (λ q node. same_allowed rules s budgets q ok (start_of rules s q node)))

chain_joined : (rules : Rules) (s : System) (start : Option (List Bool)) (budgets : List ℕ) → IsSystem s → AreAllowed s start (legs_of rules budgets) → walk_at rules s start ≡ steps_of (chain_from s start (legs_of rules budgets)) ++ walk_at rules s (chain_stop s start (legs_of rules budgets))
chain_joined rules s None [] ok allowed = refl
chain_joined rules s None (n ∷ budgets) ok allowed = refl
chain_joined rules s (Some p) [] ok allowed = refl
chain_joined rules s (Some p) (n ∷ budgets) ok allowed =
    let run = run_of rules s p n in
    let whole = run_whole rules s p n ok allowed.0 in
    let B = steps_of (chain_from s run.stop (legs_of rules budgets)) in
    let end = walk_at rules s (chain_stop s run.stop (legs_of rules budgets)) in
    whole.joined ∙ ap (λ l. run.taken ++ l) (chain_joined rules s run.stop budgets ok allowed.1) ∙ sym (append_assoc run.taken B end)

pub chain_is : (rules : Rules) (s : System) (p : List Bool) (budgets : List ℕ) → IsSystem s → IsStart rules s p → IsChain rules s p budgets
chain_is rules s p budgets ok h =
    let legs = legs_of rules budgets in
    let steps = steps_of (chain_from s (Some p) legs) in
    let allowed = same_allowed rules s budgets p ok h in
    let joined = chain_joined rules s (Some p) budgets ok allowed in
    record {
      allowed = allowed;
      joined = joined;
      solutions = chain_solutions s (Some p) legs ok allowed;
      all = λ end. joined ∙ ap (λ o. steps ++ walk_at rules s o) end ∙ append-nil steps;
    }

-- the runs as one
pub chain_total : (rules : Rules) (s : System) (budgets : List ℕ) (p : List Bool) (n : ℕ) → chain_run s (Some p) (legs_of rules (n ∷ budgets)) ≡ run_of rules s p (total (n ∷ budgets))
chain_total rules s [] p n =
    let run = run_of rules s p n in
    let none : total (n ∷ []) ≡ n = omega arith in
    go run.stop run refl ∙ ap (run_of rules s p) (sym none)
  where
    go : (o : Option (List Bool)) (run : Run) → run.stop ≡ o → record { taken = run.taken ++ steps_of (chain_from s run.stop []); stop = chain_stop s run.stop [] } ≡ run
    go None run h = rw (h, append-nil run.taken)
    go (Some q) run h = rw (h, append-nil run.taken)
chain_total rules s (m ∷ budgets) p n =
    go (run_of rules s p n).stop refl (λ q. chain_total rules s budgets q m)
  where
    legs : List Leg
    legs = legs_of rules (m ∷ budgets)

    go : (o : Option (List Bool)) → (run_of rules s p n).stop ≡ o → ((q : List Bool) → chain_run s (Some q) legs ≡ run_of rules s q (total (m ∷ budgets))) → then_run (run_of rules s p n) (chain_run s o legs) ≡ run_of rules s p (total (n ∷ m ∷ budgets))
    go None h more = ends_there (run_of rules s p n) h ∙ sym (finished_stays rules s p n (total (m ∷ budgets)) h)
    go (Some q) h more = ap (then_run (run_of rules s p n)) (more q) ∙ sym (run_join rules s p q n (total (m ∷ budgets)) h)

pub one_log_completes : (s : System) (ds : Decisions) (E : List Entry) (L : List (List ℕ)) → Proves s ds E L → Completes s (ds ∷ []) E L
one_log_completes s ds E L h = Completes-from_AreLogs s (ds ∷ []) E L (E, [], L, [], sym (append-nil E), sym (append-nil L), h, (refl, refl))

pub own_chain : (rules : Rules) (s : System) (budgets : List ℕ) → IsSystem s → chain_stop s (Some []) (legs_of rules budgets) ≡ None → IsOwnChain rules s budgets
own_chain rules s budgets ok end =
    let start : IsStart rules s [] = record { short = omega arith; visited = tt } in
    let chain = chain_is rules s [] budgets ok start in
    record {
      steps_are = sym (chain.all end) ∙ append-nil (walk rules s []);
      whole = chain_whole s (legs_of rules budgets) ok chain.allowed end;
    }
