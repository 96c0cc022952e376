-- The line of a workload's run, from what was counted.
use Rattle.std.proofs.Common.{◌≡◌, ℕ, List, [], length, refl, sym, ap, ◌∙◌, subst}
use Rattle.df_walk.specs.Walks.{solutions_in}
use Rattle.df_runs.specs.Runs.{Run, run_of}
use Rattle.df_search.specs.Searches.{Searching, StandsBefore}
use Rattle.df_lang.specs.Problems.{Stated, point_count}
use Rattle.df_kramer_mesner.specs.OrbitSystems.{orbit_system, columns_of}
use Rattle.df_design.specs.RemainingDesigns.{Remaining}
use Rattle.df_tell.specs.declared.run.Ran.{Ran}
use Rattle.df_tell.specs.Run.{run_end}
use Rattle.df_tell.specs.RunSteps.{IsOf, run_left, IsRan}
use Rattle.df_tell.specs.Workload.{workload_line, workload_text}
use Rattle.df_tell.proofs.RunSteps.{stands_run}
use Rattle.df_tell.proofs.RunStarts.{ended}

-- the search goes through the system of its own problem
pub own_system : {s : Stated} {r : Remaining} → IsOf s r → IsOf r.problem r
own_system is = record { problem = refl; system = is.system ∙ ap orbit_system (sym is.problem) }

module _ (s : Stated) (r : Remaining) (n : ℕ) (is : IsOf s r) (stands : StandsBefore r.search []) (q : Searching) (ran : Ran) (done : IsRan r.problem (run_left r.search n) q ran) where
  abbrev R : Run
  R = run_of r.search.rules (orbit_system s) [] n

  -- the run that was counted is that of the problem
  is_run : run_left r.search n ≡ R
  is_run = stands_run r.search [] n stands ∙ ap (λ y. run_of r.search.rules y [] n) is.system

  counted : IsRan s R q ran
  counted = subst (λ run. IsRan s run q ran) is_run (subst (λ t. IsRan t (run_left r.search n) q ran) is.problem done)

  pub line_is : (k : ℕ) → workload_line k (point_count s) (length (columns_of s)) ran.designs ran.nodes ≡ workload_text k s R
  line_is k =
      let ranked = counted in
      let line : ℕ → ℕ → List ℕ = workload_line k (point_count s) (length (columns_of s)) in
      ap (λ d. line d ran.nodes) ranked.designs ∙ ap (line (length (solutions_in (orbit_system s) R.taken))) ranked.nodes

  pub end_is : ran.end ≡ run_end R.stop
  end_is = ended ran.end q R.stop counted.stop counted.place
