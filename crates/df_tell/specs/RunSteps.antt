-- What a writer of a run has passed of it, and what is left.
use Rattle.std.specs.Prelude.{◌≡◌, ℕ, ◌+◌, ◌<◌, ◌≤◌, Bool, List, [], ◌∷◌, ◌++◌, length, map, decimal, if◌then◌else◌, Option, Some, None, Result, IsSome}
use Rattle.std.specs.List.{AllByRecursion, flat_map}
use Rattle.df_io.specs.declared.bytes.WriteFault.{WriteFault}
use Rattle.df_walk.specs.Walks.{Step, solutions_in, nodes_in}
use Rattle.df_walk.specs.Paths.{is_node}
use Rattle.df_runs.specs.Runs.{Run, run_over, IsCounted}
use Rattle.df_search.specs.Searches.{Searching}
use Rattle.df_lang.specs.Problems.{Stated}
use Rattle.df_kramer_mesner.specs.OrbitSystems.{orbit_system}
use Rattle.df_design.specs.RemainingDesigns.{Remaining}
use Rattle.df_dossier.specs.Tokens.{after_spaces}
use Rattle.df_tell.specs.declared.run.Shown.{Shown}
use Rattle.df_tell.specs.declared.run.Counts.{Counts}
use Rattle.df_tell.specs.declared.run.Ran.{Ran}
use Rattle.df_tell.specs.declared.run.RunEnd.{RunEnd}
use Rattle.df_tell.specs.declared.run.RunEnd.TheVariants.{Finished, Spent}
use Rattle.df_tell.specs.Gathered.{Gathers}
use Rattle.df_tell.specs.Run.{step_lines}

-- the yes columns of a path, which stand after its length
abbrev pub columns_text : List ℕ → List ℕ
columns_text columns = after_spaces (map decimal columns)

-- a column, where it is a yes column
abbrev pub column_text : Bool → ℕ → List ℕ
column_text chosen column = if chosen then 32 ∷ decimal column else []

-- the search goes through the orbit system of the problem
pub record IsOf (s : Stated) (r : Remaining) : Type 0 where
  pub problem : r.problem ≡ s
  pub system : r.search.system ≡ orbit_system s

-- the entries that are left count as nodes where their paths are nodes
abbrev pub AreCounted : Searching → Type 0
AreCounted q = AllByRecursion (IsCounted (is_node q.rules q.system)) q.rest

-- the run of a budget over the entries that are left
abbrev pub run_left : Searching → ℕ → Run
run_left q n = run_over (is_node q.rules q.system) n q.rest

-- steps were passed and paid, and their designs were counted
pub record Pays (s : Stated) (old new : Remaining) (counts counts_new : Counts) : Type 0 where
  pub steps : List Step
  pub joined : old.search.rest ≡ steps ++ new.search.rest
  pub nodes : counts.left ≡ length (nodes_in steps) + counts_new.left
  pub designs : counts_new.designs ≡ counts.designs + length (solutions_in (orbit_system s) steps)
  pub few : counts_new.designs + counts_new.left ≤ counts.designs + counts.left
  pub problem : new.problem ≡ old.problem
  pub system : new.search.system ≡ old.search.system
  pub rules : new.search.rules ≡ old.search.rules

-- and what is printed of them was gathered
pub record Tells {K : Type 0} (written : K → Option (List ℕ)) (faults : K → ℕ) (shown : Shown) (s : Stated) (old new : Remaining) (counts counts_new : Counts) (out out_new : K) (gathered gathered_new : List ℕ) (result : Result (Unit {0}) WriteFault) : Type 0 where
  pub pays : Pays s old new counts counts_new
  pub gathers : Gathers written faults out out_new gathered gathered_new (flat_map (step_lines shown s) pays.steps) result

-- the path where a run goes on that ended so
abbrev pub stop_at : RunEnd → Searching → Option (List Bool)
stop_at Finished q = None
stop_at Spent q = q.place

-- the budget allows nothing more of the run
pub record IsOver (q : Searching) (left : ℕ) (end : RunEnd) : Type 0 where
  pub run : run_left q left ≡ record { taken = []; stop = stop_at end q }
  pub place : end ≡ Spent → IsSome q.place

-- the run is over, or fewer entries are left than before
abbrev pub EndsOrGoesOn : Searching → Searching → ℕ → Option RunEnd → Type 0
EndsOrGoesOn old new left (Some end) = IsOver new left end
EndsOrGoesOn old new left None = length new.rest < length old.rest

-- the numbers of a run, and its stop
pub record IsRan (s : Stated) (run : Run) (q : Searching) (ran : Ran) : Type 0 where
  pub designs : ran.designs ≡ length (solutions_in (orbit_system s) run.taken)
  pub nodes : ran.nodes ≡ length (nodes_in run.taken)
  pub stop : run.stop ≡ stop_at ran.end q
  pub place : ran.end ≡ Spent → IsSome q.place
