-- The laws of runs. Each is the contract of a function of this crate.
use Rattle.std.specs.Prelude.{◌≡◌, ◌↔◌, ℕ, ◌+◌, ◌*◌, ◌≤◌, MatchOption, Bool, true, false, List, [], ◌∷◌, ◌++◌, length, map, Option, Some, None, replicate, slice_get, slice_set}
use Rattle.std.specs.List.{AllByRecursion}
use Rattle.arrayvec.specs.ArrayVec.{ArrayVec}
use Rattle.df_walk.specs.declared.CutRow.{CutRow}
use Rattle.df_walk.specs.declared.Rules.{Rules}
use Rattle.df_walk.specs.declared.Rules.TheVariants.{Plain, Divisor}
use Rattle.df_walk.specs.declared.Entry.{Entry}
use Rattle.df_walk.specs.declared.Entry.TheVariants.{Branch, Over, Under, Residue, Cut, Settled}
use Rattle.df_walk.specs.Systems.{System, IsSystem}
use Rattle.df_walk.specs.Assignments.{Decisions, total, is_over, is_under, is_settled}
use Rattle.df_walk.specs.Solutions.{solutions, chosen_columns, yes_columns}
use Rattle.df_walk.specs.Walks.{Step, walk, solutions_in, node_of, nodes_in, entries_in}
use Rattle.df_walk.specs.Paths.{is_node, not_before, rest, IsNode}
use Rattle.df_walk.specs.Remains.{walk_on, padded, IsStart}
use Rattle.df_walk.specs.Logs.{Proves, AreLogs, Completes, RowPasses, CutPasses, is_residue}
use Rattle.df_runs.specs.Orders.{Ascend, StandOnce, IsCutBetween}
use Rattle.df_runs.specs.Runs.{run_of, then_run, walk_at, rest_at, IsRunFrom, IsCounted, StopsFirst}
use Rattle.df_runs.specs.Chains.{chain_run, Leg, chain_from, chain_stop, AreAllowed, steps_of, legs_of, open_at, open_at_stop}
use Rattle.df_runs.specs.Waiting.{standing_at, Standing, waiting, wanted, wanted_of, reopened, AreStanding, taken_up, left_out}
use Rattle.df_runs.specs.WeightedSums.{IsWeighted, IsBounded, SumsWithin}

-- the steps of a walk stand in order, each path once
abbrev pub WalksAscend : Type 0
WalksAscend = (rules : Rules) (s : System) (p : List Bool) → Ascend (walk rules s p) × StandOnce (walk rules s p)

-- so do those that remain at a start
abbrev pub RemainsAscend : Type 0
RemainsAscend = (rules : Rules) (s : System) (p : List Bool) → IsStart rules s p → Ascend (walk_on rules s p) × StandOnce (walk_on rules s p)

-- what remains at a start, cut at another that isn't before it
abbrev pub CutsBetweenNodes : Type 0
CutsBetweenNodes = (rules : Rules) (s : System) (p q : List Bool) → IsSystem s → IsStart rules s p → IsStart rules s q → not_before p q ≡ true → IsCutBetween rules s p q

-- a run takes what it pays, and the rest remains at its stop
abbrev pub RunsAreWhole : Type 0
RunsAreWhole = (rules : Rules) (s : System) (p : List Bool) (n : ℕ) → IsSystem s → IsStart rules s p → IsRunFrom rules s p n (run_of rules s p n)

-- the entries of a walk that count as nodes are those whose paths are nodes
abbrev pub NodesAreCounted : Type 0
NodesAreCounted = (rules : Rules) (s : System) → AllByRecursion (IsCounted (is_node rules s)) (walk rules s [])

-- the stop of a run is the first step that can be one
abbrev pub RunsStopFirst : Type 0
RunsStopFirst = (rules : Rules) (s : System) (p : List Bool) (n : ℕ) → StopsFirst rules s p n (run_of rules s p n).taken (run_of rules s p n).stop

-- steps taken from a start, and nothing or an unpaid node after them, are the run
pub record AreRuns (rules : Rules) (s : System) (p : List Bool) : Type 0 where
  pub whole : (n : ℕ) → length (nodes_in (walk_on rules s p)) ≤ n → run_of rules s p n ≡ record { taken = walk_on rules s p; stop = None }
  pub spent : (q : List Bool) (e : Entry) (taken more : List Step) → walk_on rules s p ≡ taken ++ (q, e) ∷ more → is_node rules s q ≡ true → run_of rules s p (length (nodes_in taken)) ≡ record { taken = taken; stop = Some q }
  -- the same, where the entry counts as a node
  pub unpaid : (q : List Bool) (e : Entry) (taken more : List Step) → walk_on rules s p ≡ taken ++ (q, e) ∷ more → node_of (q, e) ≡ Some q → run_of rules s p (length (nodes_in taken)) ≡ record { taken = taken; stop = Some q }

abbrev pub StepsAreRuns : Type 0
StepsAreRuns = (rules : Rules) (s : System) (p : List Bool) → IsStart rules s p → AreRuns rules s p

-- a run, and from its stop another, are the run with both budgets
abbrev pub RunsJoin : Type 0
RunsJoin = (rules : Rules) (s : System) (p q : List Bool) (n m : ℕ) → (run_of rules s p n).stop ≡ Some q → run_of rules s p (n + m) ≡ then_run (run_of rules s p n) (run_of rules s q m)

-- a larger budget adds nothing to a finished run
abbrev pub FinishedRunsStay : Type 0
FinishedRunsStay = (rules : Rules) (s : System) (p : List Bool) (n m : ℕ) → (run_of rules s p n).stop ≡ None → run_of rules s p (n + m) ≡ run_of rules s p n

-- a run may begin at the empty path and at each node
pub record MayStart (rules : Rules) (s : System) : Type 0 where
  pub empty : IsStart rules s []
  pub node : (p : List Bool) → IsNode rules s p → IsStart rules s p

abbrev pub RunsMayStart : Type 0
RunsMayStart = (rules : Rules) (s : System) → MayStart rules s

-- by the plain rules no fewer paths are nodes, so a plain run may follow a run by the divisor's rules
abbrev pub NodesStayPlain : Type 0
NodesStayPlain = (s : System) (p : List Bool) → IsNode Divisor s p → IsNode Plain s p

-- what remains at a path are logs of the assignments that are open there
abbrev pub RemainsAreLogs : Type 0
RemainsAreLogs = (rules : Rules) (s : System) (p : List Bool) → IsSystem s → length p ≤ length s.columns → AreLogs s (open_at (length s.columns) p) (entries_in (walk_on rules s p)) (map chosen_columns (rest s p))

-- a run takes what is open at its start to what is open at its stop, by any rules
abbrev pub RunsPass : Type 0
RunsPass = (rules : Rules) (s : System) (p : List Bool) (n : ℕ) (F : List Entry) (M : List (List ℕ)) → IsSystem s → IsStart rules s p → Completes s (open_at_stop (length s.columns) (run_of rules s p n).stop) F M → Completes s (open_at (length s.columns) p) (entries_in (run_of rules s p n).taken ++ F) (map chosen_columns (solutions_in s (run_of rules s p n).taken) ++ M)

-- a chain takes what is open at its start to what is open at its end, each run by its own rules
abbrev pub ChainsPass : Type 0
ChainsPass = (s : System) (start : Option (List Bool)) (legs : List Leg) (F : List Entry) (M : List (List ℕ)) → IsSystem s → AreAllowed s start legs → Completes s (open_at_stop (length s.columns) (chain_stop s start legs)) F M → Completes s (open_at_stop (length s.columns) start) (entries_in (steps_of (chain_from s start legs)) ++ F) (map chosen_columns (solutions_in s (steps_of (chain_from s start legs))) ++ M)

-- the runs of a chain by any rules that end finished prove all solutions, each once and in order
pub record IsWholeChain (s : System) (legs : List Leg) : Type 0 where
  pub solutions_are : solutions_in s (steps_of (chain_from s (Some []) legs)) ≡ solutions s
  pub proves : Proves s (replicate (length s.columns) None) (entries_in (steps_of (chain_from s (Some []) legs))) (map chosen_columns (solutions s))

abbrev pub ChainsAreLogs : Type 0
ChainsAreLogs = (s : System) (legs : List Leg) → IsSystem s → AreAllowed s (Some []) legs → chain_stop s (Some []) legs ≡ None → IsWholeChain s legs

-- by the same rules all legs are allowed, and the steps and what remains are the walk
pub record IsChain (rules : Rules) (s : System) (p : List Bool) (budgets : List ℕ) : Type 0 where
  pub allowed : AreAllowed s (Some p) (legs_of rules budgets)
  pub joined : walk_on rules s p ≡ steps_of (chain_from s (Some p) (legs_of rules budgets)) ++ walk_at rules s (chain_stop s (Some p) (legs_of rules budgets))
  pub solutions : solutions_in s (steps_of (chain_from s (Some p) (legs_of rules budgets))) ++ rest_at s (chain_stop s (Some p) (legs_of rules budgets)) ≡ rest s p
  -- finished, they are all that remained
  pub all : chain_stop s (Some p) (legs_of rules budgets) ≡ None → walk_on rules s p ≡ steps_of (chain_from s (Some p) (legs_of rules budgets))

abbrev pub ChainsAreWhole : Type 0
ChainsAreWhole = (rules : Rules) (s : System) (p : List Bool) (budgets : List ℕ) → IsSystem s → IsStart rules s p → IsChain rules s p budgets

-- a finished chain of runs by one head from the empty path takes the walk, and its log proves all
pub record IsOwnChain (rules : Rules) (s : System) (budgets : List ℕ) : Type 0 where
  pub steps_are : steps_of (chain_from s (Some []) (legs_of rules budgets)) ≡ walk rules s []
  pub whole : IsWholeChain s (legs_of rules budgets)

abbrev pub OwnChainsAreLogs : Type 0
OwnChainsAreLogs = (rules : Rules) (s : System) (budgets : List ℕ) → IsSystem s → chain_stop s (Some []) (legs_of rules budgets) ≡ None → IsOwnChain rules s budgets

-- the runs of a chain, joined, are the run with all budgets
abbrev pub ChainsAreRuns : Type 0
ChainsAreRuns = (rules : Rules) (s : System) (p : List Bool) (n : ℕ) (budgets : List ℕ) → chain_run s (Some p) (legs_of rules (n ∷ budgets)) ≡ run_of rules s p (total (n ∷ budgets))

-- what a search at a path still wants is what is open there
abbrev pub PathsAreWanted : Type 0
PathsAreWanted = (columns : ℕ) (p : List Bool) → length p ≤ columns → wanted (padded columns p) (standing_at 0 p []) ≡ open_at columns p

-- what a checker does to its decisions and trail
pub record WantedMoves (ds : Decisions) (column : ℕ) (trail : List Standing) : Type 0 where
  -- a branch: what it wants next
  pub take : slice_get ds column ≡ Some None → wanted (slice_set ds column (Some true)) (taken_up column trail) ≡ slice_set ds column (Some true) ∷ slice_set ds column (Some false) ∷ waiting ds trail
  -- its second half
  pub leave : waiting ds (taken_up column trail) ≡ wanted (slice_set ds column (Some false)) (left_out column trail)
  -- both are done
  pub undo : waiting ds (left_out column trail) ≡ waiting (slice_set ds column None) trail

abbrev pub WantedIsKept : Type 0
WantedIsKept = (ds : Decisions) (column : ℕ) (trail : List Standing) → WantedMoves ds column trail

-- one log is what completes its assignment with nothing after it
abbrev pub LogsAreOne : Type 0
LogsAreOne = (s : System) (ds : Decisions) (E : List Entry) (L : List (List ℕ)) → Proves s ds E L ↔ Completes s (wanted ds []) E L

-- a branch moves what completes by one entry
abbrev pub BranchesMoveWanted : Type 0
BranchesMoveWanted = (s : System) (ds : Decisions) (column : ℕ) (trail : List Standing) (E : List Entry) (L : List (List ℕ)) → slice_get ds column ≡ Some None → Completes s (wanted ds trail) (Branch column ∷ E) L ↔ Completes s (wanted (slice_set ds column (Some true)) (taken_up column trail)) E L

-- the sums of a cut by the bounds of its system
abbrev pub WeightedSumsAreBounded : Type 0
WeightedSumsAreBounded = (s : System) (ds : Decisions) (ws : List CutRow) (rows heaviest columns most highest : ℕ) → length ws ≤ rows → AllByRecursion (IsWeighted s heaviest) ws → IsBounded s columns most highest → SumsWithin s ds ws (rows * (heaviest * (highest + most * columns))) (rows * (heaviest * most)) (columns * (rows * (heaviest * most)))

-- closing a leaf: the last branch whose no is still to come gets it, and those after it are undone
pub record LeavesReopen (ds : Decisions) (trail : List Standing) : Type 0 where
  pub waiting_is : waiting ds trail ≡ wanted_of (reopened ds trail)

abbrev pub LeavesAreClosed : Type 0
LeavesAreClosed = (ds : Decisions) (trail : List Standing) → LeavesReopen ds trail

-- an entry that closes a leaf moves what completes by one entry
pub record LeafMoves (s : System) (ds : Decisions) (trail : List Standing) (E : List Entry) (L : List (List ℕ)) : Type 0 where
  pub over_moves : (row : ℕ) → Completes s (wanted ds trail) (Over row ∷ E) L ↔ RowPasses s row (is_over s ds) × Completes s (wanted_of (reopened ds trail)) E L
  pub under_moves : (row : ℕ) → Completes s (wanted ds trail) (Under row ∷ E) L ↔ RowPasses s row (is_under s ds) × Completes s (wanted_of (reopened ds trail)) E L
  pub residue_moves : (row m : ℕ) → Completes s (wanted ds trail) (Residue row m ∷ E) L ↔ RowPasses s row (is_residue s ds m) × Completes s (wanted_of (reopened ds trail)) E L
  pub cut_moves : (ws : ArrayVec CutRow) → Completes s (wanted ds trail) (Cut ws ∷ E) L ↔ CutPasses s ds ws.items × Completes s (wanted_of (reopened ds trail)) E L
  pub settled_moves : Completes s (wanted ds trail) (Settled ∷ E) (yes_columns ds ∷ L) ↔ (is_settled s ds ≡ true) × Completes s (wanted_of (reopened ds trail)) E L

abbrev pub LeavesMoveWanted : Type 0
LeavesMoveWanted = (s : System) (ds : Decisions) (trail : List Standing) (E : List Entry) (L : List (List ℕ)) → LeafMoves s ds trail E L

-- what stands agrees with the trail, at the start and after each move
pub record StandingMoves (columns : ℕ) : Type 0 where
  pub begin : AreStanding columns (replicate columns None) []
  pub take : (ds : Decisions) (column : ℕ) (trail : List Standing) → slice_get ds column ≡ Some None → AreStanding columns ds trail → AreStanding columns (slice_set ds column (Some true)) (taken_up column trail)
  pub reopen : (ds : Decisions) (trail : List Standing) → AreStanding columns ds trail → MatchOption (reopened ds trail) (Unit {0}) (λ w. AreStanding columns w.decisions w.trail)

abbrev pub StandingIsKept : Type 0
StandingIsKept = (columns : ℕ) → StandingMoves columns
