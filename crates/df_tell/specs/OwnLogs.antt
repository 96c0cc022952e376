-- Logs of our own: the texts that a chain of runs wrote, each with its log, are joined a chain of dossiers.
use Rattle.std.specs.Prelude.{◌≡◌, ℕ, ◌≤◌, Bool, true, List, [], ◌∷◌, ◌++◌, map, Option, Some, None}
use Rattle.std.specs.List.{AllByRecursion}
use Rattle.df_io.specs.Lines.{lines_of}
use Rattle.df_walk.specs.declared.Rules.{Rules}
use Rattle.df_runs.specs.Runs.{Run, run_of}
use Rattle.df_runs.specs.Chains.{Leg, chain_stop, AreAllowed}
use Rattle.df_lang.specs.Problems.{Stated, IsStated}
use Rattle.df_kramer_mesner.specs.OrbitSystems.{orbit_system}
use Rattle.df_correspondence.specs.Designs.{asked}
use Rattle.df_matrix.specs.Limits.{limit_passed}
use Rattle.df_dossier.specs.declared.numbers.TheConstants.{MOST_COUNT}
use Rattle.df_check.specs.Chains.{IsChain, designs_of}
use Rattle.df_tell.specs.declared.run.Shown.{Shown}
use Rattle.df_tell.specs.Run.{run_text}

-- a run of a chain: its rules and budget, and whether the blocks of designs are shown
pub record ShownLeg : Type 0 where
  pub leg : Leg
  pub blocks : Bool

-- the log is shown in each
abbrev pub shown_in : ShownLeg → Shown
shown_in r = record { log = true; blocks = r.blocks }

-- the rules and budgets alone
abbrev pub legs_in : List ShownLeg → List Leg
legs_in runs = map (λ r. r.leg) runs

-- the run of a leg from a path
abbrev pub run_in : Stated → List Bool → ShownLeg → Run
run_in s p r = run_of r.leg.rules (orbit_system s) p r.leg.budget

-- the texts of the runs, joined: each from the path where the one before it stopped, until one is finished or there is no other
abbrev pub chain_text : Stated → Option (List Bool) → List ShownLeg → List ℕ
chain_text s None runs = []
chain_text s (Some p) [] = []
chain_text s (Some p) (r ∷ runs) = run_text r.leg.rules s (shown_in r) p (run_in s p r) ++ chain_text s (run_in s p r).stop runs

-- from the empty path these runs finish: the problem keeps its rules and the limits of orbit matrices, and each budget is one that
-- an end line can have
pub record AreOwnLogs (s : Stated) (runs : List ShownLeg) : Type 0 where
  pub stated : IsStated s
  pub within : limit_passed s ≡ None
  pub budgets : AllByRecursion (λ r. r.leg.budget ≤ MOST_COUNT) runs
  pub finished : chain_stop (orbit_system s) (Some []) (legs_in runs) ≡ None

-- the lines are a chain of this problem, and its designs are all that are asked for, in their order
pub record IsChainOf (s : Stated) (lines : List (List ℕ)) : Type 0 where
  pub chain : IsChain lines
  pub problem : chain.first.problem ≡ s
  pub designs : designs_of chain ≡ asked s

-- the lines of the joined texts are such a chain
pub record OwnLogsAreChains : Type 0 where
  -- of runs by the same rules, as a search and those that go on with it are
  pub same_rules : (rules : Rules) (s : Stated) (runs : List ShownLeg) → AllByRecursion (λ r. r.leg.rules ≡ rules) runs → AreOwnLogs s runs
      → IsChainOf s (lines_of (chain_text s (Some []) runs))
  -- of runs each by its own rules, where the walk by these comes by the path at which the run begins
  pub own_rules : (s : Stated) (runs : List ShownLeg) → AreAllowed (orbit_system s) (Some []) (legs_in runs) → AreOwnLogs s runs
      → IsChainOf s (lines_of (chain_text s (Some []) runs))
