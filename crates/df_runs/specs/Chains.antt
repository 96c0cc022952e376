-- Runs one after the other, each from the stop of the one before, and the assignments that are still wanted at a path.
use Rattle.std.specs.Prelude.{ℕ, Bool, true, false, List, [], ◌∷◌, ◌++◌, map, Option, Some, None}
use Rattle.df_walk.specs.declared.Rules.{Rules}
use Rattle.df_walk.specs.Systems.{System}
use Rattle.df_walk.specs.Assignments.{Decisions}
use Rattle.df_walk.specs.Walks.{Step}
use Rattle.df_walk.specs.Remains.{padded, IsStart}
use Rattle.df_runs.specs.Runs.{Run, run_of}

-- a dossier's rules and budget
pub record Leg : Type 0 where
  pub rules : Rules
  pub budget : ℕ

-- the runs, from a path on until one is finished or there is no further leg
abbrev pub chain_from : System → Option (List Bool) → List Leg → List Run
chain_from s None legs = []
chain_from s (Some p) [] = []
chain_from s (Some p) (leg ∷ legs) = run_of leg.rules s p leg.budget ∷ chain_from s (run_of leg.rules s p leg.budget).stop legs

-- where they end
abbrev pub chain_stop : System → Option (List Bool) → List Leg → Option (List Bool)
chain_stop s None legs = None
chain_stop s (Some p) [] = Some p
chain_stop s (Some p) (leg ∷ legs) = chain_stop s (run_of leg.rules s p leg.budget).stop legs

-- each run begins where the walk by its own rules comes by
abbrev pub AreAllowed : System → Option (List Bool) → List Leg → Type 0
AreAllowed s None legs = Unit {0}
AreAllowed s (Some p) [] = Unit {0}
AreAllowed s (Some p) (leg ∷ legs) = IsStart leg.rules s p × AreAllowed s (run_of leg.rules s p leg.budget).stop legs

-- the steps of runs, joined
abbrev pub steps_of : List Run → List Step
steps_of [] = []
steps_of (run ∷ runs) = run.taken ++ steps_of runs

-- the runs as one
abbrev pub chain_run : System → Option (List Bool) → List Leg → Run
chain_run s start legs = record { taken = steps_of (chain_from s start legs); stop = chain_stop s start legs }

-- all by the same rules
abbrev pub legs_of : Rules → List ℕ → List Leg
legs_of rules budgets = map (λ n. record { rules = rules; budget = n }) budgets

-- after the path: at each yes, from the last to the first, the path cut before it, with no
abbrev pub later_open : ℕ → List Bool → List Bool → List Decisions
later_open columns before [] = []
later_open columns before (true ∷ p) = later_open columns (before ++ true ∷ []) p ++ padded columns (before ++ false ∷ []) ∷ []
later_open columns before (false ∷ p) = later_open columns (before ++ false ∷ []) p

-- the path, and what comes after it
abbrev pub open_at : ℕ → List Bool → List Decisions
open_at columns p = padded columns p ∷ later_open columns [] p

abbrev pub open_at_stop : ℕ → Option (List Bool) → List Decisions
open_at_stop columns None = []
open_at_stop columns (Some p) = open_at columns p
