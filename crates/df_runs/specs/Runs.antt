-- A run: the steps that a budget of nodes pays, and where it stops.
use Rattle.std.specs.Prelude.{◌≡◌, ℕ, zero, suc, ◌+◌, ◌<◌, ◌≤◌, if◌then◌else◌, Bool, true, false, List, [], ◌∷◌, ◌++◌, length, filter, Option, Some, None}
use Rattle.df_walk.specs.declared.Rules.{Rules}
use Rattle.df_walk.specs.declared.Entry.{Entry}
use Rattle.df_walk.specs.Systems.{System}
use Rattle.df_walk.specs.Walks.{Step, solutions_in, node_of, nodes_in}
use Rattle.df_walk.specs.Paths.{is_node, IsNode, not_before, rest, load}
use Rattle.df_walk.specs.Remains.{remaining, walk_on}

-- the steps taken, and the path of the stop, if the budget was spent
pub record Run : Type 0 where
  pub taken : List Step
  pub stop : Option (List Bool)

-- nothing is left
abbrev pub finished : Run
finished = record { taken = []; stop = None }

-- the run stops before the step
abbrev pub stopped_at : Step → Run
stopped_at step = record { taken = []; stop = Some step.0 }

-- the step is taken first
abbrev pub after_step : Step → Run → Run
after_step step run = record { taken = step ∷ run.taken; stop = run.stop }

-- a node costs 1, and without budget the run stops there
abbrev pub pay : ℕ → Step → (ℕ → Run) → Run
pay zero step more = stopped_at step
pay (suc n) step more = after_step step (more n)

-- the steps before the first whose path is a node that has n nodes before it, or all of them
abbrev pub run_over : (List Bool → Bool) → ℕ → List Step → Run
run_over node n [] = finished
run_over node n (step ∷ steps) = if node step.0 then pay n step (λ m. run_over node m steps) else after_step step (run_over node n steps)

-- the run of n nodes from a path
abbrev pub run_of : Rules → System → List Bool → ℕ → Run
run_of rules s p n = run_over (is_node rules s) n (remaining rules s p)

-- a run, and then another
abbrev pub then_run : Run → Run → Run
then_run a b = record { taken = a.taken ++ b.taken; stop = b.stop }

-- what remains at a stop
abbrev pub walk_at : Rules → System → Option (List Bool) → List Step
walk_at rules s None = []
walk_at rules s (Some q) = walk_on rules s q

abbrev pub rest_at : System → Option (List Bool) → List (List Bool)
rest_at s None = []
rest_at s (Some q) = rest s q

abbrev pub load_at : Rules → System → Option (List Bool) → ℕ
load_at rules s None = 0
load_at rules s (Some q) = load rules s q

-- spent at q: a node not before p, with n nodes of the load of p before it, and more; finished: the whole load of p is at most n
abbrev pub EndsAt : Rules → System → List Bool → ℕ → ℕ → Option (List Bool) → Type 0
EndsAt rules s p n nodes None = (nodes ≡ load rules s p) × (load rules s p ≤ n)
EndsAt rules s p n nodes (Some q) = (nodes ≡ n) × (n < load rules s p) × IsNode rules s q × (not_before p q ≡ true)

-- a run from p
pub record IsRunFrom (rules : Rules) (s : System) (p : List Bool) (n : ℕ) (run : Run) : Type 0 where
  pub joined : walk_on rules s p ≡ run.taken ++ walk_at rules s run.stop
  pub solutions : solutions_in s run.taken ++ rest_at s run.stop ≡ rest s p
  pub nodes : length (nodes_in run.taken) + load_at rules s run.stop ≡ load rules s p
  pub end : EndsAt rules s p n (length (nodes_in run.taken)) run.stop

-- the entry counts as a node where its path is one
abbrev pub counted_as : Bool → Step → Option (List Bool)
counted_as true step = Some step.0
counted_as false step = None

abbrev pub IsCounted : (List Bool → Bool) → Step → Type 0
IsCounted node step = node_of step ≡ counted_as (node step.0) step

-- how many of the steps stand at nodes
abbrev pub nodes_among : (List Bool → Bool) → List Step → ℕ
nodes_among node steps = length (filter (λ step. node step.0) steps)

-- the stop is the first step whose path is a node and that has n nodes before it; there is none where the nodes are at most n
abbrev pub StopsFirst : Rules → System → List Bool → ℕ → List Step → Option (List Bool) → Type 0
StopsFirst rules s p n taken None = (remaining rules s p ≡ taken) × (nodes_among (is_node rules s) taken ≤ n)
StopsFirst rules s p n taken (Some q) = (e : Entry) × (more : List Step) × (remaining rules s p ≡ taken ++ (q, e) ∷ more) × (is_node rules s q ≡ true) × (nodes_among (is_node rules s) taken ≡ n)
