-- A search: what remains of the walk, and where the search stands.
use Rattle.std.specs.Prelude.{◌≡◌, ◌<◌, ℕ, zero, suc, ◌+◌, ◌-◌, ◌⊎◌, Bool, true, false, List, [], ◌∷◌, ◌++◌, length, Option, Some, None}
use Rattle.df_walk.specs.declared.Rules.{Rules}
use Rattle.df_walk.specs.declared.Entry.{Entry}
use Rattle.df_walk.specs.declared.Entry.TheVariants as entry
use Rattle.df_walk.specs.Systems.{System}
use Rattle.df_walk.specs.Solutions.{yes_vector}
use Rattle.df_walk.specs.Walks.{Step, decided, entry_at, is_branch, solutions_in, node_of, nodes_in}
use Rattle.df_walk.specs.Paths.{IsNode, rest, load}
use Rattle.df_walk.specs.Remains.{remaining, later_walk, walk_on, IsVisited, IsStart, turned}
use Rattle.df_search.specs.declared.Event.{Event}
use Rattle.df_search.specs.declared.Event.TheVariants.{Branch, Over, Under, Residue, Solution, Spent, Finished}
use Rattle.df_search.specs.declared.Turn.{Turn}
use Rattle.df_search.specs.declared.Turn.TheVariants as turn
use Rattle.df_search.specs.declared.search.State.{State}
use Rattle.df_search.specs.declared.search.State.TheVariants.{Here, Below, Tried, Past, Solved, Done}
use Rattle.df_search.specs.declared.held_path.Verdict.{Verdict}
use Rattle.df_search.specs.declared.held_path.Verdict.TheVariants as verdict
use Rattle.df_search.specs.HeldPaths.{Held}
use Rattle.df_search.specs.Leaps.{is_leaf}

pub record Searching : Type 0 where
  pub system : System
  pub rules : Rules
  -- the entries of the walk that are still to come, each with its path
  pub rest : List Step
  -- the path of the last entry answered: before any, where the search began; after `Spent`, where it goes on; after `Finished`, the empty path
  pub path : List Bool
  -- the path at which the walk goes on, where no call was made yet or the last answer was `Spent`
  pub place : Option (List Bool)
  -- the solution, where that was the last answer: a value for each column
  pub chosen : Option (List Bool)

-- a search at a path, of which no call was made
abbrev pub begun : System → Rules → List Bool → List Step → Searching
begun s rules p steps = record { system = s; rules = rules; rest = steps; path = p; place = Some p; chosen = None }

-- the solutions that remain, and how many nodes
abbrev pub rest_solutions : Searching → List (List Bool)
rest_solutions q = solutions_in q.system q.rest

abbrev pub rest_nodes : Searching → ℕ
rest_nodes q = length (nodes_in q.rest)

-- the search may be asked for its place, the path, by which the walk comes: what remains are the entries that aren't before it, and they have its rest and its load
pub record StandsBefore (q : Searching) (p : List Bool) : Type 0 where
  pub place : q.place ≡ Some p
  pub start : IsStart q.rules q.system p
  pub entries : q.rest ≡ remaining q.rules q.system p
  pub goes_on : q.rest ≡ walk_on q.rules q.system p
  pub solutions : rest_solutions q ≡ rest q.system p
  pub nodes : rest_nodes q ≡ load q.rules q.system p

-- the search once the entry at a path is answered, and once it is answered as a solution
abbrev pub answered : Searching → List Bool → List Step → Searching
answered q p more = record q { rest = more; path = p; place = None; chosen = None }

abbrev pub solved : Searching → List Bool → List Step → Searching
solved q p more = record q { rest = more; path = p; place = None; chosen = Some (yes_vector (length q.system.columns) (decided p)) }

-- the search that stays before the entry at a path
abbrev pub stopped : Searching → List Bool → Searching
stopped q p = record q { path = p; place = Some p; chosen = None }

-- the search with nothing left
abbrev pub ended : Searching → Searching
ended q = record q { rest = []; path = []; place = None; chosen = None }

-- the answer by what is left: its first entry, if the budget allows it, or else that the budget is spent or nothing is left
abbrev pub AdvancesBy : Searching → List Step → ℕ → Event → Searching → ℕ → Type 0
AdvancesBy q [] budget event new after = (event ≡ Finished) × (new ≡ ended q) × (after ≡ budget)
AdvancesBy q ((p, entry.Over r) ∷ more) budget event new after = (event ≡ Over r) × (new ≡ answered q p more) × (after ≡ budget)
AdvancesBy q ((p, entry.Under r) ∷ more) budget event new after = (event ≡ Under r) × (new ≡ answered q p more) × (after ≡ budget)
AdvancesBy q ((p, entry.Residue r m) ∷ more) budget event new after = (event ≡ Residue r m) × (new ≡ answered q p more) × (after ≡ budget)
AdvancesBy q ((p, entry.Cut ws) ∷ more) budget event new after = ⊥
AdvancesBy q ((p, entry.Settled) ∷ more) zero event new after = (event ≡ Spent) × (new ≡ stopped q p) × (after ≡ 0)
AdvancesBy q ((p, entry.Settled) ∷ more) (suc n) event new after = (event ≡ Solution) × (new ≡ solved q p more) × (after ≡ n)
AdvancesBy q ((p, entry.Branch c) ∷ more) zero event new after = (event ≡ Spent) × (new ≡ stopped q p) × (after ≡ 0)
AdvancesBy q ((p, entry.Branch c) ∷ more) (suc n) event new after = (event ≡ Branch c) × (new ≡ answered q p more) × (after ≡ n)

abbrev pub Advances : Searching → ℕ → Event → Searching → ℕ → Type 0
Advances q budget event new after = AdvancesBy q q.rest budget event new after

-- the first entries are passed, among which are these solutions, and the budget falls by their nodes: what remained are these and those that remain
pub record Passes (q : Searching) (budget : ℕ) (new : Searching) (after : ℕ) (found : List (List Bool)) : Type 0 where
  pub passed : List Step
  pub joined : q.rest ≡ passed ++ new.rest
  pub solutions : solutions_in q.system passed ≡ found
  pub nodes : budget ≡ length (nodes_in passed) + after
  pub solutions_remain : rest_solutions q ≡ found ++ rest_solutions new
  pub nodes_remain : rest_nodes q + after ≡ rest_nodes new + budget
  pub system : new.system ≡ q.system
  pub rules : new.rules ≡ q.rules

-- the first entry is passed, at which a path is given up
pub record PassesLeaf (q new : Searching) : Type 0 where
  pub leaf : Entry
  pub gives_up : is_leaf leaf ≡ true
  pub first : q.rest ≡ (new.path, leaf) ∷ new.rest
  pub system : new.system ≡ q.system
  pub rules : new.rules ≡ q.rules
  pub path : new.path ≡ q.path

-- the first entry is passed, that of the path with yes for the next column: the row is over there
pub record PassesOver (q new : Searching) (row : ℕ) : Type 0 where
  pub first : q.rest ≡ (q.path ++ true ∷ [], entry.Over row) ∷ new.rest
  pub same : new ≡ answered q (q.path ++ true ∷ []) new.rest

-- up to the first settled entry, which is passed last: its path has the solution, for which the search may be asked
pub record Finds (q : Searching) (budget : ℕ) (new : Searching) (after : ℕ) : Type 0 where
  pub solution : List Bool
  pub passes : Passes q budget new after (solution ∷ [])
  pub before : List Step
  pub entries : q.rest ≡ before ++ (new.path, entry.Settled) ∷ new.rest
  pub none_before : solutions_in q.system before ≡ []
  pub solution_is : solution ≡ yes_vector (length q.system.columns) (decided new.path)
  pub chosen : new.chosen ≡ Some solution

-- up to a node that the budget doesn't allow, with no solution before it: its entry comes next, and the search may be asked for its place
pub record Stops (q : Searching) (budget : ℕ) (new : Searching) (after : ℕ) : Type 0 where
  pub passes : Passes q budget new after []
  pub spent : after ≡ 0
  pub stands : StandsBefore new new.path
  pub node : IsNode new.rules new.system new.path
  pub next : Entry
  pub later : List Step
  pub first : new.rest ≡ (new.path, next) ∷ later
  pub counts : node_of (new.path, next) ≡ Some new.path
  pub more : 0 < rest_nodes new

-- all of them, with no solution
pub record Ends (q : Searching) (budget : ℕ) (new : Searching) (after : ℕ) : Type 0 where
  pub passes : Passes q budget new after []
  pub end : new.rest ≡ []
  pub path : new.path ≡ []

-- what an answer of `next` says
abbrev pub Turns : Searching → ℕ → Turn → Searching → ℕ → Type 0
Turns q budget turn.Design new after = Finds q budget new after
Turns q budget turn.Spent new after = Stops q budget new after
Turns q budget turn.Finished new after = Ends q budget new after

-- the first entry is answered, and the budget pays it where its path is a node
pub record Gives (q : Searching) (budget : ℕ) (e : Entry) (new : Searching) (after : ℕ) : Type 0 where
  pub first : q.rest ≡ (new.path, e) ∷ new.rest
  pub passes : Passes q budget new after (solutions_in q.system ((new.path, e) ∷ []))
  pub paid : budget ≡ length (nodes_in ((new.path, e) ∷ [])) + after

-- the answer is a solution, for which the search may be asked
pub record GivesSolution (q : Searching) (budget : ℕ) (new : Searching) (after : ℕ) : Type 0 where
  pub gives : Gives q budget entry.Settled new after
  pub finds : Finds q budget new after

-- the search stays before a node that the budget doesn't allow
pub record Stays (q : Searching) (budget : ℕ) (new : Searching) (after : ℕ) : Type 0 where
  pub same : new.rest ≡ q.rest
  pub stops : Stops q budget new after

-- nothing remained
pub record HasEnded (q : Searching) (budget : ℕ) (new : Searching) (after : ℕ) : Type 0 where
  pub none : q.rest ≡ []
  pub ends : Ends q budget new after

-- what an answer of `advance` says
abbrev pub IsAnswer : Searching → ℕ → Event → Searching → ℕ → Type 0
IsAnswer q budget (Branch c) new after = Gives q budget (entry.Branch c) new after
IsAnswer q budget (Over r) new after = Gives q budget (entry.Over r) new after
IsAnswer q budget (Under r) new after = Gives q budget (entry.Under r) new after
IsAnswer q budget (Residue r m) new after = Gives q budget (entry.Residue r m) new after
IsAnswer q budget Solution new after = GivesSolution q budget new after
IsAnswer q budget Spent new after = Stays q budget new after
IsAnswer q budget Finished new after = HasEnded q budget new after

-- the number of calls of `advance` that give the same answers: one for each entry passed, and one for the own answer where that is no entry
abbrev pub own_calls : Turn → ℕ
own_calls turn.Design = 0
own_calls turn.Spent = 1
own_calls turn.Finished = 1

abbrev pub calls_of : Searching → Turn → Searching → ℕ
calls_of q t new = length q.rest - length new.rest + own_calls t

-- where the next entry stands: at the path, below it, past its yes, past it (a solution or not), or nowhere
abbrev pub rest_of : State → Rules → System → List Bool → List Step
rest_of Here rules s p = walk_on rules s p
rest_of Below rules s p = walk_on rules s (p ++ true ∷ [])
rest_of Tried rules s p = later_walk rules s [] (p ++ true ∷ [])
rest_of Past rules s p = later_walk rules s [] p
rest_of Solved rules s p = later_walk rules s [] p
rest_of Done rules s p = []

abbrev pub place_of : State → List Bool → Option (List Bool)
place_of Here p = Some p
place_of Below p = None
place_of Tried p = None
place_of Past p = None
place_of Solved p = None
place_of Done p = None

abbrev pub chosen_of : State → System → List Bool → Option (List Bool)
chosen_of Here s p = None
chosen_of Below s p = None
chosen_of Tried s p = None
chosen_of Past s p = None
chosen_of Solved s p = Some (yes_vector (length s.columns) (decided p))
chosen_of Done s p = None

-- the path at which the walk goes on
abbrev pub next_path_of : State → List Bool → Option (List Bool)
next_path_of Here p = Some p
next_path_of Below p = Some (p ++ true ∷ [])
next_path_of Tried p = Some (p ++ false ∷ [])
next_path_of Past p = turned p
next_path_of Solved p = turned p
next_path_of Done p = None

-- the path of the last entry: the one that is held, or that with yes for the next column, which isn't taken
abbrev pub path_at : State → List Bool → List Bool
path_at Here p = p
path_at Below p = p
path_at Tried p = p ++ true ∷ []
path_at Past p = p
path_at Solved p = p
path_at Done p = p

-- what contracts see of a search
abbrev pub search_of : State → Rules → Held → Searching
search_of state rules held = record { system = held.system; rules = rules; rest = rest_of state rules held.system held.path; path = path_at state held.path; place = place_of state held.path; chosen = chosen_of state held.system held.path }

-- a node that the budget allows lowers it by 1, and is answered; else the search stays, spent
abbrev pub Pays : ℕ → State → Event → State → Event → ℕ → Type 0
Pays budget paid_state paid_event state event after = ((budget ≡ 0) × (after ≡ 0) × (state ≡ Here) × (event ≡ Spent)) ⊎ ((budget ≡ after + 1) × (state ≡ paid_state) × (event ≡ paid_event))

-- what a verdict on a path of this many columns answers, and where the search is then
abbrev pub Answers : Verdict → ℕ → ℕ → State → Event → ℕ → Type 0
Answers (verdict.Over r) column budget state event after = (state ≡ Past) × (event ≡ Over r) × (after ≡ budget)
Answers (verdict.Under r) column budget state event after = (state ≡ Past) × (event ≡ Under r) × (after ≡ budget)
Answers (verdict.Residue r m) column budget state event after = (state ≡ Past) × (event ≡ Residue r m) × (after ≡ budget)
Answers verdict.Settled column budget state event after = Pays budget Solved Solution state event after
Answers verdict.Branch column budget state event after = Pays budget Below (Branch column) state event after

-- a search goes on below a path that leaves a column, or past its yes, and at the end its path is empty
abbrev pub IsReady : State → System → List Bool → Type 0
IsReady Below s p = length p < length s.columns
IsReady Tried s p = length p < length s.columns
IsReady Here s p = Unit {0}
IsReady Past s p = Unit {0}
IsReady Solved s p = Unit {0}
IsReady Done s p = p ≡ []

-- it goes on below a path that branches, or past its yes
abbrev pub IsFit : State → Rules → System → List Bool → Type 0
IsFit Below rules s p = is_branch (entry_at rules s p) ≡ true
IsFit Tried rules s p = is_branch (entry_at rules s p) ≡ true
IsFit Here rules s p = Unit {0}
IsFit Past rules s p = Unit {0}
IsFit Solved rules s p = Unit {0}
IsFit Done rules s p = p ≡ []

-- the walk comes by the path, and the search goes on from there
pub record IsOnWalk (rules : Rules) (held : Held) (state : State) : Type 0 where
  pub visited : IsVisited rules held.system held.path
  pub fit : IsFit state rules held.system held.path
