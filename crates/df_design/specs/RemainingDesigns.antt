-- What remains of a search through the orbit system of a problem, said as designs.
use Rattle.std.specs.Prelude.{◌≡◌, ℕ, Bool, List, [], ◌∷◌, map, Option, Some, option_map}
use Rattle.df_walk.specs.declared.Rules.{Rules}
use Rattle.df_walk.specs.Walks.{Step}
use Rattle.df_walk.specs.Paths.{rest}
use Rattle.df_search.specs.declared.Event.{Event}
use Rattle.df_search.specs.declared.Event.TheVariants as event
use Rattle.df_search.specs.declared.Turn.{Turn}
use Rattle.df_search.specs.declared.Turn.TheVariants as turn
use Rattle.df_search.specs.Searches.{Searching, begun, rest_solutions, StandsBefore}
use Rattle.df_search.specs.Resumptions.{Resumes}
use Rattle.df_lang.specs.Problems.{Stated}
use Rattle.df_kramer_mesner.specs.OrbitSystems.{orbit_system}
use Rattle.df_correspondence.specs.Designs.{design}

-- a problem, and a search through its orbit system: the entries, the nodes and the solutions that
-- remain are those of the search
pub record Remaining : Type 0 where
  pub problem : Stated
  pub search : Searching

-- the designs that remain, in order: those of the solutions that remain
abbrev pub rest_designs : Remaining → List (List (List ℕ))
rest_designs r = map (design r.problem) (rest_solutions r.search)

-- the design that was the last answer, where a design was: the list of its blocks, in order
abbrev pub last_design : Remaining → Option (List (List ℕ))
last_design r = option_map (design r.problem) r.search.chosen

-- the designs of the solutions that aren't before a path, in order
abbrev pub designs_from : Stated → List Bool → List (List (List ℕ))
designs_from s p = map (design s) (rest (orbit_system s) p)

-- what remains at a path of which no call was made
abbrev pub remaining_at : Stated → Rules → List Bool → List Step → Remaining
remaining_at s rules p steps =
    record { problem = s; search = begun (orbit_system s) rules p steps }

-- the walk goes on at the path: what remains are the entries that aren't before it, and the designs
-- of the solutions that aren't
pub record StandsAt (r : Remaining) (p : List Bool) : Type 0 where
  pub search : StandsBefore r.search p
  pub designs : rest_designs r ≡ designs_from r.problem p

-- it begins at a path, a node
pub record ResumesAt (rules : Rules) (s : Stated) (p : List Bool) (r : Remaining) : Type 0 where
  pub problem : r.problem ≡ s
  pub search : Resumes rules (orbit_system s) p r.search
  pub stands : StandsAt r p

-- the first design that remained is answered, and the others remain
pub record FindsDesign (r new : Remaining) : Type 0 where
  pub blocks : List (List ℕ)
  pub last : last_design new ≡ Some blocks
  pub first : rest_designs r ≡ blocks ∷ rest_designs new

-- no design was passed, and the walk goes on at the path where it stands
pub record StopsAt (r new : Remaining) : Type 0 where
  pub same : rest_designs new ≡ rest_designs r
  pub stands : StandsAt new new.search.path

-- no design remained, and none does
pub record HasNone (r new : Remaining) : Type 0 where
  pub none : rest_designs r ≡ []
  pub end : rest_designs new ≡ []

-- what an answer of `next` says of the designs that remain
abbrev pub TurnsDesigns : Remaining → Turn → Remaining → Type 0
TurnsDesigns r turn.Design new = FindsDesign r new
TurnsDesigns r turn.Spent new = StopsAt r new
TurnsDesigns r turn.Finished new = HasNone r new

-- what an answer of `advance` says of the designs that remain
abbrev pub AdvancesDesigns : Remaining → Event → Remaining → Type 0
AdvancesDesigns r (event.Branch c) new = rest_designs new ≡ rest_designs r
AdvancesDesigns r (event.Over row) new = rest_designs new ≡ rest_designs r
AdvancesDesigns r (event.Under row) new = rest_designs new ≡ rest_designs r
AdvancesDesigns r (event.Residue row m) new = rest_designs new ≡ rest_designs r
AdvancesDesigns r event.Solution new = FindsDesign r new
AdvancesDesigns r event.Spent new = StopsAt r new
AdvancesDesigns r event.Finished new = HasNone r new
