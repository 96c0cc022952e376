-- The JSON listing of a run: the designs that it found, the path where it goes on, and how many nodes it visited.
use Rattle.std.specs.Prelude.{◌≡◌, ℕ, Bool, List, [], ◌++◌, length, map, if◌then◌else◌, Option, option_map}
use Rattle.df_walk.specs.Walks.{Step, solutions_in, nodes_in}
use Rattle.df_walk.specs.Paths.{written_path}
use Rattle.df_runs.specs.Runs.{Run}
use Rattle.df_lang.specs.Problems.{Stated}
use Rattle.df_kramer_mesner.specs.OrbitSystems.{orbit_system}
use Rattle.df_correspondence.specs.Designs.{design, base}
use Rattle.df_design.specs.RemainingDesigns.{Remaining}
use Rattle.df_list.specs.Listings.{ListedDesign, Listed, listing_text}
use Rattle.df_tell.specs.declared.run.Counts.{Counts}
use Rattle.df_tell.specs.RunSteps.{Pays}

-- a design, which is the list of its blocks, as it is listed: its base blocks, and all of them where they are asked for
abbrev pub listed_design : Bool → Stated → List (List ℕ) → ListedDesign
listed_design blocks s design = record { base = base s design; all = if blocks then design else [] }

-- these designs of a problem, in this order
abbrev pub listed_designs : Bool → Stated → List (List (List ℕ)) → Listed
listed_designs blocks s designs = record { problem = s; blocks = blocks; designs = map (listed_design blocks s) designs }

-- their listing, with the path where a search goes on, if it was spent, and a number of nodes
abbrev pub designs_listing : Bool → Stated → List (List (List ℕ)) → Option (List Bool) → ℕ → List ℕ
designs_listing blocks s designs next nodes = listing_text (listed_designs blocks s designs) (option_map written_path next) nodes

-- the designs of the solutions among some steps, in order
abbrev pub designs_of : Stated → List Step → List (List (List ℕ))
designs_of s taken = map (design s) (solutions_in (orbit_system s) taken)

-- the listing of a run
abbrev pub run_listing : Bool → Stated → Run → List ℕ
run_listing blocks s run = designs_listing blocks s (designs_of s run.taken) run.stop (length (nodes_in run.taken))

-- ---- for private clauses

-- these designs more, after the others
abbrev pub with_designs : Listed → Bool → Stated → List (List (List ℕ)) → Listed
with_designs l blocks s designs = record l { designs = l.designs ++ map (listed_design blocks s) designs }

-- steps were passed and paid, and their designs were listed
pub record Lists (blocks : Bool) (s : Stated) (old new : Remaining) (counts counts_new : Counts) (listing listing_new : Listed) : Type 0 where
  pub pays : Pays s old new counts counts_new
  pub listed : listing_new ≡ with_designs listing blocks s (designs_of s pays.steps)
