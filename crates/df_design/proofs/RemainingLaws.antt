-- What an answer of the search says of the designs that remain.
use Rattle.std.proofs.Common.{◌≡◌, ◌≤◌, ◌==◌, length, arith, ℕ, Bool, List, [], ◌∷◌, ◌++◌, map, Some, refl, sym, ap, ◌∙◌, subst}
use Rattle.std.specs.Prelude.{option_map}
use Rattle.std.specs.List.{list_any}
use Rattle.std.proofs.lemmas.List.{length-map}
use Rattle.std.proofs.lemmas.List.FromFn.{length-map-range_with_len}
use Rattle.df_walk.specs.declared.Rules.{Rules}
use Rattle.df_walk.specs.Paths.{WrittenPath, path_of, IsNode}
use Rattle.df_system.specs.Storage.{positive_cells}
use Rattle.df_walk.specs.Systems.{System}
use Rattle.df_walk.specs.Paths.{rest}
use Rattle.df_walk.specs.declared.Entry.TheVariants as entry
use Rattle.df_search.specs.declared.Event.{Event}
use Rattle.df_search.specs.declared.Event.TheVariants as event
use Rattle.df_search.specs.declared.Turn.{Turn}
use Rattle.df_search.specs.declared.Turn.TheVariants as turn
use Rattle.df_search.specs.Searches.{Searching, rest_solutions, StandsBefore, Passes, Finds, Stops, Ends, Gives, IsAnswer, Turns}
use Rattle.df_lang.specs.Problems.{Stated}
use Rattle.df_kramer_mesner.specs.OrbitSystems.{orbit_system, columns_of, entries_of}
use Rattle.df_correspondence.specs.Designs.{base, design}
use Rattle.df_design.specs.RemainingDesigns.{Remaining, rest_designs, last_design, StandsAt, FindsDesign, StopsAt, HasNone, TurnsDesigns, AdvancesDesigns}

abbrev pub seen : Stated → Searching → Remaining
seen s q = record { problem = s; search = q }

pub stands_at : (s : Stated) (q : Searching) (p : List Bool) → q.system ≡ orbit_system s → StandsBefore q p → StandsAt (seen s q) p
stands_at s q p same h = record { search = h; designs = ap (map (design s)) (h.solutions ∙ ap (λ system. rest system p) same) }

finds : (s : Stated) (q new : Searching) (budget after : ℕ) → Finds q budget new after → FindsDesign (seen s q) (seen s new)
finds s q new budget after h = record {
  blocks = design s h.solution;
  last = ap (option_map (design s)) h.chosen;
  first = ap (map (design s)) h.passes.solutions_remain;
}

stops : (s : Stated) (q new : Searching) (budget after : ℕ) → q.system ≡ orbit_system s → Stops q budget new after → StopsAt (seen s q) (seen s new)
stops s q new budget after same h = record {
  same = ap (map (design s)) (sym h.passes.solutions_remain);
  stands = stands_at s new new.path (h.passes.system ∙ same) h.stands;
}

ends : (s : Stated) (q new : Searching) (budget after : ℕ) → Ends q budget new after → HasNone (seen s q) (seen s new)
ends s q new budget after h = record {
  none = ap (map (design s)) (h.passes.solutions_remain ∙ none);
  end = ap (map (design s)) none;
}
  where
    none : rest_solutions new ≡ []
    none = rw h.end refl

pub turns : (s : Stated) (q new : Searching) (budget after : ℕ) (t : Turn) → q.system ≡ orbit_system s → Turns q budget t new after → TurnsDesigns (seen s q) t (seen s new)
turns s q new budget after turn.Design same h = finds s q new budget after h
turns s q new budget after turn.Spent same h = stops s q new budget after same h
turns s q new budget after turn.Finished same h = ends s q new budget after h

pub advances : (s : Stated) (q new : Searching) (budget after : ℕ) (e : Event) → q.system ≡ orbit_system s → IsAnswer q budget e new after → AdvancesDesigns (seen s q) e (seen s new)
advances s q new budget after (event.Branch c) same h = ap (map (design s)) (sym h.passes.solutions_remain)
advances s q new budget after (event.Over r) same h = ap (map (design s)) (sym h.passes.solutions_remain)
advances s q new budget after (event.Under r) same h = ap (map (design s)) (sym h.passes.solutions_remain)
advances s q new budget after (event.Residue r m) same h = ap (map (design s)) (sym h.passes.solutions_remain)
advances s q new budget after event.Solution same h = finds s q new budget after h.finds
advances s q new budget after event.Spent same h = stops s q new budget after same h.stops
advances s q new budget after event.Finished same h = ends s q new budget after h.ends

-- a search stays in its system
pub turns_within : (q new : Searching) (budget after : ℕ) (t : Turn) → Turns q budget t new after → new.system ≡ q.system
turns_within q new budget after turn.Design h = h.passes.system
turns_within q new budget after turn.Spent h = h.passes.system
turns_within q new budget after turn.Finished h = h.passes.system

pub advances_within : (q new : Searching) (budget after : ℕ) (e : Event) → IsAnswer q budget e new after → new.system ≡ q.system
advances_within q new budget after (event.Branch c) h = h.passes.system
advances_within q new budget after (event.Over r) h = h.passes.system
advances_within q new budget after (event.Under r) h = h.passes.system
advances_within q new budget after (event.Residue r m) h = h.passes.system
advances_within q new budget after event.Solution h = h.finds.passes.system
advances_within q new budget after event.Spent h = h.stops.passes.system
advances_within q new budget after event.Finished h = h.ends.passes.system

-- an orbit system has a column for each kept orbit
pub columns_long : (s : Stated) → length (orbit_system s).columns ≡ length (columns_of s)
columns_long s = length-map (columns_of s) (λ b. positive_cells 0 (entries_of s b))

-- a node isn't longer than the columns
pub node_short : (rules : Rules) (s : System) (w : WrittenPath) → IsNode rules s (path_of w) → w.size ≤ length s.columns
node_short rules s w node = omega (arith, node.short, length-map-range_with_len (λ column. list_any (λ c. c == column) w.chosen) 0 w.size)

-- the base blocks, and the blocks, of the design of the vector that was answered
pub bases_listed : (r : Remaining) (x : List Bool) (listed : List (List ℕ)) → r.search.chosen ≡ Some x → base r.problem (design r.problem x) ≡ listed → option_map (base r.problem) (last_design r) ≡ Some listed
bases_listed r x listed e h = ap (λ o. option_map (base r.problem) (option_map (design r.problem) o)) e ∙ ap Some h

pub blocks_listed : (r : Remaining) (x : List Bool) (listed : List (List ℕ)) → r.search.chosen ≡ Some x → design r.problem x ≡ listed → last_design r ≡ Some listed
blocks_listed r x listed e h = ap (option_map (design r.problem)) e ∙ ap Some h
