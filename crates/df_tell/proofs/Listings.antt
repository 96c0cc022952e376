-- The designs of the steps that were passed, as they are listed, and the listing of a run.
use Rattle.std.proofs.Common.{◌≡◌, ℕ, ◌+◌, ◌<◌, Bool, true, false, List, [], ◌∷◌, ◌++◌, length, map, drop, get_or, Option, Some, sym, ap, ◌∙◌, subst, append-nil, append_assoc}
use Rattle.std.specs.Prelude.{option_map}
use Rattle.std.proofs.lemmas.List.{map-append, drop_more}
use Rattle.std.proofs.lemmas.Option.{same_Some}
use Rattle.std.proofs.lemmas.List.Elements.{filter_map-append}
use Rattle.df_walk.specs.Solutions.{yes_columns_from, chosen_columns}
use Rattle.df_walk.specs.Walks.{Step, solution_of, solutions_in}
use Rattle.df_walk.specs.Paths.{WrittenPath, written_path}
use Rattle.df_runs.specs.Runs.{Run, run_of}
use Rattle.df_search.specs.Searches.{Searching, StandsBefore, Finds, Passes}
use Rattle.df_lang.specs.Problems.{Stated}
use Rattle.df_kramer_mesner.specs.OrbitSystems.{orbit_system}
use Rattle.df_correspondence.specs.Designs.{design, base}
use Rattle.df_design.specs.RemainingDesigns.{Remaining, last_design}
use Rattle.df_list.specs.Listings.{Listed, ListedDesign, nothing_listed, with_design, listing_text}
use Rattle.df_tell.specs.declared.run.Counts.{Counts}
use Rattle.df_tell.specs.declared.run.Ran.{Ran}
use Rattle.df_tell.specs.declared.run.RunEnd.{RunEnd}
use Rattle.df_tell.specs.declared.run.RunEnd.TheVariants.{Spent}
use Rattle.df_tell.specs.Listing.{listed_design, listed_designs, designs_of, run_listing, with_designs, Lists}
use Rattle.df_tell.specs.RunSteps.{IsOf, AreCounted, run_left, stop_at, IsOver, IsRan}
use Rattle.df_tell.proofs.RunSteps.{stands_run, paid_nothing, paid_then, finds_paid, passes_paid, over_run}

-- no design more
with_none : (l : Listed) (blocks : Bool) (s : Stated) → l ≡ with_designs l blocks s []
with_none l blocks s = ap (λ (ds : List ListedDesign). record l { designs = ds }) (sym (append-nil l.designs))

-- the designs of steps, and then steps
designs_append : (s : Stated) (a b : List Step) → designs_of s (a ++ b) ≡ designs_of s a ++ designs_of s b
designs_append s a b =
    let y = orbit_system s in
    ap (map (design s)) (filter_map-append (solution_of y) a b) ∙ map-append (design s) (solutions_in y a) (solutions_in y b)

-- designs more, and then designs
with_both : (l : Listed) (blocks : Bool) (s : Stated) (a b : List (List (List ℕ))) → with_designs (with_designs l blocks s a) blocks s b ≡ with_designs l blocks s (a ++ b)
with_both l blocks s a b =
    let f = listed_design blocks s in
    ap (λ (ds : List ListedDesign). record l { designs = ds }) (append_assoc l.designs (map f a) (map f b) ∙ ap (λ ds. l.designs ++ ds) (sym (map-append f a b)))

-- nothing was passed yet
pub listed_nothing : {blocks : Bool} {s : Stated} {q : Remaining} {c : Counts} {l : Listed} → Lists blocks s q q c c l l
unfolding paid_nothing
listed_nothing {blocks = blocks} {s = s} {l = l} = record { pays = paid_nothing; listed = with_none l blocks s }

-- steps, and then steps
pub listed_then : {blocks : Bool} {s : Stated} {q0 q1 q2 : Remaining} {c0 c1 c2 : Counts} {l0 l1 l2 : Listed} → Lists blocks s q0 q1 c0 c1 l0 l1 → Lists blocks s q1 q2 c1 c2 l1 l2 → Lists blocks s q0 q2 c0 c2 l0 l2
unfolding paid_then
listed_then {blocks = blocks} {s = s} {l0 = l0} first second =
    let a = first.pays.steps in
    let b = second.pays.steps in record {
      pays = paid_then first.pays second.pays;
      listed = second.listed ∙ ap (λ l. with_designs l blocks s (designs_of s b)) first.listed ∙ with_both l0 blocks s (designs_of s a) (designs_of s b) ∙ ap (with_designs l0 blocks s) (sym (designs_append s a b));
    }

-- all up to a design was passed, and it was listed
pub finds_listed : {blocks : Bool} {s : Stated} {q new : Remaining} {c d : Counts} {l m : Listed} → IsOf s q → new.problem ≡ q.problem → Finds q.search c.left new.search d.left → d.designs ≡ c.designs + 1
    → ((found : List (List ℕ)) → last_design new ≡ Some found → m ≡ with_design l (listed_design blocks new.problem found)) → Lists blocks s q new c d l m
unfolding finds_paid
finds_listed {blocks = blocks} {s = s} {new = new} {l = l} is problem finds counted listed =
    let x = finds.solution in
    let passed = finds.passes.passed in
    let found : solutions_in (orbit_system s) passed ≡ x ∷ [] = ap (λ y. solutions_in y passed) (sym is.system) ∙ finds.passes.solutions in
    let same : new.problem ≡ s = problem ∙ is.problem in record {
      pays = finds_paid is problem finds counted;
      listed = listed (design new.problem x) (ap (option_map (design new.problem)) finds.chosen)
          ∙ ap (λ t. with_designs l blocks t (design t x ∷ [])) same ∙ ap (λ xs. with_designs l blocks s (map (design s) xs)) (sym found);
    }

-- entries without a solution were passed
pub passes_listed : {blocks : Bool} {s : Stated} {q new : Remaining} {c d : Counts} {l : Listed} → IsOf s q → new.problem ≡ q.problem → Passes q.search c.left new.search d.left [] → d.designs ≡ c.designs → Lists blocks s q new c d l l
unfolding passes_paid
passes_listed {blocks = blocks} {s = s} {l = l} is problem passes counted =
    let found : solutions_in (orbit_system s) passes.passed ≡ [] = ap (λ y. solutions_in y passes.passed) (sym is.system) ∙ passes.solutions in record {
      pays = passes_paid is problem passes counted;
      listed = with_none l blocks s ∙ ap (λ xs. with_designs l blocks s (map (design s) xs)) (sym found);
    }

-- where the run left is over, the designs listed are those of the run
pub over_listed : {blocks : Bool} {s : Stated} {q new : Remaining} {c d : Counts} {l m : Listed} {end : RunEnd} → AreCounted q.search → Lists blocks s q new c d l m → IsOver new.search d.left end → m ≡ with_designs l blocks s (designs_of s (run_left q.search c.left).taken)
over_listed {blocks = blocks} {s = s} {l = l} counted lists over = lists.listed ∙ ap (λ (run : Run). with_designs l blocks s (designs_of s run.taken)) (sym (over_run counted lists.pays over))

-- the listing of a search from the empty path
module _ (blocks : Bool) (s : Stated) (r : Remaining) (n : ℕ) (is : IsOf s r) (stands : StandsBefore r.search []) (q : Searching) (ran : Ran) (done : IsRan r.problem (run_left r.search n) q ran) where
  abbrev R : Run
  R = run_of r.search.rules (orbit_system s) [] n

  is_run : run_left r.search n ≡ R
  is_run = stands_run r.search [] n stands ∙ ap (λ y. run_of r.search.rules y [] n) is.system

  counted : IsRan s R q ran
  counted = subst (λ run. IsRan s run q ran) is_run (subst (λ t. IsRan t (run_left r.search n) q ran) is.problem done)

  pub listing_is : (l : Listed) (next : Option WrittenPath) → l ≡ with_designs (nothing_listed s blocks) blocks r.problem (designs_of r.problem (run_left r.search n).taken) → next ≡ option_map written_path (stop_at ran.end q) → listing_text l next ran.nodes ≡ run_listing blocks s R
  listing_is l next listed goes_on =
      let ranked = counted in
      let all : l ≡ listed_designs blocks s (designs_of s R.taken) = listed ∙ ap (λ t. with_designs (nothing_listed s blocks) blocks t (designs_of t (run_left r.search n).taken)) is.problem ∙ ap (λ (run : Run). with_designs (nothing_listed s blocks) blocks s (designs_of s run.taken)) is_run in
      let stop : next ≡ option_map written_path R.stop = goes_on ∙ ap (option_map written_path) (sym ranked.stop) in
      ap (λ t. listing_text t next ran.nodes) all ∙ ap (λ o. listing_text (listed_designs blocks s (designs_of s R.taken)) o ran.nodes) stop ∙ ap (listing_text (listed_designs blocks s (designs_of s R.taken)) (option_map written_path R.stop)) ranked.nodes

-- one column of a path more
pub column_chosen : (p : List Bool) (column : ℕ) → column < length p → get_or p column false ≡ true → yes_columns_from column (map Some (drop column p)) ≡ column ∷ yes_columns_from (column + 1) (map Some (drop (column + 1) p))
column_chosen p column within is = ap (λ l. yes_columns_from column (map Some l)) (drop_more p column false within) ∙ ap (λ b. yes_columns_from column (map Some (b ∷ drop (column + 1) p))) is

pub column_passed : (p : List Bool) (column : ℕ) → column < length p → get_or p column false ≡ false → yes_columns_from column (map Some (drop column p)) ≡ yes_columns_from (column + 1) (map Some (drop (column + 1) p))
column_passed p column within is = ap (λ l. yes_columns_from column (map Some l)) (drop_more p column false within) ∙ ap (λ b. yes_columns_from column (map Some (b ∷ drop (column + 1) p))) is

-- the base blocks of the design that was found
pub reps_are : (s : Stated) (found : Option (List (List ℕ))) (blocks reps : List (List ℕ)) → found ≡ Some blocks → option_map (base s) found ≡ Some reps → reps ≡ base s blocks
reps_are s found blocks reps is bases = same_Some reps (base s blocks) (sym bases ∙ ap (option_map (base s)) is)

-- a path, written
pub written_is : (p : List Bool) (size : ℕ) (chosen : List ℕ) → size ≡ length p → chosen ≡ chosen_columns p → ◌≡◌ {A = WrittenPath} (record { size = size; chosen = chosen }) (written_path p)
written_is p size chosen long columns = ap (λ (n : ℕ). record { size = n; chosen = chosen }) long ∙ ap (λ (l : List ℕ). record { size = length p; chosen = l }) columns

-- the path where a run goes on that was spent
pub next_is : (end : RunEnd) (q : Searching) (p : List Bool) (path : WrittenPath) → end ≡ Spent → q.place ≡ Some p → path ≡ written_path p → Some path ≡ option_map written_path (stop_at end q)
next_is end q p path is place same = rw (is, place) (ap Some same)

-- the same blocks are listed alike
pub listed_alike : (l : Listed) {base_a base_b all_a all_b : List (List ℕ)} → base_a ≡ base_b → all_a ≡ all_b → with_design l record { base = base_a; all = all_a } ≡ with_design l record { base = base_b; all = all_b }
listed_alike l {base_b = base_b} {all_a = all_a} bases alls = ap (λ (bs : List (List ℕ)). with_design l record { base = bs; all = all_a }) bases ∙ ap (λ (bs : List (List ℕ)). with_design l record { base = base_b; all = bs }) alls
