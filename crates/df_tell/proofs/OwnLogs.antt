-- The joined texts of a chain of runs, as a chain of dossiers.
use Rattle.std.proofs.Common.{◌≡◌, ℕ, ◌+◌, ◌≤◌, Bool, true, false, nat_lt, List, [], ◌∷◌, ◌++◌, length, map, Option, Some, None, option_map, IfSome, Ok, refl, sym, ap, ◌∙◌, subst, arith}
use Rattle.std.specs.List.{AllByRecursion}
use Rattle.std.proofs.lemmas.Bool.{ltb-false}
use Rattle.std.proofs.lemmas.Grind.{flat_map-append}
use Rattle.std.proofs.lemmas.Simd.{map-map}
use Rattle.df_lists.specs.Orders.{IsEquality}
use Rattle.df_lists.proofs.TestLaws.{map_agree}
use Rattle.df_subsets.specs.Blocks.{before}
use Rattle.df_subsets.specs.Subsets.{same_list}
use Rattle.df_subsets.specs.SetLaws.{AreSets}
use Rattle.df_subsets.specs.SubsetLaws.{SubsetsAreAll, CandidatesAreAll}
use Rattle.df_io.specs.Lines.{lines_of}
use Rattle.df_walk.specs.declared.Rules.{Rules}
use Rattle.df_walk.specs.Solutions.{solutions, chosen_columns}
use Rattle.df_walk.specs.Walks.{Step, solutions_in, nodes_in, entries_in}
use Rattle.df_walk.specs.Paths.{written_path}
use Rattle.df_walk.specs.Remains.{IsStart}
use Rattle.df_walk.specs.Logs.{Proves}
use Rattle.df_runs.specs.Chains.{chain_from, chain_stop, steps_of, legs_of, AreAllowed}
use Rattle.df_runs.specs.Statements.{RunsAreWhole, RunsStopFirst, ChainsAreLogs, ChainsAreWhole}
use Rattle.df_lang.specs.Problems.{Stated, IsStated}
use Rattle.df_lang.specs.Canonical.{canonical}
use Rattle.df_lang.specs.RoundTrip.{CanonicalLinesReadBack, CanonicalLinesAreLines, PointsReadBack}
use Rattle.df_kramer_mesner.specs.OrbitSystems.{orbit_system, columns_of}
use Rattle.df_kramer_mesner.specs.Laws.{OrbitSystemsAreSystems, RowsArePairsAndNeeded, OrbitsAreKept, ColumnsAreSparse, EntriesAreCounts}
use Rattle.df_families.specs.Families.{picked}
use Rattle.df_families.specs.Laws.{ArePicked}
use Rattle.df_correspondence.specs.Designs.{asked, base, union_of, design}
use Rattle.df_correspondence.specs.Laws.{DesignsAreSolutions, BaseIsChosen}
use Rattle.df_matrix.specs.Limits.{or_else, passed_by, subset_limit, column_limit, entry_limit, limit_passed}
use Rattle.df_matrix.specs.declared.matrix.MatrixError.{MatrixError}
use Rattle.df_matrix.specs.declared.matrix.MatrixError.TheVariants as matrix
use Rattle.df_matrix.specs.declared.matrix.TheConstants.{MOST_COLUMNS}
use Rattle.df_dossier.specs.declared.numbers.TheConstants.{MOST_NUMBER, MOST_COUNT}
use Rattle.df_dossier.specs.DesignsBack.{DesignsReadBack}
use Rattle.df_dossier.specs.RunPaths.{PathsMayStand}
use Rattle.df_dossier.specs.Dossiers.{dossier_from, whole}
use Rattle.df_dossier.specs.DossierTexts.{IsRunPath}
use Rattle.df_dossier.specs.DossiersBack.{IsEnding, items_of, dossier_of, DossiersReadBack}
use Rattle.df_check.specs.Checkers.{undecided}
use Rattle.df_check.specs.Lines.{leaves_of}
use Rattle.df_check.specs.DesignLines.{blocks_of}
use Rattle.df_check.specs.DesignLaws.{AreProof}
use Rattle.df_check.specs.Chains.{Read, AreDossiers, GoOn, log_of}
use Rattle.df_check.proofs.DesignLeaves.{chosen}
use Rattle.df_tell.specs.Run.{run_text}
use Rattle.df_tell.specs.OwnLogs.{ShownLeg, shown_in, legs_in, run_in, chain_text, AreOwnLogs, IsChainOf, OwnLogsAreChains}
use Rattle.df_tell.proofs.RunSteps.{sols_few}
use Rattle.df_tell.proofs.LoggedEntries.{step_logged}
use Rattle.df_tell.proofs.NumberedSystems.{is_numbered}
use Rattle.df_tell.proofs.SpentRuns.{logged, ending, text_is, base_read, steps_read, each_first, each_second}
use Rattle.df_tell.proofs.RunBack.{canonical_stated, canonical_few, took}
use Rattle.df_tell.proofs.OwnItems.{step_items, run_items, logged_items, items_in_order, entries_are, leaves_are}

-- within the limits the columns are few
no_error : (first : Option MatrixError) (e : MatrixError) (last : Option MatrixError) → or_else first (or_else (Some e) last) ≡ None → ⊥
no_error None e last h = absurd (cc)
no_error (Some other) e last h = absurd (cc)

few_within : (s : Stated) → limit_passed s ≡ None → length (columns_of s) ≤ MOST_COLUMNS
unfolding limit_passed
few_within s h = by (nat_lt MOST_COLUMNS (length (columns_of s))) refl
  where
    by : (b : Bool) → nat_lt MOST_COLUMNS (length (columns_of s)) ≡ b → length (columns_of s) ≤ MOST_COLUMNS
    by false is = ltb-false MOST_COLUMNS (length (columns_of s)) is
    by true is =
        let columns : column_limit s ≡ Some (matrix.TooManyColumns (length (columns_of s))) = rw is refl in
        let none = ap (λ o. or_else (option_map passed_by (subset_limit s)) (or_else o (entry_limit s))) (sym columns) ∙ h in
        absurd (no_error (option_map passed_by (subset_limit s)) (matrix.TooManyColumns (length (columns_of s))) (entry_limit s) none)

-- the dossiers of the runs
abbrev read_in : Stated → List Bool → ShownLeg → Read
read_in s p r =
    let run = run_in s p r in dossier_of r.leg.rules (canonical s) s (written_path p) (logged (shown_in r) s run.taken) (ending s run.taken run.stop)

abbrev dossiers_in : Stated → Option (List Bool) → List ShownLeg → List Read
dossiers_in s None runs = []
dossiers_in s (Some p) [] = []
dossiers_in s (Some p) (r ∷ runs) = read_in s p r ∷ dossiers_in s (run_in s p r).stop runs

-- each begins where the one before it stopped, and the last one is finished
go_on : (s : Stated) (start : Option (List Bool)) (runs : List ShownLeg) → chain_stop (orbit_system s) start (legs_in runs) ≡ None → GoOn (option_map written_path start) (dossiers_in s start runs)
go_on s None runs finished = tt
go_on s (Some p) [] finished = absurd (cc)
go_on s (Some p) (r ∷ runs) finished = (refl, go_on s (run_in s p r).stop runs finished)

-- all have the source of the problem
same_source : (s : Stated) (start : Option (List Bool)) (runs : List ShownLeg) → AllByRecursion (λ (d : Read). d.source ≡ canonical s) (dossiers_in s start runs)
same_source s None runs = tt
same_source s (Some p) [] = tt
same_source s (Some p) (r ∷ runs) = (refl, same_source s (run_in s p r).stop runs)

-- their logs, joined, are that of the steps of all runs
items_joined : (s : Stated) (a b : List Step) → run_items s a ++ run_items s b ≡ run_items s (a ++ b)
items_joined s a b = sym (flat_map-append (step_items s) a b)

module _ (s : Stated) (items : (r : ShownLeg) (steps : List Step) → items_of s (logged (shown_in r) s steps) ≡ run_items s steps) where
  logs_joined : (start : Option (List Bool)) (runs : List ShownLeg) → log_of (dossiers_in s start runs) ≡ run_items s (steps_of (chain_from (orbit_system s) start (legs_in runs)))
  logs_joined None runs = refl
  logs_joined (Some p) [] = refl
  logs_joined (Some p) (r ∷ runs) =
      let run = run_in s p r in
      ap (λ l. l ++ log_of (dossiers_in s run.stop runs)) (items r run.taken)
      ∙ ap (λ l. run_items s run.taken ++ l) (logs_joined run.stop runs)
      ∙ items_joined s run.taken (steps_of (chain_from (orbit_system s) run.stop (legs_in runs)))

-- the end of a run may be written
end_written : (s : Stated) (steps : List Step) (stop : Option (List Bool)) → PathsMayStand → length (nodes_in steps) ≤ MOST_COUNT → IfSome stop (λ q. length q ≤ MOST_NUMBER) → IsEnding (ending s steps stop)
end_written s steps stop paths few short = record {
  designs = let low = sols_few (orbit_system s) steps in omega (arith, low, few);
  nodes = few;
  next = by stop short;
}
  where
    by : (o : Option (List Bool)) → IfSome o (λ q. length q ≤ MOST_NUMBER) → IfSome (option_map written_path o) IsRunPath
    by None short = tt
    by (Some q) short = paths q short

short_stop : (columns : ℕ) (stop : Option (List Bool)) → columns ≤ MOST_NUMBER → IfSome stop (λ q. length q ≤ columns) → IfSome stop (λ q. length q ≤ MOST_NUMBER)
short_stop columns None few short = tt
short_stop columns (Some q) few short = omega (arith, few, short)

-- what the first of some lines is read as, and what is read of those after it
abbrev IsReadAs : ℕ → List (List ℕ) → Read → List (List ℕ) → Type 0
IsReadAs number lines d after = (last : ℕ) × (dossier_from whole number lines ≡ Ok record { value = d; number = last; after = after })

module _ (runs_whole : RunsAreWhole) (first : RunsStopFirst) (systems : OrbitSystemsAreSystems) (rows : RowsArePairsAndNeeded) (kept : OrbitsAreKept) (sparse : ColumnsAreSparse) (counts : EntriesAreCounts) (sets : AreSets) (all : SubsetsAreAll) (some : CandidatesAreAll) where
  module _ (back : CanonicalLinesReadBack) (clean : CanonicalLinesAreLines) (points : PointsReadBack) (designs : DesignsReadBack) (dossiers : DossiersReadBack) (paths : PathsMayStand) where
    module _ (s : Stated) (is : IsStated s) (columns : length (columns_of s) ≤ MOST_NUMBER) where
      -- the text of a run, with others after it, is read as its dossier
      run_read : (p : List Bool) (r : ShownLeg) (more : List ℕ) (number : ℕ) → IsStart r.leg.rules (orbit_system s) p → r.leg.budget ≤ MOST_COUNT
          → IsReadAs number (lines_of (run_text r.leg.rules s (shown_in r) p (run_in s p r) ++ more)) (read_in s p r) (lines_of more)
      run_read p r more number start few =
          let y = orbit_system s in
          let rules = r.leg.rules in
          let n = r.leg.budget in
          let run = run_in s p r in
          let numbered = is_numbered s is rows kept sparse counts columns in
          let at = took rules y p n run (runs_whole rules y p n (systems s is) start) (first rules y p n) in
          let read = steps_read rules s is (shown_in r) sets all some points designs run.taken (λ step i. step_logged y numbered rules step (at.steps step i)) in
          let log = logged (shown_in r) s run.taken in
          let end = ending s run.taken run.stop in
          let ends = end_written s run.taken run.stop paths (omega (arith, at.nodes, few)) (short_stop (length y.columns) run.stop numbered.columns at.short) in
          let whole_back = dossiers rules (canonical s) s (written_path p) log end (canonical_stated back clean s is) (canonical_few s is) (clean s is) (paths p (omega (arith, start.short, numbered.columns))) (each_first rules s log read) (each_second rules s log read) ends in
          let same = text_is rules s (shown_in r) p run.stop run.taken run refl refl in
          (_, ap (λ t. dossier_from whole number (lines_of (t ++ more))) (sym same) ∙ ap (dossier_from whole number) (whole_back.text more) ∙ whole_back.parts number (lines_of more))

      -- so the joined texts are read as the dossiers of the runs
      all_read : (start : Option (List Bool)) (runs : List ShownLeg) (number : ℕ) → AreAllowed (orbit_system s) start (legs_in runs) → AllByRecursion (λ r. r.leg.budget ≤ MOST_COUNT) runs
          → AreDossiers number (lines_of (chain_text s start runs)) (dossiers_in s start runs)
      all_read None runs number allowed few = refl
      all_read (Some p) [] number allowed few = refl
      all_read (Some p) (r ∷ runs) number allowed few =
          let one = run_read p r (chain_text s (run_in s p r).stop runs) number allowed.0 few.0 in
          (record { value = read_in s p r; number = one.0; after = lines_of (chain_text s (run_in s p r).stop runs) }, one.1, refl, all_read (run_in s p r).stop runs (one.0 + 1) allowed.1 few.1)

      module _ (logs : ChainsAreLogs) (equal : IsEquality same_list) (pick : ArePicked before (columns_of s)) (bases : (x : List Bool) → base s (design s x) ≡ picked (columns_of s) x) (theorem : asked s ≡ map (design s) (solutions (orbit_system s))) where
        items : (r : ShownLeg) (steps : List Step) → items_of s (logged (shown_in r) s steps) ≡ run_items s steps
        items r steps = logged_items s r.blocks (λ x. (base_read r.leg.rules s is (shown_in r) sets all some points designs x).read) steps

        -- the steps of a chain that finishes prove all solutions
        chain_proof : (steps : List Step) → solutions_in (orbit_system s) steps ≡ solutions (orbit_system s)
            → Proves (orbit_system s) (undecided (orbit_system s)) (entries_in steps) (map chosen_columns (solutions (orbit_system s))) → AreProof s (run_items s steps)
        chain_proof steps found proves = record {
          order = items_in_order s steps;
          leaves = map chosen_columns (solutions (orbit_system s));
          proves = subst (λ E. Proves (orbit_system s) (undecided (orbit_system s)) E (map chosen_columns (solutions (orbit_system s)))) (sym (entries_are s steps)) proves;
          designs =
              leaves_are s steps ∙ ap (map (λ x. base s (design s x))) found
              ∙ map_agree (λ x. base s (design s x)) (λ x. blocks_of s (chosen_columns x)) (solutions (orbit_system s)) (λ x i. bases x ∙ sym (chosen equal s (systems s is) pick bases theorem x i))
              ∙ sym (map-map (blocks_of s) chosen_columns (solutions (orbit_system s)));
        }

        -- and their designs are all, in order
        chain_designs : (steps : List Step) → solutions_in (orbit_system s) steps ≡ solutions (orbit_system s) → map (union_of s) (leaves_of (run_items s steps)) ≡ asked s
        chain_designs steps found =
            ap (map (union_of s)) (leaves_are s steps ∙ ap (map (λ x. base s (design s x))) found)
            ∙ map-map (union_of s) (λ x. base s (design s x)) (solutions (orbit_system s))
            ∙ map_agree (λ x. union_of s (base s (design s x))) (design s) (solutions (orbit_system s)) (λ x i. ap (union_of s) (bases x))
            ∙ sym theorem

        chain_is : (runs : List ShownLeg) → AreAllowed (orbit_system s) (Some []) (legs_in runs) → AreOwnLogs s runs → IsChainOf s (lines_of (chain_text s (Some []) runs))
        chain_is [] allowed own = absurd (let f = own.finished in cc)
        chain_is (r ∷ runs) allowed own =
            let y = orbit_system s in
            let steps = steps_of (chain_from y (Some []) (legs_in (r ∷ runs))) in
            let chain = logs y (legs_in (r ∷ runs)) (systems s is) allowed own.finished in
            let joined = logs_joined s items (Some []) (r ∷ runs) in
            record {
              chain = record {
                first = read_in s [] r;
                later = dossiers_in s (run_in s [] r).stop runs;
                dossiers = all_read (Some []) (r ∷ runs) 1 allowed own.budgets;
                within = own.within;
                sources = same_source s (run_in s [] r).stop runs;
                places = go_on s (Some []) (r ∷ runs) own.finished;
                proof = subst (AreProof s) (sym joined) (chain_proof steps chain.solutions_are chain.proves);
              };
              problem = refl;
              designs = ap (λ l. map (union_of s) (leaves_of l)) joined ∙ chain_designs steps chain.solutions_are;
            }

-- runs by the same rules
one_rule : (rules : Rules) (runs : List ShownLeg) → AllByRecursion (λ r. r.leg.rules ≡ rules) runs → legs_in runs ≡ legs_of rules (map (λ r. r.leg.budget) runs)
one_rule rules [] same = refl
one_rule rules (r ∷ runs) same =
    ap (λ l. l ∷ legs_in runs) (ap (λ k. record { rules = k; budget = r.leg.budget }) same.0) ∙ ap (λ l. record { rules = rules; budget = r.leg.budget } ∷ l) (one_rule rules runs same.1)

module _ (runs_whole : RunsAreWhole) (first : RunsStopFirst) (systems : OrbitSystemsAreSystems) (rows : RowsArePairsAndNeeded) (kept : OrbitsAreKept) (sparse : ColumnsAreSparse) (counts : EntriesAreCounts) (sets : AreSets) (all : SubsetsAreAll) (some : CandidatesAreAll) where
  module _ (back : CanonicalLinesReadBack) (clean : CanonicalLinesAreLines) (points : PointsReadBack) (designs : DesignsReadBack) (dossiers : DossiersReadBack) (paths : PathsMayStand) where
    module _ (logs : ChainsAreLogs) (chains : ChainsAreWhole) (equal : IsEquality same_list) (pick : (s : Stated) → IsStated s → ArePicked before (columns_of s)) (bases : BaseIsChosen) (theorem : DesignsAreSolutions) where
      by_own : (s : Stated) (runs : List ShownLeg) → AreAllowed (orbit_system s) (Some []) (legs_in runs) → AreOwnLogs s runs → IsChainOf s (lines_of (chain_text s (Some []) runs))
      by_own s runs allowed own =
          let few = few_within s own.within in
          chain_is runs_whole first systems rows kept sparse counts sets all some back clean points designs dossiers paths s own.stated (omega (arith, few))
          logs equal (pick s own.stated) (bases s own.stated) (theorem s own.stated) runs allowed own

      pub own_logs_chains : OwnLogsAreChains
      own_logs_chains = record {
        same_rules = λ rules s runs same own.
            let start : IsStart rules (orbit_system s) [] = record { short = omega arith; visited = tt } in
            let allowed = (chains rules (orbit_system s) [] (map (λ r. r.leg.budget) runs) (systems s own.stated) start).allowed in
            by_own s runs (subst (AreAllowed (orbit_system s) (Some [])) (sym (one_rule rules runs same)) allowed) own;
        own_rules = by_own;
      }
