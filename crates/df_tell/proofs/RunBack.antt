-- The text of a run that was spent, read back.
use Rattle.std.proofs.Common.{◌≡◌, ℕ, ◌-◌, ◌≤◌, Bool, true, false, cond, List, [], ◌∷◌, length, length-append, map, Option, Some, None, IfSome, Ok, codes, refl, sym, ap, ◌∙◌, subst, arith}
use Rattle.std.specs.Prelude.{◌==◌}
use Rattle.std.proofs.lemmas.List.{length-map}
use Rattle.df_lists.specs.Membership.{In}
use Rattle.df_lists.proofs.MemberLaws.{In-append_left, In-filter_gives}
use Rattle.df_subsets.specs.SetLaws.{AreSets}
use Rattle.df_subsets.specs.SubsetLaws.{SubsetsAreAll, CandidatesAreAll}
use Rattle.df_io.specs.Lines.{tokens_of}
use Rattle.df_io.proofs.Joining.{lines_back}
use Rattle.df_walk.specs.declared.Rules.{Rules}
use Rattle.df_walk.specs.Systems.{System}
use Rattle.df_walk.specs.Walks.{Step, walk, solutions_in, nodes_in}
use Rattle.df_walk.specs.Paths.{written_path, not_before}
use Rattle.df_walk.specs.Remains.{remaining}
use Rattle.df_runs.specs.Runs.{Run, run_of, EndsAt, IsRunFrom, StopsFirst}
use Rattle.df_runs.specs.Statements.{RunsAreWhole, RunsStopFirst}
use Rattle.df_lang.specs.declared.pieces.Inside.{Inside}
use Rattle.df_lang.specs.Problems.{Stated, IsStated, Named}
use Rattle.df_lang.specs.StandsAbove.{nothing}
use Rattle.df_lang.specs.Sources.{source, from_line}
use Rattle.df_lang.specs.Canonical.{statements_in, statements_of, mult_statements, inside_statements, canonical}
use Rattle.df_lang.specs.RoundTrip.{CanonicalLinesReadBack, CanonicalLinesAreLines, PointsReadBack}
use Rattle.df_kramer_mesner.specs.OrbitSystems.{orbit_system}
use Rattle.df_kramer_mesner.specs.Laws.{OrbitSystemsAreSystems, RowsArePairsAndNeeded, OrbitsAreKept, ColumnsAreSparse, EntriesAreCounts}
use Rattle.df_dossier.specs.Dossiers.{source_lines}
use Rattle.df_dossier.specs.Spent.{spent}
use Rattle.df_dossier.specs.DesignsBack.{DesignsReadBack}
use Rattle.df_dossier.specs.TextsBack.{TextsReadBack}
use Rattle.df_dossier.specs.RunPaths.{PathsMayStand}
use Rattle.df_tell.specs.RunBack.{SpentTextsReadBack}
use Rattle.df_tell.proofs.RunSteps.{sols_few}
use Rattle.df_tell.proofs.LoggedEntries.{IsStepOf, walk_steps, step_logged}
use Rattle.df_tell.proofs.NumberedSystems.{is_numbered}
use Rattle.df_tell.proofs.SpentRuns.{logged, text_is, steps_read, each_first, each_second}

-- the canonical lines state the problem
pub canonical_stated : CanonicalLinesReadBack → CanonicalLinesAreLines → (s : Stated) → IsStated s → source_lines (canonical s) ≡ Ok s
unfolding source
canonical_stated back clean s is = ap (λ l. from_line 1 nothing (map tokens_of l)) (sym (lines_back (canonical s) (clean s is))) ∙ back s is

-- and are few
one_version : (b : Bool) (line : List (List ℕ)) → length (cond b (line ∷ []) []) ≤ 1
one_version true line = omega arith
one_version false line = omega arith

one_mult : (ms : List ℕ) → length (mult_statements ms) ≤ 1
one_mult [] = omega arith
one_mult (m ∷ ms) = omega arith

one_inside : (names : List Named) (o : Option Inside) → length (inside_statements names o) ≤ 1
one_inside names None = omega arith
one_inside names (Some inside) = omega arith

pub canonical_few : (s : Stated) → IsStated s → length (canonical s) ≤ 18446744073709551615
unfolding canonical statements_of statements_in
canonical_few s is =
    simp (length-append, length-map) (omega (arith, one_version (s.version == 2) (codes "version" ∷ codes "2" ∷ []), one_mult s.mults, one_inside s.names s.inside, is.few_names, is.few_blocks, is.few_stated))

-- what a run took, and where it stopped
pub record Took (rules : Rules) (y : System) (n : ℕ) (run : Run) : Type 0 where
  pub steps : (step : Step) → In run.taken step → IsStepOf rules y step
  pub nodes : length (nodes_in run.taken) ≤ n
  pub short : IfSome run.stop (λ q. length q ≤ length y.columns)

module _ (rules : Rules) (y : System) (p : List Bool) (n : ℕ) where
  taken_all : (taken : List Step) (stop : Option (List Bool)) → StopsFirst rules y p n taken stop → (step : Step) → In taken step → In (remaining rules y p) step
  taken_all taken None first step i = subst (λ l. In l step) (sym first.0) i
  taken_all taken (Some q) first step i = subst (λ l. In l step) (sym first.2) (In-append_left taken ((q, first.0) ∷ first.1) step i)

  paid : (nodes : ℕ) (stop : Option (List Bool)) → EndsAt rules y p n nodes stop → nodes ≤ n
  paid nodes None end = omega (arith, end.0, end.1)
  paid nodes (Some q) end = omega (arith, end.0)

  stop_short : (nodes : ℕ) (stop : Option (List Bool)) → EndsAt rules y p n nodes stop → IfSome stop (λ q. length q ≤ length y.columns)
  stop_short nodes None end = tt
  stop_short nodes (Some q) end = end.2.short

  pub took : (run : Run) → IsRunFrom rules y p n run → StopsFirst rules y p n run.taken run.stop → Took rules y n run
  took run from first = record {
    steps = λ step i.
        let there = taken_all run.taken run.stop first step i in
        walk_steps rules y (length y.columns - 0) [] step (omega arith) (In-filter_gives (λ x. not_before p x.0) (walk rules y []) step there).0;
    nodes = paid (length (nodes_in run.taken)) run.stop from.end;
    short = stop_short (length (nodes_in run.taken)) run.stop from.end;
  }

module _ (whole : RunsAreWhole) (first : RunsStopFirst) (systems : OrbitSystemsAreSystems) (rows : RowsArePairsAndNeeded) (kept : OrbitsAreKept) (sparse : ColumnsAreSparse) (counts : EntriesAreCounts) (sets : AreSets) (all : SubsetsAreAll) (some : CandidatesAreAll) where
  module _ (back : CanonicalLinesReadBack) (clean : CanonicalLinesAreLines) (points : PointsReadBack) (designs : DesignsReadBack) (texts : TextsReadBack) (paths : PathsMayStand) where
    pub spent_texts_back : SpentTextsReadBack
    spent_texts_back rules s shown p q n is columns start few stop =
        let y = orbit_system s in
        let run = run_of rules y p n in
        let numbered = is_numbered s is rows kept sparse counts columns in
        let at = took rules y p n run (whole rules y p n (systems s is) start) (first rules y p n) in
        let short = subst (λ o. IfSome o (λ r. length r ≤ length y.columns)) stop at.short in
        let read = steps_read rules s is shown sets all some points designs run.taken (λ step i. step_logged y numbered rules step (at.steps step i)) in
        let log = logged shown s run.taken in
        ap spent (sym (text_is rules s shown p (Some q) run.taken run refl stop))
        ∙ texts rules (canonical s) s (written_path p) log (length (solutions_in y run.taken)) (length (nodes_in run.taken)) (written_path q)
        (canonical_stated back clean s is) (canonical_few s is) (clean s is) (paths p (omega (arith, start.short, numbered.columns))) (each_first rules s log read) (each_second rules s log read)
        (omega (arith, sols_few y run.taken, at.nodes, few)) (omega (arith, at.nodes, few)) (paths q (omega (arith, short, numbered.columns)))
