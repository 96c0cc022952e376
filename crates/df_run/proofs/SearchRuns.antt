-- What the run of a search from a path says of the designs that a problem asks for.
use Rattle.std.proofs.Common.{◌≡◌, ℕ, ◌+◌, ◌≤◌, ◌<◌, Bool, false, List, [], ◌++◌, length, map, Option, Some, None, sym, ap, ◌∙◌, subst, arith}
use Rattle.std.specs.List.{flat_map}
use Rattle.std.specs.Io.KnownBytes.{Appends}
use Rattle.std.proofs.lemmas.List.{append-nil, map-append, length-map}
use Rattle.df_walk.specs.declared.Rules.{Rules}
use Rattle.df_walk.specs.Systems.{System}
use Rattle.df_walk.specs.Solutions.{solutions}
use Rattle.df_walk.specs.Walks.{solutions_in, nodes_in}
use Rattle.df_walk.specs.Paths.{rest, IsNode}
use Rattle.df_walk.specs.Remains.{IsStart}
use Rattle.df_walk.proofs.RestSolutions.{rest_all}
use Rattle.df_runs.specs.Runs.{Run, rest_at, load_at, EndsAt, IsRunFrom}
use Rattle.df_lang.specs.Problems.{Stated}
use Rattle.df_kramer_mesner.specs.OrbitSystems.{orbit_system}
use Rattle.df_correspondence.specs.Designs.{asked, design}
use Rattle.df_design.specs.RemainingDesigns.{designs_from}
use Rattle.df_tell.specs.Run.{head_text, source_text, from_text, design_lines, end_text, run_text}
use Rattle.df_tell.specs.declared.run.Shown.{Shown}
use Rattle.df_tell.proofs.SilentRuns.{silent_lines}
use Rattle.df_words.specs.declared.command.Options.{Options}
use Rattle.df_run.specs.Answers.{shown_by, stop_status}
use Rattle.df_run.specs.Headline.{designs_in, nodes_from, designs_text, IsFinished, IsStopped}
use Rattle.df_run.specs.Streams.{Outgoing}
use Rattle.df_run.specs.declared.statuses.Status.TheVariants as ends

-- so the designs from the empty path on are all that are asked for
pub designs_all : (s : Stated) → asked s ≡ map (design s) (solutions (orbit_system s)) → designs_from s [] ≡ asked s
designs_all s theorem = ap (map (design s)) (rest_all (orbit_system s)) ∙ sym theorem

-- a run may begin at the empty path
pub at_start : (rules : Rules) (S : System) → IsStart rules S []
at_start rules S = record { short = omega arith; visited = tt }

module _ (rules : Rules) (s : Stated) (p : List Bool) (n : ℕ) (run : Run) (whole : IsRunFrom rules (orbit_system s) p n run) where
  rests : (stop : Option (List Bool)) → run.stop ≡ stop → solutions_in (orbit_system s) run.taken ++ rest_at (orbit_system s) stop ≡ rest (orbit_system s) p
  rests stop is = ap (λ o. solutions_in (orbit_system s) run.taken ++ rest_at (orbit_system s) o) (sym is) ∙ whole.solutions

  -- to its end: all designs, all nodes, and all paid
  pub finished_designs : run.stop ≡ None → designs_in s run.taken ≡ designs_from s p
  finished_designs is = ap (map (design s)) (sym (append-nil (solutions_in (orbit_system s) run.taken)) ∙ rests None is)

  pub finished_end : run.stop ≡ None → (length (nodes_in run.taken) ≡ nodes_from rules s p) × (nodes_from rules s p ≤ n)
  finished_end is = subst (EndsAt rules (orbit_system s) p n (length (nodes_in run.taken))) is whole.end

  -- to a stop: what was printed, and what stands at the place
  pub stopped_designs : (q : List Bool) → run.stop ≡ Some q → designs_in s run.taken ++ designs_from s q ≡ designs_from s p
  stopped_designs q is = sym (map-append (design s) (solutions_in (orbit_system s) run.taken) (rest (orbit_system s) q)) ∙ ap (map (design s)) (rests (Some q) is)

  pub stopped_end : (q : List Bool) → run.stop ≡ Some q → (length (nodes_in run.taken) ≡ n) × (n < nodes_from rules s p) × IsNode rules (orbit_system s) q
  stopped_end q is = let end = subst (EndsAt rules (orbit_system s) p n (length (nodes_in run.taken))) is whole.end in (end.0, end.1, end.2)

  pub stopped_nodes : (q : List Bool) → run.stop ≡ Some q → n + nodes_from rules s q ≡ nodes_from rules s p
  stopped_nodes q is = ap (λ m. m + nodes_from rules s q) (sym (stopped_end q is).0) ∙ ap (λ o. length (nodes_in run.taken) + load_at rules (orbit_system s) o) (sym is) ∙ whole.nodes

  -- and without a log the text has the designs alone
  finished_text : (shown : Shown) → shown.log ≡ false → run.stop ≡ None → run_text rules s shown p run ≡ designs_text rules s shown p (designs_from s p)
  finished_text shown quiet is =
      let all = finished_designs is in
      let framed : List ℕ → List ℕ = λ l. head_text rules ++ (source_text s ++ (from_text p ++ l)) in
      let many : length (solutions_in (orbit_system s) run.taken) ≡ length (designs_from s p) = sym (length-map (solutions_in (orbit_system s) run.taken) (design s)) ∙ ap length all in
      ap (λ l. framed (l ++ end_text (length (solutions_in (orbit_system s) run.taken)) (length (nodes_in run.taken)) run.stop)) (silent_lines shown s run.taken quiet ∙ ap (flat_map (design_lines shown s)) all)
      ∙ ap (λ m. framed (flat_map (design_lines shown s) (designs_from s p) ++ end_text m (length (nodes_in run.taken)) run.stop)) many
      ∙ ap (λ m. framed (flat_map (design_lines shown s) (designs_from s p) ++ end_text (length (designs_from s p)) m run.stop)) (finished_end is).0
      ∙ ap (λ o. framed (flat_map (design_lines shown s) (designs_from s p) ++ end_text (length (designs_from s p)) (nodes_from rules s p) o)) is

module _ (rules : Rules) (s : Stated) (p : List Bool) (options : Options) (o : Outgoing) (run : Run) (whole : IsRunFrom rules (orbit_system s) p options.budget run) where
  -- the run of a search is done: nothing remains
  pub finishes : (stop : Option (List Bool)) → run.stop ≡ stop → ends.Done ≡ stop_status stop → Appends o.written o.written_after (run_text rules s (shown_by options) p run) → IsFinished rules s p (designs_from s p) options o
  finishes None none status text =
      let end = finished_end rules s p options.budget run whole none in record {
        taken = run.taken;
        printed = subst (λ stop. Appends o.written o.written_after (run_text rules s (shown_by options) p record { taken = run.taken; stop = stop })) none text;
        designs_are = finished_designs rules s p options.budget run whole none;
        nodes = end.0;
        paid = end.1;
        silent = λ quiet. subst (Appends o.written o.written_after) (finished_text rules s p options.budget run whole (shown_by options) quiet none) text;
      }
  finishes (Some q) some status text = absurd (cc)

  -- it is spent: it stopped at a node
  pub stops : (stop : Option (List Bool)) → run.stop ≡ stop → ends.Spent ≡ stop_status stop → Appends o.written o.written_after (run_text rules s (shown_by options) p run) → IsStopped rules s p (designs_from s p) options o
  stops None none status text = absurd (cc)
  stops (Some q) some status text =
      let end = stopped_end rules s p options.budget run whole q some in record {
        taken = run.taken;
        place = q;
        printed = subst (λ stop. Appends o.written o.written_after (run_text rules s (shown_by options) p record { taken = run.taken; stop = stop })) some text;
        designs_are = stopped_designs rules s p options.budget run whole q some;
        node = end.2;
        visited = end.0;
        before = stopped_nodes rules s p options.budget run whole q some;
        unpaid = end.1;
      }
