-- What the listing of a search from the empty path says of the designs that a problem asks for.
use Rattle.std.proofs.Common.{◌≡◌, ℕ, Bool, true, false, List, [], length, cond, Option, Some, None, Ok, refl, ap, ◌∙◌, subst}
use Rattle.std.specs.Io.KnownBytes.{Appends}
use Rattle.df_walk.specs.declared.Rules.TheVariants.{Divisor}
use Rattle.df_walk.specs.Walks.{nodes_in}
use Rattle.df_runs.specs.Runs.{Run, run_of, IsRunFrom}
use Rattle.df_lang.specs.Problems.{Stated, IsStated}
use Rattle.df_lang.specs.Sources.{source}
use Rattle.df_kramer_mesner.specs.OrbitSystems.{orbit_system}
use Rattle.df_correspondence.specs.Designs.{asked}
use Rattle.df_correspondence.specs.Laws.{DesignsAreSolutions}
use Rattle.df_design.specs.RemainingDesigns.{designs_from}
use Rattle.df_tell.specs.Run.{run_text}
use Rattle.df_tell.specs.Listing.{designs_listing, run_listing}
use Rattle.df_tell.specs.declared.limits.Limit.{Limit}
use Rattle.df_words.specs.declared.command.Options.{Options}
use Rattle.df_run.specs.Answers.{Answer, listing_answer, search_answer, solve_answer, shown_by, within, stop_status}
use Rattle.df_run.specs.Headline.{designs_in, IsListed, IsListedSpent}
use Rattle.df_run.specs.Streams.{Outgoing}
use Rattle.df_run.specs.declared.statuses.Status.TheVariants as ends
use Rattle.df_run.proofs.SearchRuns.{designs_all, finished_designs, finished_end, stopped_designs, stopped_end, stopped_nodes}

-- how the run of a new search is told: as a listing where that is asked for, and else as a dossier
abbrev told_by : Stated → Options → Run → Bool → Answer
told_by s options run json = record { status = stop_status run.stop; text = cond json (run_listing options.blocks s run) (run_text Divisor s (shown_by options) [] run) }

pub told_as_listing : (s : Stated) (options : Options) → options.json ≡ true → solve_answer s options ≡ listing_answer s options (run_of Divisor (orbit_system s) [] options.budget)
told_as_listing s options is = ap (told_by s options (run_of Divisor (orbit_system s) [] options.budget)) is

pub told_as_dossier : (s : Stated) (options : Options) → options.json ≡ false → solve_answer s options ≡ search_answer Divisor s options []
told_as_dossier s options is = ap (told_by s options (run_of Divisor (orbit_system s) [] options.budget)) is

-- the listing of a search that its problem's limits allow
module _ (theorem : DesignsAreSolutions) (options : Options) (o : Outgoing) (bytes : List ℕ) (s : Stated) (rules : IsStated s) (is : source bytes ≡ Ok s) (run : Run) (whole : IsRunFrom Divisor (orbit_system s) [] options.budget run) where
  all : designs_from s [] ≡ asked s
  all = designs_all s (theorem s rules)

  abbrev told : List (List (List ℕ)) → Option (List Bool) → ℕ → Type 0
  told designs next nodes = Appends o.written o.written_after (designs_listing options.blocks s designs next nodes)

  finishes : (stop : Option (List Bool)) → run.stop ≡ stop → ends.Done ≡ stop_status stop → Appends o.written o.written_after (run_listing options.blocks s run) → IsListed options o bytes
  finishes None none status text =
      let end = finished_end Divisor s [] options.budget run whole none in
      let designs = finished_designs Divisor s [] options.budget run whole none ∙ all in record {
        problem = s;
        source_is = is;
        printed = subst (told (asked s) None) end.0 (subst (λ next. told (asked s) next (length (nodes_in run.taken))) none (subst (λ ds. told ds run.stop (length (nodes_in run.taken))) designs text));
        paid = end.1;
      }
  finishes (Some q) some status text = absurd (cc)

  stops : (stop : Option (List Bool)) → run.stop ≡ stop → ends.Spent ≡ stop_status stop → Appends o.written o.written_after (run_listing options.blocks s run) → IsListedSpent options o bytes
  stops None none status text = absurd (cc)
  stops (Some q) some status text =
      let end = stopped_end Divisor s [] options.budget run whole q some in record {
        problem = s;
        source_is = is;
        designs = designs_in s run.taken;
        place = q;
        printed = subst (told (designs_in s run.taken) (Some q)) end.0 (subst (λ next. told (designs_in s run.taken) next (length (nodes_in run.taken))) some text);
        designs_are = stopped_designs Divisor s [] options.budget run whole q some ∙ all;
        node = end.2;
        before = stopped_nodes Divisor s [] options.budget run whole q some;
        unpaid = end.1;
      }

  pub lists : (limit : Option Limit) → ends.Done ≡ (within limit (listing_answer s options run)).status → Appends o.written o.written_after (within limit (listing_answer s options run)).text → IsListed options o bytes
  lists None status text = finishes run.stop refl status text
  lists (Some limit) status text = absurd (cc)

  pub lists_spent : (limit : Option Limit) → ends.Spent ≡ (within limit (listing_answer s options run)).status → Appends o.written o.written_after (within limit (listing_answer s options run)).text → IsListedSpent options o bytes
  lists_spent None status text = stops run.stop refl status text
  lists_spent (Some limit) status text = absurd (cc)
