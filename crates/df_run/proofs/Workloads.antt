-- What a workload answers, and what that says of the designs of its problem.
use Rattle.std.proofs.Common.{◌≡◌, ℕ, ◌≤◌, Bool, List, [], length, Option, Some, None, Ok, Err, Result, IfOk, refl, sym, ap, ◌∙◌, subst, inl, inr, arith, length-append}
use Rattle.std.specs.Prelude.{◌⊎◌}
use Rattle.std.specs.Io.KnownBytes.{Appends}
use Rattle.std.proofs.lemmas.List.{length-map}
use Rattle.df_io.specs.Writing.{Writes}
use Rattle.df_io.specs.declared.bytes.TheConstants.{MOST_BYTES}
use Rattle.df_io.specs.declared.bytes.WriteFault.{WriteFault}
use Rattle.df_io.proofs.NumbersBack.{decimal_short}
use Rattle.df_walk.specs.declared.Rules.TheVariants.{Divisor}
use Rattle.df_walk.specs.Walks.{solutions_in, nodes_in}
use Rattle.df_runs.specs.Runs.{Run, run_of, IsRunFrom}
use Rattle.df_lang.specs.Problems.{Stated, IsStated}
use Rattle.df_lang.specs.Sources.{source}
use Rattle.df_lang.specs.declared.fault.SourceError.{SourceError}
use Rattle.df_kramer_mesner.specs.OrbitSystems.{orbit_system}
use Rattle.df_correspondence.specs.Designs.{asked, design}
use Rattle.df_correspondence.specs.Laws.{DesignsAreSolutions}
use Rattle.df_design.specs.RemainingDesigns.{designs_from}
use Rattle.df_tell.specs.Run.{run_end, as_written}
use Rattle.df_tell.specs.Workload.{workload_text}
use Rattle.df_tell.specs.declared.limits.Limit.{Limit}
use Rattle.df_tell.specs.declared.run.RunEnd.{RunEnd}
use Rattle.df_words.specs.CommandLines.{IsCommandLine}
use Rattle.df_words.specs.declared.command.Command.{Command}
use Rattle.df_words.specs.declared.table.TheConstants.{DEFAULT_BUDGET, MOST_WORKLOAD}
use Rattle.df_run.specs.Answers.{Answer, answer, answer_work, work_answer, within, stop_status}
use Rattle.df_run.specs.Endings.{Replies, RepliesOr, Answers, EndsAs}
use Rattle.df_run.specs.Headline.{designs_in, work_line, IsWorked, IsWorkedSpent}
use Rattle.df_run.specs.Limits.{matrix_limit}
use Rattle.df_run.specs.Readings.{IsUnread, LeavesInput}
use Rattle.df_run.specs.Statuses.{ran_status}
use Rattle.df_run.specs.Streams.{Incoming, Outgoing, outgoing}
use Rattle.df_run.specs.Tasks.{task_of}
use Rattle.df_run.specs.Workloads.{points_of, target_of, workload_source}
use Rattle.df_run.specs.declared.statuses.Status.{Status}
use Rattle.df_run.specs.declared.statuses.Status.TheVariants as ends
use Rattle.df_run.specs.declared.tasks.Task.TheVariants.{Work}
use Rattle.df_run.proofs.Endings.{stop_is}
use Rattle.df_run.proofs.SearchRuns.{designs_all, finished_designs, finished_end, stopped_designs, stopped_end, stopped_nodes}

-- the source of a workload is short
pub source_short : (n : ℕ) → n ≤ MOST_WORKLOAD → length (workload_source n) ≤ MOST_BYTES
unfolding workload_source
source_short n few =
    let a = decimal_short (points_of n) (omega (arith, few)) in
    let b = decimal_short (target_of n) (omega (arith, few)) in
    simp length-append (omega arith)

-- the line of a run was written, or the sink failed
pub work_replied : {K : Type 0} {w : K → Option (List ℕ)} {f : K → ℕ} {a b : K} (n : ℕ) (s : Stated) (run : Run) (ran : Result RunEnd WriteFault) (result : Status) → result ≡ ran_status ran
    → Writes w f a b (workload_text n s run) (as_written ran) → IfOk ran (λ end. end ≡ run_end run.stop) → Replies (work_answer n s run) (outgoing w f a b) result
work_replied n s run (Ok end) result status written is = inl (status ∙ ap (λ e. ran_status (Ok e)) is ∙ stop_is run.stop, written.all)
work_replied n s run (Err e) result status written is = inr (status, written.fault, written.prefix)

-- the ways in which a workload can end by its answer
abbrev IsEnd : Status → Type 0
IsEnd status = ((status ≡ ends.Done) ⊎ (status ≡ ends.BadInput)) ⊎ (status ≡ ends.Spent)

stop_ends : (stop : Option (List Bool)) → IsEnd (stop_status stop)
stop_ends None = inl (inl refl)
stop_ends (Some q) = inr refl

limit_ends : (limit : Option Limit) (a : Answer) → IsEnd a.status → IsEnd (within limit a).status
limit_ends None a end = end
limit_ends (Some limit) a end = inl (inr refl)

work_ends : (n : ℕ) (r : Result Stated SourceError) → IsEnd (answer_work n r).status
work_ends n (Ok s) = limit_ends (matrix_limit s) (work_answer n s (run_of Divisor (orbit_system s) [] DEFAULT_BUDGET)) (stop_ends (run_of Divisor (orbit_system s) [] DEFAULT_BUDGET).stop)
work_ends n (Err e) = inl (inr refl)

module _ (n : ℕ) (i : Incoming) (o : Outgoing) (unread : IsUnread i) where
  ended : (result : Status) → result ≡ (answer (Work n) []).status → Appends o.written o.written_after (answer (Work n) []).text → IsEnd (answer (Work n) []).status → Answers (Work n) i o result
  ended result is written (inl (inl end)) = subst (Answers (Work n) i o) (sym (is ∙ end)) (unread, (sym end, written))
  ended result is written (inl (inr end)) = subst (Answers (Work n) i o) (sym (is ∙ end)) (unread, (sym end, written))
  ended result is written (inr end) = subst (Answers (Work n) i o) (sym (is ∙ end)) (tt, (unread, (sym end, written)))

  pub work_answers : (result : Status) → RepliesOr (answer (Work n) []) o result → Answers (Work n) i o result
  work_answers result (inl (inl reply)) = ended result reply.0 reply.1 (work_ends n (source (workload_source n)))
  work_answers result (inl (inr fault)) = subst (Answers (Work n) i o) (sym fault.0) ((unread, fault.2), fault.1)
  work_answers result (inr none) = subst (Answers (Work n) i o) (sym none.0) none.1

-- so a run whose words ask for it ends by what was written
pub work_task : (words : List (List ℕ)) (command : Command) (n : ℕ) (i : Incoming) (o : Outgoing) (result : Status) → IsCommandLine words command → task_of command ≡ Work n → IsUnread i → RepliesOr (answer (Work n) []) o result → EndsAs words i o result
work_task words command n i o result line is unread reply = inr record {
  command = command;
  words_are = line;
  answers = subst (λ t. Answers t i o result) (sym is) (work_answers n i o unread result reply);
  unread = subst (λ t. LeavesInput t i) (sym is) unread;
}

-- how many designs a run found
found_many : (s : Stated) (run : Run) → length (solutions_in (orbit_system s) run.taken) ≡ length (designs_in s run.taken)
found_many s run = sym (length-map (solutions_in (orbit_system s) run.taken) (design s))

-- the answer of a workload that its problem's limits allow
module _ (theorem : DesignsAreSolutions) (n : ℕ) (o : Outgoing) (s : Stated) (rules : IsStated s) (is : source (workload_source n) ≡ Ok s) (run : Run) (whole : IsRunFrom Divisor (orbit_system s) [] DEFAULT_BUDGET run) where
  all : designs_from s [] ≡ asked s
  all = designs_all s (theorem s rules)

  abbrev told : ℕ → ℕ → Type 0
  told designs nodes = Appends o.written o.written_after (work_line n s designs nodes)

  finishes : (stop : Option (List Bool)) → run.stop ≡ stop → ends.Done ≡ stop_status stop → Appends o.written o.written_after (workload_text n s run) → IsWorked n o
  finishes None none status text =
      let end = finished_end Divisor s [] DEFAULT_BUDGET run whole none in
      let many = found_many s run ∙ ap length (finished_designs Divisor s [] DEFAULT_BUDGET run whole none ∙ all) in record {
        problem = s;
        source_is = is;
        printed = subst (told (length (asked s))) end.0 (subst (λ m. told m (length (nodes_in run.taken))) many text);
        paid = end.1;
      }
  finishes (Some q) some status text = absurd (cc)

  stops : (stop : Option (List Bool)) → run.stop ≡ stop → ends.Spent ≡ stop_status stop → Appends o.written o.written_after (workload_text n s run) → IsWorkedSpent n o
  stops None none status text = absurd (cc)
  stops (Some q) some status text =
      let end = stopped_end Divisor s [] DEFAULT_BUDGET run whole q some in record {
        problem = s;
        source_is = is;
        designs = designs_in s run.taken;
        place = q;
        printed = subst (told (length (designs_in s run.taken))) end.0 (subst (λ m. told m (length (nodes_in run.taken))) (found_many s run) text);
        designs_are = stopped_designs Divisor s [] DEFAULT_BUDGET run whole q some ∙ all;
        node = end.2;
        before = stopped_nodes Divisor s [] DEFAULT_BUDGET run whole q some;
        unpaid = end.1;
      }

  pub works : (limit : Option Limit) → ends.Done ≡ (within limit (work_answer n s run)).status → Appends o.written o.written_after (within limit (work_answer n s run)).text → IsWorked n o
  works None status text = finishes run.stop refl status text
  works (Some limit) status text = absurd (cc)

  pub works_spent : (limit : Option Limit) → ends.Spent ≡ (within limit (work_answer n s run)).status → Appends o.written o.written_after (within limit (work_answer n s run)).text → IsWorkedSpent n o
  works_spent None status text = stops run.stop refl status text
  works_spent (Some limit) status text = absurd (cc)
