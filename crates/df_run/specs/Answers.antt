-- What is answered to an input: a status and a text. What a row says stands in the module of that text, in df_tell.
use Rattle.std.specs.Prelude.{ℕ, Bool, List, [], if◌then◌else◌, Option, Some, None, Result, Ok, Err}
use Rattle.df_walk.specs.declared.Rules.{Rules}
use Rattle.df_walk.specs.declared.Rules.TheVariants.{Divisor}
use Rattle.df_walk.specs.Paths.{path_of}
use Rattle.df_runs.specs.Runs.{Run, run_of}
use Rattle.df_lang.specs.Problems.{Stated}
use Rattle.df_lang.specs.Sources.{source}
use Rattle.df_lang.specs.declared.fault.SourceError.{SourceError}
use Rattle.df_family.specs.Verdicts.{verdict_on}
use Rattle.df_family.specs.declared.verdict.Verdict.{Verdict}
use Rattle.df_family.specs.declared.verdict.Verdict.TheVariants.{Accepted, Refused}
use Rattle.df_kramer_mesner.specs.OrbitSystems.{orbit_system}
use Rattle.df_dossier.specs.Dossiers.{Refusal}
use Rattle.df_dossier.specs.Spent.{spent}
use Rattle.df_dossier.specs.declared.spent.Spent.{Spent}
use Rattle.df_check.specs.Judging.{Reason, BadLine, Above, BadLog, Refused as Broken, verdict}
use Rattle.df_tell.specs.Canonical.{canonical_text}
use Rattle.df_tell.specs.Check.{complete_text, log_refusal_text}
use Rattle.df_tell.specs.Table.{table_text}
use Rattle.df_tell.specs.Verdict.{verdict_text}
use Rattle.df_tell.specs.Orbits.{orbits_text}
use Rattle.df_tell.specs.Matrix.{matrix_text}
use Rattle.df_tell.specs.Run.{run_text}
use Rattle.df_tell.specs.Listing.{run_listing}
use Rattle.df_tell.specs.Refusal.{refusal_text}
use Rattle.df_tell.specs.Dossier.{dossier_text}
use Rattle.df_tell.specs.Path.{path_refusal_text}
use Rattle.df_tell.specs.Limits.{limit_text}
use Rattle.df_tell.specs.Workload.{workload_text}
use Rattle.df_tell.specs.declared.limits.Limit.{Limit}
use Rattle.df_tell.specs.declared.path.PathRefusal.{PathRefusal}
use Rattle.df_tell.specs.declared.run.Shown.{Shown}
use Rattle.df_words.specs.declared.command.Options.{Options}
use Rattle.df_words.specs.declared.table.TheConstants.{DEFAULT_BUDGET}
use Rattle.df_run.specs.Limits.{limit_of, subsets_limit, matrix_limit, path_refusal}
use Rattle.df_run.specs.Workloads.{workload_source}
use Rattle.df_run.specs.declared.statuses.Status.{Status}
use Rattle.df_run.specs.declared.statuses.Status.TheVariants as ends
use Rattle.df_run.specs.declared.tasks.Task.{Task}
use Rattle.df_run.specs.declared.tasks.Task.TheVariants.{Source, Stream, Work}
use Rattle.df_run.specs.declared.tasks.SourceTask.{SourceTask}
use Rattle.df_run.specs.declared.tasks.SourceTask.TheVariants.{Show, Table, Verify, Orbits, Matrix, Solve}
use Rattle.df_run.specs.declared.tasks.StreamTask.{StreamTask}
use Rattle.df_run.specs.declared.tasks.StreamTask.TheVariants.{Resume, Check}

pub record Answer : Type 0 where
  pub status : Status
  pub text : List ℕ

abbrev pub done : List ℕ → Answer
done text = record { status = ends.Done; text = text }

abbrev pub bad_input : List ℕ → Answer
bad_input text = record { status = ends.BadInput; text = text }

-- the answer to a problem within a limit, and else the limit that it is above
abbrev pub within : Option Limit → Answer → Answer
within None answer = answer
within (Some limit) answer = bad_input (limit_text limit)

-- the answer to a path at which a search can go on, and else why it can't
abbrev pub at_node : Option PathRefusal → Answer → Answer
at_node None answer = answer
at_node (Some refusal) answer = bad_input (path_refusal_text refusal)

abbrev pub verdict_status : Verdict → Status
verdict_status (Accepted blocks) = ends.Done
verdict_status (Refused row found stated) = ends.Refused

abbrev pub verdict_answer : Stated → Verdict → Answer
verdict_answer s verdict = record { status = verdict_status verdict; text = verdict_text s verdict }

-- what a search shows beside its designs
abbrev pub shown_by : Options → Shown
shown_by options = record { log = options.log; blocks = options.blocks }

-- a search is done where nothing remains, and spent where it stopped at a node
abbrev pub stop_status : Option (List Bool) → Status
stop_status None = ends.Done
stop_status (Some place) = ends.Spent

-- a run by these rules from a path
abbrev pub run_answer : Rules → Stated → Options → List Bool → Run → Answer
run_answer rules s options p run = record { status = stop_status run.stop; text = run_text rules s (shown_by options) p run }

-- the search through the orbit matrix of a problem by these rules from a path, as far as the budget goes
abbrev pub search_answer : Rules → Stated → Options → List Bool → Answer
search_answer rules s options p = run_answer rules s options p (run_of rules (orbit_system s) p options.budget)

-- the run of a new search, as a listing
abbrev pub listing_answer : Stated → Options → Run → Answer
listing_answer s options run = record { status = stop_status run.stop; text = run_listing options.blocks s run }

-- as a listing where that is asked for, and else as a dossier
abbrev pub told_text : Stated → Options → Run → List ℕ
told_text s options run = if options.json then run_listing options.blocks s run else run_text Divisor s (shown_by options) [] run

abbrev pub told_answer : Stated → Options → Run → Answer
told_answer s options run = record { status = stop_status run.stop; text = told_text s options run }

-- a new search goes by the rules with divisors, from the empty path
abbrev pub solve_answer : Stated → Options → Answer
solve_answer s options = told_answer s options (run_of Divisor (orbit_system s) [] options.budget)

-- what is answered to a problem
abbrev pub answer_on : SourceTask → Stated → Answer
answer_on Show s = done (canonical_text s)
answer_on Table s = done (table_text s)
answer_on Verify s = verdict_answer s (verdict_on s)
answer_on Orbits s = within (subsets_limit s) (done (orbits_text s))
answer_on Matrix s = within (matrix_limit s) (done (matrix_text s))
answer_on (Solve options) s = within (matrix_limit s) (solve_answer s options)

-- to a source, or to an input that is none
abbrev pub answer_to : SourceTask → Result Stated SourceError → Answer
answer_to task (Ok s) = answer_on task s
answer_to task (Err e) = bad_input (refusal_text e)

-- what is answered to a dossier that ended spent: its search goes on by the rules of its head, from the path of its end line
abbrev pub answer_resumed : Options → Spent → Answer
answer_resumed options d =
    within (matrix_limit d.problem) (at_node (path_refusal d.rules (orbit_system d.problem) d.path) (search_answer d.rules d.problem options (path_of d.path)))

-- to such a dossier, or to an input that is none
abbrev pub answer_spent : Options → Result Spent Refusal → Answer
answer_spent options (Ok d) = answer_resumed options d
answer_spent options (Err e) = bad_input (dossier_text e)

-- the line of a limit, where there is one
abbrev pub limit_line : Option Limit → List ℕ
limit_line None = []
limit_line (Some limit) = limit_text limit

-- what is answered where a line, the first that does, breaks a rule of dossiers, ends the source of a problem above a limit, or
-- breaks a rule of logs or of chains
abbrev pub answer_broken : ℕ → Reason → Answer
answer_broken line (BadLine fault) = bad_input (dossier_text record { line = line; fault = fault })
answer_broken line (Above e) = bad_input (limit_line (limit_of e))
answer_broken line (BadLog fault) = record { status = ends.Refused; text = log_refusal_text line fault }

-- to lines that are a chain of dossiers with this number of designs, or that aren't
abbrev pub answer_checked : Result ℕ Broken → Answer
answer_checked (Ok designs) = done (complete_text designs)
answer_checked (Err broken) = answer_broken broken.line broken.reason

abbrev pub answer_stream : StreamTask → List ℕ → Answer
answer_stream (Resume options) bytes = answer_spent options (spent bytes)
answer_stream Check bytes = answer_checked (verdict bytes)

-- the run of a workload's search
abbrev pub work_answer : ℕ → Stated → Run → Answer
work_answer n s run = record { status = stop_status run.stop; text = workload_text n s run }

-- what a workload answers with its problem: `solve` would search so, with the default budget
abbrev pub answer_worked : ℕ → Stated → Answer
answer_worked n s = within (matrix_limit s) (work_answer n s (run_of Divisor (orbit_system s) [] DEFAULT_BUDGET))

abbrev pub answer_work : ℕ → Result Stated SourceError → Answer
answer_work n (Ok s) = answer_worked n s
answer_work n (Err e) = bad_input (refusal_text e)

-- what a task answers to these bytes; a workload has a source of its own
abbrev pub answer : Task → List ℕ → Answer
answer (Source task) bytes = answer_to task (source bytes)
answer (Stream task) bytes = answer_stream task bytes
answer (Work n) bytes = answer_work n (source (workload_source n))
