-- How a task ends that read all of its lines.
use Rattle.std.proofs.Common.{◌≡◌, ℕ, ◌≤◌, Bool, List, ◌++◌, length, Option, Some, None, IfSome, Ok, refl, sym, ap, ◌∙◌, subst, inl, inr}
use Rattle.std.specs.Prelude.{◌⊎◌}
use Rattle.std.specs.Io.KnownBytes.{Appends, Consumes, IsAtEnd}
use Rattle.std.proofs.lemmas.List.{append-nil}
use Rattle.std.proofs.lemmas.Option.{IfSome_then}
use Rattle.df_io.specs.Causes.{AppendsPrefix}
use Rattle.df_io.specs.declared.bytes.TheConstants.{MOST_BYTES}
use Rattle.df_walk.specs.Paths.{path_of}
use Rattle.df_runs.specs.Runs.{run_of}
use Rattle.df_kramer_mesner.specs.OrbitSystems.{orbit_system}
use Rattle.df_dossier.specs.Spent.{spent}
use Rattle.df_dossier.specs.SpentStreams.{ReadsAll}
use Rattle.df_dossier.specs.declared.spent.Spent.{Spent}
use Rattle.df_kramer_mesner.specs.Laws.{ColumnsAreSparse}
use Rattle.df_matrix.specs.declared.matrix.MatrixError.{MatrixError}
use Rattle.df_check.specs.ChainLaws.{LimitsAreOfProblems}
use Rattle.df_check.specs.Judging as judged
use Rattle.df_check.specs.Judging.{Above, verdict}
use Rattle.df_tell.specs.declared.limits.Limit.{Limit}
use Rattle.df_tell.specs.declared.path.PathRefusal.{PathRefusal}
use Rattle.df_words.specs.declared.command.Options.{Options}
use Rattle.df_run.specs.Answers.{Answer, answer, answer_spent, answer_resumed, within, at_node, stop_status}
use Rattle.df_run.specs.Endings.{RepliesOr, Answers}
use Rattle.df_run.specs.Limits.{matrix_limit, path_refusal, IsCountable}
use Rattle.df_run.specs.Readings.{IsAllOf}
use Rattle.df_run.specs.Streams.{Incoming, Outgoing}
use Rattle.df_run.specs.declared.statuses.Status.{Status}
use Rattle.df_run.specs.declared.statuses.Status.TheVariants as ends
use Rattle.df_run.specs.declared.tasks.Task.TheVariants.{Stream}
use Rattle.df_run.specs.declared.tasks.StreamTask.TheVariants.{Resume}
use Rattle.df_run.proofs.EntryLimits.{countable}

-- where all was read, the bytes that were left are those that were read
abbrev AreRead : Option (List ℕ) → (List ℕ → Type 0) → Type 0
AreRead left P = IfSome left (λ bytes. (length bytes ≤ MOST_BYTES) × P bytes)

are_read : (left after : Option (List ℕ)) (P : List ℕ → Type 0) (bytes : List ℕ) → Consumes left after bytes → IsAtEnd after → length bytes ≤ MOST_BYTES → P bytes → AreRead left P
are_read None after P bytes taken end few holds = tt
are_read (Some xs) None P bytes taken end few holds = absurd taken
are_read (Some xs) (Some ys) P bytes taken end few holds =
    let same : bytes ≡ xs = sym (append-nil bytes) ∙ ap (λ l. bytes ++ l) (sym end) ∙ sym taken in
    subst (λ l. (length l ≤ MOST_BYTES) × P l) same (few, holds)

pub all_read : (i : Incoming) (P : List ℕ → Type 0) → ReadsAll i.left i.left_after P → IsAllOf MOST_BYTES i P
all_read i P read = (read.2, are_read i.left i.left_after P read.0 read.1 read.2 read.3 read.4)

-- the ways in which a search that goes on can end by its answer
abbrev IsEnd : Status → Type 0
IsEnd status = ((status ≡ ends.Done) ⊎ (status ≡ ends.BadInput)) ⊎ (status ≡ ends.Spent)

stop_ends : (stop : Option (List Bool)) → IsEnd (stop_status stop)
stop_ends None = inl (inl refl)
stop_ends (Some q) = inr refl

node_ends : (refusal : Option PathRefusal) (a : Answer) → IsEnd a.status → IsEnd (at_node refusal a).status
node_ends None a end = end
node_ends (Some refusal) a end = inl (inr refl)

limit_ends : (limit : Option Limit) (a : Answer) → IsEnd a.status → IsEnd (within limit a).status
limit_ends None a end = end
limit_ends (Some limit) a end = inl (inr refl)

resumed_ends : (options : Options) (d : Spent) → IsEnd (answer_resumed options d).status
resumed_ends options d =
    let S = orbit_system d.problem in
    limit_ends (matrix_limit d.problem) _ (node_ends (path_refusal d.rules S d.path) _ (stop_ends (run_of d.rules S (path_of d.path) options.budget).stop))

-- the answer to a dossier, where its bytes are all that was left
module _ (options : Options) (d : Spent) (i : Incoming) (o : Outgoing) (read : IsAllOf MOST_BYTES i (λ bytes. spent bytes ≡ Ok d)) where
  answered : (status : Status) → (answer_resumed options d).status ≡ status → Appends o.written o.written_after (answer_resumed options d).text → IsAllOf MOST_BYTES i (λ bytes. (status ≡ (answer (Stream (Resume options)) bytes).status) × Appends o.written o.written_after (answer (Stream (Resume options)) bytes).text)
  answered status is written = (
    read.0,
    IfSome_then i.left read.1 (λ bytes h.
        let same : answer (Stream (Resume options)) bytes ≡ answer_resumed options d = ap (answer_spent options) h.1 in
        (h.0, (sym (ap (λ (a : Answer). a.status) same ∙ is), subst (λ (a : Answer). Appends o.written o.written_after a.text) (sym same) written))),
  )

  stopped : AppendsPrefix o.written o.written_after (answer_resumed options d).text → IsAllOf MOST_BYTES i (λ bytes. AppendsPrefix o.written o.written_after (answer (Stream (Resume options)) bytes).text)
  stopped written = (read.0, IfSome_then i.left read.1 (λ bytes h. (h.0, subst (λ (a : Answer). AppendsPrefix o.written o.written_after a.text) (sym (ap (answer_spent options) h.1)) written)))

  ended : (result : Status) → result ≡ (answer_resumed options d).status → Appends o.written o.written_after (answer_resumed options d).text → IsEnd (answer_resumed options d).status → Answers (Stream (Resume options)) i o result
  ended result is written (inl (inl end)) = subst (Answers (Stream (Resume options)) i o) (sym (is ∙ end)) (answered ends.Done end written)
  ended result is written (inl (inr end)) = subst (Answers (Stream (Resume options)) i o) (sym (is ∙ end)) (answered ends.BadInput end written)
  ended result is written (inr end) = subst (Answers (Stream (Resume options)) i o) (sym (is ∙ end)) (tt, answered ends.Spent end written)

  pub resumed_answers : (result : Status) → RepliesOr (answer_resumed options d) o result → Answers (Stream (Resume options)) i o result
  resumed_answers result (inl (inl reply)) = ended result reply.0 reply.1 (resumed_ends options d)
  resumed_answers result (inl (inr fault)) = subst (Answers (Stream (Resume options)) i o) (sym fault.0) (stopped fault.2, fault.1)
  resumed_answers result (inr none) = subst (Answers (Stream (Resume options)) i o) (sym none.0) none.1

-- where a chain of dossiers is of a problem above a limit, what is told of it is counted in 64 bits
pub above_countable : ColumnsAreSparse → LimitsAreOfProblems → (i : Incoming) (e : MatrixError) → ReadsAll i.left i.left_after (λ bytes. (line : ℕ) × (verdict bytes ≡ judged.stopped line (Above e))) → IsCountable e
above_countable sparse law i e read =
    let passed = law read.0 read.3 read.4.0 e read.4.1 in
    countable sparse passed.problem passed.stated e passed.limit
