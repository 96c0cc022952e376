-- How a run may end, what it has then read, and what it has written.
use Rattle.std.specs.Prelude.{◌≡◌, ◌⊎◌, ℕ, List}
use Rattle.std.specs.Io.KnownBytes.{Appends, Keeps}
use Rattle.df_io.specs.Causes.{Rose, AppendsPrefix}
use Rattle.df_words.specs.CommandLines.{IsCommandLine, IsFirstFault}
use Rattle.df_words.specs.declared.command.Command.{Command}
use Rattle.df_words.specs.declared.command.Command.TheVariants.{Workload}
use Rattle.df_tell.specs.Usage.{usage_text}
use Rattle.df_run.specs.Answers.{Answer, answer}
use Rattle.df_run.specs.Readings.{IsUnread, LeavesInput, OfInput, FailsToRead, IsTooLong}
use Rattle.df_run.specs.Streams.{Incoming, Outgoing}
use Rattle.df_run.specs.Tasks.{task_of}
use Rattle.df_run.specs.declared.statuses.Status.{Status}
use Rattle.df_run.specs.declared.statuses.Status.TheVariants as ends
use Rattle.df_run.specs.declared.tasks.Task.{Task}
use Rattle.df_run.specs.declared.tasks.Task.TheVariants.{Source, Stream, Work}
use Rattle.df_run.specs.declared.tasks.SourceTask.TheVariants.{Show, Table, Verify, Orbits, Matrix, Solve}
use Rattle.df_run.specs.declared.tasks.StreamTask.TheVariants.{Resume, Check}

-- the text was written and the status answered, or the sink failed before the text's end
abbrev pub Replies : Answer → Outgoing → Status → Type 0
Replies meant o result =
    ((result ≡ meant.status) × Appends o.written o.written_after meant.text)
    ⊎ ((result ≡ ends.WriteFault) × Rose o.faults o.faults_after × AppendsPrefix o.written o.written_after meant.text)

-- the same, or out of memory before the first byte
abbrev pub RepliesOr : Answer → Outgoing → Status → Type 0
RepliesOr meant o result = Replies meant o result ⊎ ((result ≡ ends.OutOfMemory) × Keeps o.written o.written_after)

-- the input was read, the status is that of the answer to it, and the answer's text was written
abbrev pub IsAnswered : Task → Incoming → Outgoing → Status → Type 0
IsAnswered task i o result = OfInput task i (λ bytes. (result ≡ (answer task bytes).status) × Appends o.written o.written_after (answer task bytes).text)

-- the answer to a task may be that a budget is spent
abbrev pub HasBudget : Task → Type 0
HasBudget (Source Show) = ⊥
HasBudget (Source Table) = ⊥
HasBudget (Source Verify) = ⊥
HasBudget (Source Orbits) = ⊥
HasBudget (Source Matrix) = ⊥
HasBudget (Source (Solve options)) = Unit {0}
HasBudget (Stream (Resume options)) = Unit {0}
HasBudget (Stream Check) = ⊥
HasBudget (Work n) = Unit {0}

-- when a task ends with each status, and what was then read and written
abbrev pub Answers : Task → Incoming → Outgoing → Status → Type 0
Answers task i o ends.Done = IsAnswered task i o ends.Done
Answers task i o ends.Refused = IsAnswered task i o ends.Refused
Answers task i o ends.BadInput = IsAnswered task i o ends.BadInput
Answers task i o ends.Spent = HasBudget task × IsAnswered task i o ends.Spent
Answers task i o ends.Usage = ⊥
Answers task i o ends.ReadFault = FailsToRead task i × Keeps o.written o.written_after
Answers task i o ends.WriteFault = OfInput task i (λ bytes. AppendsPrefix o.written o.written_after (answer task bytes).text) × Rose o.faults o.faults_after
Answers task i o ends.OutOfMemory = Keeps o.written o.written_after
Answers task i o ends.TooLong = IsTooLong task i × Keeps o.written o.written_after

-- the words are not a command: the fault is printed, and nothing is read
pub record IsUsage (words : List (List ℕ)) (i : Incoming) (o : Outgoing) (result : Status) : Type 0 where
  pub fault : ℕ
  pub first : IsFirstFault words fault
  pub unread : IsUnread i
  pub reply : Replies record { status = ends.Usage; text = usage_text fault } o result

-- the words are a command, and its task is answered
pub record IsTask (words : List (List ℕ)) (i : Incoming) (o : Outgoing) (result : Status) : Type 0 where
  pub command : Command
  pub words_are : IsCommandLine words command
  pub answers : Answers (task_of command) i o result
  pub unread : LeavesInput (task_of command) i

abbrev pub EndsAs : List (List ℕ) → Incoming → Outgoing → Status → Type 0
EndsAs words i o result = IsUsage words i o result ⊎ IsTask words i o result

-- a workload reads nothing, however it ends
abbrev pub IsUnreadByWork : List (List ℕ) → Incoming → Type 0
IsUnreadByWork words i = (n : ℕ) → IsCommandLine words (Workload n) → IsUnread i
