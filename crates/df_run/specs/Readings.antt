-- How much a task reads, and how it was read.
use Rattle.std.specs.Prelude.{◌≡◌, ◌≤◌, ◌+◌, ℕ, List, [], length, IfSome}
use Rattle.std.specs.Io.KnownBytes.{Consumes, IsAtEnd}
use Rattle.df_io.specs.Causes.{Rose, ConsumesAtMost}
use Rattle.df_io.specs.declared.bytes.TheConstants.{MOST_BYTES}
use Rattle.df_run.specs.Streams.{Incoming}
use Rattle.df_run.specs.declared.tasks.Task.{Task}
use Rattle.df_run.specs.declared.tasks.Task.TheVariants.{Source, Stream, Work}
use Rattle.df_run.specs.declared.tasks.TheConstants.{SOURCE_BYTES}

-- the most bytes that the input of a task may have
abbrev pub limit_on : Task → ℕ
limit_on (Source task) = SOURCE_BYTES
limit_on (Stream task) = MOST_BYTES
limit_on (Work n) = 0

-- all bytes came, no more than this, and this holds of them
abbrev pub IsAllOf : ℕ → Incoming → (List ℕ → Type 0) → Type 0
IsAllOf most i P = IsAtEnd i.left_after × IfSome i.left (λ bytes. (length bytes ≤ most) × P bytes)

-- nothing was read
abbrev pub IsUnread : Incoming → Type 0
IsUnread i = (i.left_after ≡ i.left) × (i.faults_after ≡ i.faults)

-- a task that reads nothing left its input as it was
abbrev pub LeavesInput : Task → Incoming → Type 0
LeavesInput (Source task) i = Unit {0}
LeavesInput (Stream task) i = Unit {0}
LeavesInput (Work n) i = IsUnread i

-- all of a task's input was read, and this holds of it; of one that reads nothing it is empty
abbrev pub OfInput : Task → Incoming → (List ℕ → Type 0) → Type 0
OfInput (Source task) i P = IsAllOf (limit_on (Source task)) i P
OfInput (Stream task) i P = IsAllOf (limit_on (Stream task)) i P
OfInput (Work n) i P = IsUnread i × P []

-- a read failed, and no more bytes than this had come
abbrev pub StopsWithin : ℕ → Incoming → Type 0
StopsWithin most i = ConsumesAtMost i.left i.left_after most × Rose i.faults i.faults_after

abbrev pub FailsToRead : Task → Incoming → Type 0
FailsToRead (Source task) i = StopsWithin (limit_on (Source task)) i
FailsToRead (Stream task) i = StopsWithin (limit_on (Stream task)) i
FailsToRead (Work n) i = ⊥

-- one byte more than this came
abbrev pub IsLongerThan : ℕ → Incoming → Type 0
IsLongerThan most i = (bytes : List ℕ) × Consumes i.left i.left_after bytes × (length bytes ≡ most + 1)

abbrev pub IsTooLong : Task → Incoming → Type 0
IsTooLong (Source task) i = IsLongerThan (limit_on (Source task)) i
IsTooLong (Stream task) i = IsLongerThan (limit_on (Stream task)) i
IsTooLong (Work n) i = ⊥
