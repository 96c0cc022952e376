-- What is answered of a source that is read line by line as one dossier that ended spent.
use Rattle.std.specs.declared.option.Option.{Option}
use Rattle.std.specs.Io.KnownBytes.{Consumes, IsAtEnd}
use Rattle.std.specs.Prelude.{◌≡◌, ℕ, ◌+◌, ◌≤◌, List, length, Result, Ok, Err}
use Rattle.df_io.specs.declared.bytes.ReadError.{ReadError}
use Rattle.df_io.specs.declared.bytes.ReadError.TheVariants as read_error
use Rattle.df_io.specs.declared.bytes.TheConstants.{MOST_BYTES}
use Rattle.df_io.specs.Causes.{Rose, ConsumesAtMost}
use Rattle.df_dossier.specs.declared.spent.Spent.{Spent}
use Rattle.df_dossier.specs.declared.spent.SpentError.{SpentError}
use Rattle.df_dossier.specs.declared.spent.SpentError.TheVariants as spent_error
use Rattle.df_dossier.specs.declared.stream.StreamError.{StreamError}
use Rattle.df_dossier.specs.declared.stream.StreamError.TheVariants.{ReadFault, TooLong, Refused}
use Rattle.df_dossier.specs.Spent.{spent, GivesSpent}

-- all bytes that were left came, no more than the limit, and this holds of them
abbrev pub ReadsAll : Option (List ℕ) → Option (List ℕ) → (List ℕ → Type 0) → Type 0
ReadsAll left left_new P = (bytes : List ℕ) × Consumes left left_new bytes × IsAtEnd left_new × (length bytes ≤ MOST_BYTES) × P bytes

-- what each answer says of what was read, by the bytes left and the counts of faults, before and after
abbrev pub ReadsSpent : Option (List ℕ) → Option (List ℕ) → ℕ → ℕ → Result Spent (StreamError SpentError) → Type 0
ReadsSpent left left_new faults faults_new (Ok s) = ReadsAll left left_new (λ bytes. GivesSpent (spent bytes) (Ok s))
ReadsSpent left left_new faults faults_new (Err ReadFault) = ConsumesAtMost left left_new MOST_BYTES × Rose faults faults_new
ReadsSpent left left_new faults faults_new (Err TooLong) = (bytes : List ℕ) × Consumes left left_new bytes × (length bytes ≡ MOST_BYTES + 1)
ReadsSpent left left_new faults faults_new (Err (Refused (spent_error.Refused line fault))) = ReadsAll left left_new (λ bytes. GivesSpent (spent bytes) (Err (spent_error.Refused line fault)))
ReadsSpent left left_new faults faults_new (Err (Refused spent_error.OutOfMemory)) = ConsumesAtMost left left_new MOST_BYTES

-- what is answered where a reading ended before its input did
abbrev pub stopped : ReadError → StreamError SpentError
stopped read_error.ReadFault = ReadFault
stopped read_error.TooLong = TooLong
stopped read_error.OutOfMemory = Refused spent_error.OutOfMemory
