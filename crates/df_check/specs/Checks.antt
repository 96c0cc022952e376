-- What the calls answer that check chains.
use Rattle.std.specs.declared.option.Option.{Option}
use Rattle.std.specs.Io.KnownBytes.{Consumes}
use Rattle.std.specs.Prelude.{◌≡◌, ℕ, ◌+◌, List, length, ⊤, Result, Ok, Err}
use Rattle.df_io.specs.declared.bytes.TheConstants.{MOST_BYTES}
use Rattle.df_io.specs.Causes.{Rose, ConsumesAtMost}
use Rattle.df_dossier.specs.declared.stream.StreamError.{StreamError}
use Rattle.df_dossier.specs.declared.stream.StreamError.TheVariants as stream
use Rattle.df_dossier.specs.SpentStreams.{ReadsAll}
use Rattle.df_check.specs.declared.checks.CheckVerdict.{CheckVerdict}
use Rattle.df_check.specs.declared.checks.CheckVerdict.TheVariants as told
use Rattle.df_check.specs.declared.checks.CheckError.{CheckError}
use Rattle.df_check.specs.declared.checks.CheckError.TheVariants.{BadDossier, Matrix, OutOfMemory}
use Rattle.df_check.specs.Judging.{Refused, stopped, BadLine, Above, BadLog, verdict}

-- what is meant, or out of memory
abbrev pub GivesVerdict : Result ℕ Refused → Result CheckVerdict CheckError → Type 0
GivesVerdict meant (Ok (told.Complete designs)) = meant ≡ Ok designs
GivesVerdict meant (Ok (told.Refused line fault)) = meant ≡ stopped line (BadLog fault)
GivesVerdict meant (Err (BadDossier line fault)) = meant ≡ stopped line (BadLine fault)
GivesVerdict meant (Err (Matrix e)) = (line : ℕ) × (meant ≡ stopped line (Above e))
GivesVerdict meant (Err OutOfMemory) = ⊤

-- what each answer says of what was read, by the bytes left and the counts of faults, before and after
abbrev pub ReadsVerdict : Option (List ℕ) → Option (List ℕ) → ℕ → ℕ → Result CheckVerdict (StreamError CheckError) → Type 0
ReadsVerdict left left_new faults faults_new (Ok v) = ReadsAll left left_new (λ bytes. GivesVerdict (verdict bytes) (Ok v))
ReadsVerdict left left_new faults faults_new (Err stream.ReadFault) = ConsumesAtMost left left_new MOST_BYTES × Rose faults faults_new
ReadsVerdict left left_new faults faults_new (Err stream.TooLong) = (bytes : List ℕ) × Consumes left left_new bytes × (length bytes ≡ MOST_BYTES + 1)
ReadsVerdict left left_new faults faults_new (Err (stream.Refused (BadDossier line fault))) = ReadsAll left left_new (λ bytes. GivesVerdict (verdict bytes) (Err (BadDossier line fault)))
ReadsVerdict left left_new faults faults_new (Err (stream.Refused (Matrix e))) = ReadsAll left left_new (λ bytes. GivesVerdict (verdict bytes) (Err (Matrix e)))
ReadsVerdict left left_new faults faults_new (Err (stream.Refused OutOfMemory)) = ConsumesAtMost left left_new MOST_BYTES
