-- What was read of a source line by line, by the reading and the bytes that the source has left.
use Rattle.std.specs.declared.option.Option.{Option}
use Rattle.std.specs.Option.{IsSome}
use Rattle.std.specs.Io.KnownBytes.{Consumes, IsAtEnd}
use Rattle.std.specs.Prelude.{◌≡◌, ℕ, ◌+◌, ◌≤◌, List, [], ◌++◌, length, Some, Ok}
use Rattle.df_io.specs.declared.bytes.ReadError.{ReadError}
use Rattle.df_io.specs.declared.bytes.ReadError.TheVariants.{ReadFault, TooLong, OutOfMemory}
use Rattle.df_io.specs.declared.bytes.TheConstants.{MOST_BYTES}
use Rattle.df_io.specs.Causes.{Rose, ConsumesAtMost}
use Rattle.df_io.specs.Streams.{Stream, to_come}

-- a reading that was not given up goes on, or it has come to the end of its input
pub record HasEnded (s : Stream) (left : Option (List ℕ)) : Type 0 where
  pub ended : s.ended ≡ Some (Ok tt)
  pub none : s.ahead ≡ []
  pub end : IsAtEnd left

-- since the first state of the source this text was handed out, in lines; with the bytes ahead it is all that was taken
pub record IsRead {S : Type 0} (left : S → Option (List ℕ)) (faults : S → ℕ) (first : S) (s : Stream) (input : S) (text : List ℕ) : Type 0 where
  pub given : Consumes (left first) (to_come s (left input)) text
  pub counted : length text + length s.ahead ≡ s.taken
  pub limit : s.limit ≡ MOST_BYTES
  pub later : faults first ≤ faults input
  pub last : IsSome s.ended → HasEnded s (left input)

-- this holds of all bytes, whatever is still to come behind the text that was handed out
abbrev pub HoldsOfAll : Stream → List ℕ → (List ℕ → Type 0) → Type 0
HoldsOfAll s text P = (rest : List ℕ) → (IsSome s.ended → rest ≡ []) → P (text ++ rest)

-- a reading ended before its input did: a read failed, more bytes came than may, or there was no memory
abbrev pub EndsEarly : Option (List ℕ) → Option (List ℕ) → ℕ → ℕ → ReadError → Type 0
EndsEarly left left_new faults faults_new ReadFault = ConsumesAtMost left left_new MOST_BYTES × Rose faults faults_new
EndsEarly left left_new faults faults_new TooLong = (bytes : List ℕ) × Consumes left left_new bytes × (length bytes ≡ MOST_BYTES + 1)
EndsEarly left left_new faults faults_new OutOfMemory = ConsumesAtMost left left_new MOST_BYTES
