-- A source that is read line by line: what was taken of it, and what was handed out.
use Rattle.std.specs.declared.option.Option.{Option}
use Rattle.std.specs.Io.KnownBytes.{Consumes, IsAtEnd, prepend_known}
use Rattle.std.specs.Prelude.{◌≡◌, ℕ, ◌+◌, ◌<◌, ◌≤◌, Bool, true, false, if◌then◌else◌, List, [], ◌∷◌, ◌++◌, length, Result, Ok, Err, None, Some, is_some, IsSome}
use Rattle.df_io.specs.declared.bytes.ReadError.{ReadError}
use Rattle.df_io.specs.declared.bytes.ReadError.TheVariants.{ReadFault, TooLong, OutOfMemory}
use Rattle.df_io.specs.declared.ahead.TheConstants.{PIECE}
use Rattle.df_io.specs.declared.bytes.TheConstants.{MOST_BYTES}
use Rattle.df_io.specs.Causes.{Rose}
use Rattle.df_io.specs.Joined.{Lacks, is_line_feed}

-- how a reading ended: at the input's end, or by a refusal
abbrev pub Ending : Type 0
Ending = Result (Unit {0}) ReadError

-- a reading line by line
pub record Stream : Type 0 where
  -- the bytes that were taken and not yet handed out
  pub ahead : List ℕ
  -- the last line that was handed out, and its number
  pub line : List ℕ
  pub number : ℕ
  -- how many bytes were taken, and how many may come
  pub taken : ℕ
  pub limit : ℕ
  -- how it ended, once it has
  pub ended : Option Ending

-- it was given up since too many bytes came
abbrev pub is_too_long : Option Ending → Bool
is_too_long None = false
is_too_long (Some (Ok t)) = false
is_too_long (Some (Err ReadFault)) = false
is_too_long (Some (Err TooLong)) = true
is_too_long (Some (Err OutOfMemory)) = false

-- what each reading keeps: one byte more than the limit was taken exactly where it was given up since too many came
pub record IsStream (s : Stream) : Type 0 where
  pub few : s.limit ≤ MOST_BYTES
  pub ahead : length s.ahead ≤ PIECE
  pub long : is_too_long s.ended ≡ true → s.taken ≡ s.limit + 1
  pub short : is_too_long s.ended ≡ false → s.taken ≤ s.limit
  pub counted : s.number + length s.ahead ≤ s.taken

-- nothing was read yet
abbrev pub new_stream : ℕ → Stream
new_stream limit = record { ahead = []; line = []; number = 0; taken = 0; limit = limit; ended = None }

-- the bytes that are still to be handed out, where the source tells its bytes
abbrev pub to_come : Stream → Option (List ℕ) → Option (List ℕ)
to_come s left = prepend_known s.ahead left

-- bytes were taken from the source, and counted
pub record Takes (old new : Stream) (left left_new : Option (List ℕ)) : Type 0 where
  pub bytes : List ℕ
  pub consumed : Consumes left left_new bytes
  pub counted : new.taken ≡ old.taken + length bytes

-- what a call may do with the source: it takes bytes, and a fault has its cause; once the reading has ended it does nothing
pub record Reads {S : Type 0} (left : S → Option (List ℕ)) (faults : S → ℕ) (old new : Stream) (input input_new : S) : Type 0 where
  pub limit : new.limit ≡ old.limit
  pub takes : Takes old new (left input) (left input_new)
  pub fault : old.ended ≡ None → new.ended ≡ Some (Err ReadFault) → Rose (faults input) (faults input_new)
  pub later : faults input ≤ faults input_new
  pub again : IsSome old.ended → new.ended ≡ old.ended
  pub unread : IsSome old.ended → input_new ≡ input

-- what ends a line: a line feed, but for the last line of an input that ends without one
abbrev pub line_end : Option Ending → List ℕ
line_end end = if is_some end then [] else 10 ∷ []

-- the line is what was left where the input ended: a byte or more
pub record IsLastLine (new : Stream) (left_new : Option (List ℕ)) : Type 0 where
  pub ended : new.ended ≡ Some (Ok tt)
  pub some : 0 < length new.line
  pub none : new.ahead ≡ []
  pub end : IsAtEnd left_new

-- the next line was handed out: the bytes before the next line feed, which was dropped, or those after the last one
pub record IsNextLine (old new : Stream) (left left_new : Option (List ℕ)) : Type 0 where
  pub not_ended : old.ended ≡ None
  pub plain : Lacks is_line_feed new.line
  pub given : Consumes (to_come old left) (to_come new left_new) (new.line ++ line_end new.ended)
  pub counted : new.taken + length old.ahead ≡ old.taken + length (new.line ++ line_end new.ended) + length new.ahead
  pub number : new.number ≡ old.number + 1
  pub whole : IsSome new.ended → IsLastLine new left_new

-- no line is left, and the source was read to its end
pub record IsNoLine (old new : Stream) (left left_new : Option (List ℕ)) : Type 0 where
  pub ended : new.ended ≡ Some (Ok tt)
  pub number : new.number ≡ old.number
  pub none : old.ended ≡ None → IsAtEnd (to_come old left)
  pub end : old.ended ≡ None → IsAtEnd left_new
