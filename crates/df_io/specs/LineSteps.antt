-- What the steps of a reading line by line do.
use Rattle.std.specs.declared.option.Option.{Option}
use Rattle.std.specs.Io.KnownBytes.{Consumes, IsAtEnd}
use Rattle.std.specs.Prelude.{◌≡◌, ℕ, ◌+◌, ◌<◌, List, [], ◌++◌, length, Ok, Err, None, Some, IsSome}
use Rattle.df_io.specs.declared.bytes.ReadError.TheVariants.{OutOfMemory}
use Rattle.df_io.specs.Joined.{Lacks, is_line_feed}
use Rattle.df_io.specs.Streams.{Stream, Reads, line_end, to_come}

-- the next bytes were taken, none having been ahead; where none came, the reading ended
pub record Fills {S : Type 0} (left : S → Option (List ℕ)) (faults : S → ℕ) (old new : Stream) (input input_new : S) : Type 0 where
  pub reads : Reads left faults old new input input_new
  pub line : new.line ≡ old.line
  pub number : new.number ≡ old.number
  pub given : Consumes (left input) (left input_new) new.ahead
  pub counted : new.taken ≡ old.taken + length new.ahead
  pub end : new.ended ≡ Some (Ok tt) → IsAtEnd (left input_new)
  pub none : new.ended ≡ Some (Ok tt) → new.ahead ≡ []
  pub memory : new.ended ≡ Some (Err OutOfMemory) → ⊥
  pub some : new.ended ≡ None → 0 < length new.ahead

-- the bytes before the next line feed were added to an empty line, or all bytes where the input ended
pub record Finds {S : Type 0} (left : S → Option (List ℕ)) (faults : S → ℕ) (old new : Stream) (input input_new : S) : Type 0 where
  pub reads : Reads left faults old new input input_new
  pub number : new.number ≡ old.number
  pub plain : Lacks is_line_feed new.line
  pub given : Consumes (to_come old (left input)) (to_come new (left input_new)) (new.line ++ line_end new.ended)
  pub counted : new.taken + length old.ahead ≡ old.taken + length (new.line ++ line_end new.ended) + length new.ahead
  pub end : old.ended ≡ None → new.ended ≡ Some (Ok tt) → IsAtEnd (left input_new)
  pub none : old.ended ≡ None → new.ended ≡ Some (Ok tt) → new.ahead ≡ []
  pub idle : IsSome old.ended → new.line ≡ []

-- the rest was read as far as this, and nothing of it was kept
pub record Passes {S : Type 0} (left : S → Option (List ℕ)) (faults : S → ℕ) (old new : Stream) (input input_new : S) : Type 0 where
  pub reads : Reads left faults old new input input_new
  pub end : old.ended ≡ None → new.ended ≡ Some (Ok tt) → IsAtEnd (left input_new)
  pub memory : new.ended ≡ Some (Err OutOfMemory) → IsSome old.ended

-- all bytes that came so far were added to an empty line, and no line feed is among them
pub record Searches {S : Type 0} (left : S → Option (List ℕ)) (faults : S → ℕ) (old new : Stream) (input input_new : S) : Type 0 where
  pub reads : Reads left faults old new input input_new
  pub number : new.number ≡ old.number
  pub plain : Lacks is_line_feed new.line
  pub given : Consumes (to_come old (left input)) (to_come new (left input_new)) new.line
  pub counted : new.taken + length old.ahead ≡ old.taken + length new.line + length new.ahead
  pub end : old.ended ≡ None → new.ended ≡ Some (Ok tt) → IsAtEnd (left input_new)
  pub none : old.ended ≡ None → new.ended ≡ Some (Ok tt) → new.ahead ≡ []
  pub idle : IsSome old.ended → new.line ≡ []
