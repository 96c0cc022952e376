-- An input that is judged while it is read from a source: what was read of it, and what is answered of it.
use Rattle.std.specs.declared.option.Option.{Option}
use Rattle.std.specs.Option.{IsSome}
use Rattle.std.specs.Prelude.{◌≡◌, ℕ, ◌+◌, true, List, [], ◌++◌, Some, Result, Ok, Err, ◌⊎◌}
use Rattle.df_io.specs.declared.bytes.ReadError.{ReadError}
use Rattle.df_io.specs.declared.bytes.ReadError.TheVariants as read_error
use Rattle.df_io.specs.Lines.{lines_of}
use Rattle.df_io.specs.Streams.{Stream}
use Rattle.df_lang.specs.Rules.{◌>>=◌}
use Rattle.df_dossier.specs.declared.stream.StreamError.{StreamError}
use Rattle.df_dossier.specs.declared.stream.StreamError.TheVariants as stream
use Rattle.df_dossier.specs.Judging.{awaits_from}
use Rattle.df_dossier.specs.StreamReads.{IsRead, HoldsOfAll, EndsEarly}
use Rattle.df_dossier.specs.SpentStreams.{ReadsAll}
use Rattle.df_check.specs.declared.checks.CheckVerdict.{CheckVerdict}
use Rattle.df_check.specs.declared.checks.CheckVerdict.TheVariants as told
use Rattle.df_check.specs.declared.checks.CheckError.{CheckError}
use Rattle.df_check.specs.declared.checks.CheckError.TheVariants as check_error
use Rattle.df_check.specs.declared.opening.Opening.{Opening}
use Rattle.df_check.specs.declared.stop.Stop.{Stop}
use Rattle.df_check.specs.declared.stop.Stop.TheVariants as stop
use Rattle.df_check.specs.declared.streams.Halt.{Halt}
use Rattle.df_check.specs.declared.streams.Halt.TheVariants.{Early, Stopped}
use Rattle.df_check.specs.Judging.{Refused, Standing, verdict_from, verdict}
use Rattle.df_check.specs.Openings.{standing_after, IsPlaced}
use Rattle.df_check.specs.Stops.{Stops}

-- what is answered of the lines to come, by what stands after those that came, is what is meant of all bytes
abbrev pub Says : Result Standing Refused → Stream → List ℕ → Type 0
Says st s text = (rest : List ℕ) → (IsSome s.ended → rest ≡ []) → (st >>= λ after. verdict_from after (s.number + 1) (lines_of rest)) ≡ verdict (text ++ rest)

-- what answers halting
abbrev pub stopped_by : ReadError → StreamError CheckError
stopped_by read_error.ReadFault = stream.ReadFault
stopped_by read_error.TooLong = stream.TooLong
stopped_by read_error.OutOfMemory = stream.Refused check_error.OutOfMemory

abbrev pub refusal_of : Stop → Result CheckVerdict (StreamError CheckError)
refusal_of (stop.BadLine line f) = Err (stream.Refused (check_error.BadDossier line f))
refusal_of (stop.BadLog line f) = Ok (told.Refused line f)
refusal_of (stop.Above line e) = Err (stream.Refused (check_error.Matrix e))
refusal_of stop.OutOfMemory = Err (stream.Refused check_error.OutOfMemory)

module _ {S : Type 0} (left : S → Option (List ℕ)) (faults : S → ℕ) (first : S) (s : Stream) (input : S) where
  -- this holds of all bytes once the rest of them is read, or they were read already
  abbrev pub HoldsOnceRead : (List ℕ → Type 0) → Type 0
  HoldsOnceRead P = ((text : List ℕ) × IsRead left faults first s input text × HoldsOfAll s text P) ⊎ ((s.ended ≡ Some (Ok tt)) × ReadsAll (left first) (left input) P)

  -- why judging halts
  abbrev pub Halts : Halt → Type 0
  Halts (Early e) = EndsEarly (left first) (left input) (faults first) (faults input) e
  Halts (Stopped why) = HoldsOnceRead (λ bytes. Stops (verdict bytes) why)

  -- how many designs the whole input has, or why judging halts
  abbrev pub Judges : Result ℕ Halt → Type 0
  Judges (Ok designs) = ReadsAll (left first) (left input) (λ bytes. verdict bytes ≡ Ok designs)
  Judges (Err halt) = Halts halt

  -- the first source is whole
  pub record IsOpened (o : Opening) : Type 0 where
    pub text : List ℕ
    pub read : IsRead left faults first s input text
    pub says : Says (standing_after o s.number) s text
    pub whole : awaits_from o.judge.awaits ≡ true
    pub place : IsPlaced o (s.number + 1)

  abbrev pub Opens : Result Opening Halt → Type 0
  Opens (Ok o) = IsOpened o
  Opens (Err halt) = Halts halt
