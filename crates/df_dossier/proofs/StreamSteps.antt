-- A dossier that is read from a source: a line more, the end, a stop, and a refusal with the rest of the input behind it.
use Rattle.std.proofs.Common.{◌≡◌, ℕ, ◌+◌, ◌∷◌, ◌++◌, List, [], Some, Ok, Err, refl, sym, ap, subst, ◌∙◌, append-nil}
use Rattle.std.specs.declared.option.Option.{Option}
use Rattle.std.specs.Option.{IsSome}
use Rattle.df_io.specs.declared.bytes.ReadError.{ReadError}
use Rattle.df_io.specs.declared.bytes.ReadError.TheVariants.{ReadFault, TooLong, OutOfMemory}
use Rattle.df_io.specs.declared.bytes.TheConstants.{MOST_BYTES}
use Rattle.df_io.specs.Lines.{lines_of}
use Rattle.df_io.specs.Streams.{Stream, Reads, IsStream, IsNextLine, IsNoLine, new_stream}
use Rattle.df_dossier.specs.declared.judge.DossierFault.{DossierFault}
use Rattle.df_dossier.specs.declared.spent.SpentError.{SpentError}
use Rattle.df_dossier.specs.declared.spent.SpentError.TheVariants as spent_error
use Rattle.df_dossier.specs.declared.stages.Stage.{Stage}
use Rattle.df_dossier.specs.declared.stages.Stage.TheVariants as stage
use Rattle.df_dossier.specs.declared.stream.StreamError.TheVariants.{Refused}
use Rattle.df_dossier.specs.Dossiers.{refused}
use Rattle.df_dossier.specs.Spent.{spent, rest_from, StandsAt, GoesOn, GivesSpent}
use Rattle.df_dossier.specs.StreamReads.{IsRead, EndsEarly}
use Rattle.df_dossier.specs.SpentStreams.{ReadsSpent, stopped}
use Rattle.df_dossier.proofs.StreamReads.{ends, taken_at_most, line_first, text_more}

-- a reading that ended early
pub stopped_early : (left left_new : Option (List ℕ)) (faults faults_new : ℕ) (e : ReadError) → EndsEarly left left_new faults faults_new e → ReadsSpent left left_new faults faults_new (Err (stopped e))
stopped_early left left_new faults faults_new ReadFault early = early
stopped_early left left_new faults faults_new TooLong early = early
stopped_early left left_new faults faults_new OutOfMemory early = early

-- what is answered of the lines to come is what is meant of all bytes
pub record Says (stage : Stage) (s : Stream) (text : List ℕ) : Type 0 where
  pub says : (rest : List ℕ) → (IsSome s.ended → rest ≡ []) → rest_from stage (s.number + 1) (lines_of rest) ≡ spent (text ++ rest)
  pub place : StandsAt stage (s.number + 1)

-- nothing was read
pub start_says : (s : Stream) → s ≡ new_stream MOST_BYTES → Says stage.Head s []
start_says s is = subst (λ s. Says stage.Head s []) (sym is) (record { says = λ rest none. refl; place = tt })

-- no line is left
pub end_says : (stage : Stage) (s : Stream) (text : List ℕ) → Says stage s text → rest_from stage (s.number + 1) [] ≡ spent text
end_says stage s text before = before.says [] (λ some. refl) ∙ ap spent (append-nil text)

-- a refusal by its line and its fault
pub refused_as : (left left_new : Option (List ℕ)) (faults faults_new : ℕ) → {at line : ℕ} → {f fault : DossierFault} → line ≡ at → fault ≡ f
    → ReadsSpent left left_new faults faults_new (Err (Refused (spent_error.Refused at f))) → ReadsSpent left left_new faults faults_new (Err (Refused (spent_error.Refused line fault)))
refused_as left left_new faults faults_new {at} {line} {f} {fault} is says reads =
    subst (λ l. ReadsSpent left left_new faults faults_new (Err (Refused (spent_error.Refused l fault)))) (sym is)
    (subst (λ g. ReadsSpent left left_new faults faults_new (Err (Refused (spent_error.Refused at g)))) (sym says) reads)

module _ {S : Type 0} (left : S → Option (List ℕ)) (faults : S → ℕ) (first i j : S) (old new : Stream) (text : List ℕ) (is : IsRead left faults first old i text) (reads : Reads left faults old new i j) where
  -- the input ended where no dossier may
  pub end_refused : IsStream new → IsNoLine old new (left i) (left j) → (error : SpentError) → GivesSpent (spent text) (Err error) → ReadsSpent (left first) (left j) (faults first) (faults j) (Err (Refused error))
  end_refused keeps nothing (spent_error.Refused at f) gives = ends left faults first i j old new text is reads keeps nothing (λ bytes. GivesSpent (spent bytes) (Err (spent_error.Refused at f))) gives
  end_refused keeps nothing spent_error.OutOfMemory gives = taken_at_most left faults first i j old new text is reads keeps nothing

  -- a line was handed out
  module _ (next : IsNextLine old new (left i) (left j)) where
    abbrev more : List ℕ
    more = text_more left faults first i j old new text is reads next

    line_says : (stage : Stage) → Says stage old text → (rest : List ℕ) → (IsSome new.ended → rest ≡ []) → rest_from stage new.number (new.line ∷ lines_of rest) ≡ spent (more ++ rest)
    line_says stage before = line_first left faults first i j old new text is reads next (rest_from stage) spent before.says

    pub line_place : (stage : Stage) → Says stage old text → StandsAt stage new.number
    line_place stage before = subst (StandsAt stage) (sym next.number) before.place

    pub says_more : (stage stage_new : Stage) → Says stage old text → GoesOn stage new.number new.line (Ok stage_new) → StandsAt stage_new (new.number + 1) → Says stage_new new more
    says_more stage stage_new before goes place = record {
      says = λ rest none. sym (goes (lines_of rest)) ∙ line_says stage before rest none;
      place = place;
    }

    pub refuses : (stage : Stage) (at : ℕ) (f : DossierFault) → Says stage old text → GoesOn stage new.number new.line (Err (spent_error.Refused at f)) → (rest : List ℕ) → (IsSome new.ended → rest ≡ []) → spent (more ++ rest) ≡ refused at f
    refuses stage at f before goes rest none = sym (line_says stage before rest none) ∙ goes (lines_of rest)
