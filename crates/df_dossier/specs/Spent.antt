-- One dossier that ended spent: its problem, its path and its rules, or the first line that breaks a rule; and what is still to be said where it is read in part.
use Rattle.std.specs.Prelude.{◌≡◌, ℕ, ◌+◌, ◌≤◌, List, [], ◌∷◌, ◌++◌, length, take, drop, nat_lt, if◌then◌else◌, Option, Some, None, ⊤, Result, Ok, Err, codes}
use Rattle.df_io.specs.Lines.{lines_of, tokens_of}
use Rattle.df_walk.specs.declared.Rules.{Rules}
use Rattle.df_walk.specs.Paths.{WrittenPath}
use Rattle.df_lang.specs.Problems.{Stated}
use Rattle.df_lang.specs.Rules.{◌>>=◌}
use Rattle.df_dossier.specs.declared.judge.DossierFault.TheVariants as fault
use Rattle.df_dossier.specs.declared.judge.Piece.{Piece}
use Rattle.df_dossier.specs.Tokens.{◌>>?◌}
use Rattle.df_dossier.specs.Paths.{past}
use Rattle.df_dossier.specs.Judging.{end_of}
use Rattle.df_dossier.specs.declared.spent.Spent.{Spent}
use Rattle.df_dossier.specs.declared.spent.SpentError.{SpentError}
use Rattle.df_dossier.specs.declared.spent.SpentError.TheVariants.{Refused, OutOfMemory}
use Rattle.df_dossier.specs.declared.stages.Stage.{Stage}
use Rattle.df_dossier.specs.declared.stages.Stage.TheVariants as stage
use Rattle.df_dossier.specs.Dossiers.{Refusal, refused, Taken, Dossier, has_tokens, first_line, from_line, log_from, start_from, stated_or, count_from, dossier_from, source_lines, whole}

-- a value, where no line with tokens follows
abbrev pub nothing_after : {A : Type 0} → A → ℕ → List (List ℕ) → Result A Refusal
nothing_after x number [] = Ok x
nothing_after x number (line ∷ lines) = if has_tokens line then refused number fault.Trailing else nothing_after x (number + 1) lines

-- what an end line of this number says of a spent dossier, with the lines after it
abbrev pub spent_end : Rules → Stated → Option WrittenPath → ℕ → List (List ℕ) → Result Spent Refusal
spent_end rules p None number after = refused number fault.NotSpent
spent_end rules p (Some path) number after = nothing_after record { problem = p; path = path; rules = rules } (number + 1) after

-- the same of a dossier
abbrev pub spent_alone : Taken (Dossier Stated WrittenPath (List (List ℕ))) → Result Spent Refusal
spent_alone d = spent_end d.value.rules d.value.problem d.value.log.end.next d.number d.after

-- the one dossier of these lines, which ended spent
abbrev pub spent_lines : List (List ℕ) → Result Spent Refusal
spent_lines lines = dossier_from whole 1 lines >>= spent_alone

-- the one dossier that the bytes are, which ended spent
abbrev pub spent : List ℕ → Result Spent Refusal
spent bytes = spent_lines (lines_of bytes)

-- what is meant, or out of memory
abbrev pub GivesSpent : Result Spent Refusal → Result Spent SpentError → Type 0
GivesSpent meant (Ok s) = meant ≡ Ok s
GivesSpent meant (Err (Refused line fault)) = meant ≡ refused line fault
GivesSpent meant (Err OutOfMemory) = ⊤

-- the source lines to come after some of them, and the parts after these
abbrev pub source_rest : Rules → ℕ → ℕ → List (List ℕ) → ℕ → List (List ℕ) → Result Spent Refusal
source_rest rules at left before number lines =
    if nat_lt (length lines) left then refused 0 fault.BadHead else
    (stated_or at (source_lines (before ++ take left lines)) >>= λ p. start_from whole rules (before ++ take left lines) p (number + left) (drop left lines) >>= spent_alone)

-- the log to come, and what follows it
abbrev pub log_rest : Rules → Stated → ℕ → List (List ℕ) → Result Spent Refusal
log_rest rules p number lines = log_from whole rules p number lines >>= λ log. spent_end rules p log.value.end.next log.number log.after

-- the `from` line to come, and what follows it
abbrev pub start_rest : Rules → Stated → ℕ → List (List ℕ) → Result Spent Refusal
start_rest rules p number lines = first_line fault.BadHead (from_line whole) number lines >>= λ start. log_rest rules p (start.number + 1) start.after

-- what the lines from this number on say, after what was read
abbrev pub rest_from : Stage → ℕ → List (List ℕ) → Result Spent Refusal
rest_from stage.Head number lines = dossier_from whole number lines >>= spent_alone
rest_from (stage.Count rules) number lines = count_from whole rules number lines >>= spent_alone
rest_from (stage.Source s) number lines = source_rest s.rules s.at s.left s.text number lines
rest_from (stage.From rules p) number lines = start_rest rules p number lines
rest_from (stage.Log rules p) number lines = log_rest rules p number lines
rest_from (stage.Ended s) number lines = nothing_after s number lines

-- the source lines read so far stand between the line of their count and this number, and one more is to come
pub record IsCounted (at left : ℕ) (before : List (List ℕ)) (number : ℕ) : Type 0 where
  pub place : at + 1 + length before ≡ number
  pub more : 1 ≤ left

abbrev pub StandsAt : Stage → ℕ → Type 0
StandsAt stage.Head number = ⊤
StandsAt (stage.Count rules) number = ⊤
StandsAt (stage.Source s) number = IsCounted s.at s.left s.text number
StandsAt (stage.From rules p) number = ⊤
StandsAt (stage.Log rules p) number = ⊤
StandsAt (stage.Ended s) number = ⊤

-- the tokens behind `end` say this before the path
abbrev pub IsEndLine : List ℕ → Piece → Type 0
IsEndLine line piece = (past (codes "end") (tokens_of line) >>? end_of) ≡ Some piece

-- the line of this number was read: whatever follows it says after it what it said before it, or the line is refused
abbrev pub GoesOn : Stage → ℕ → List ℕ → Result Stage SpentError → Type 0
GoesOn old number line (Ok new) = (lines : List (List ℕ)) → rest_from old number (line ∷ lines) ≡ rest_from new (number + 1) lines
GoesOn old number line (Err (Refused at fault)) = (lines : List (List ℕ)) → rest_from old number (line ∷ lines) ≡ refused at fault
GoesOn old number line (Err OutOfMemory) = ⊤
