-- Whole dossiers: the parts that the lines of one have, in their order, or the first line that breaks a rule.
use Rattle.std.specs.Prelude.{ℕ, ◌+◌, Bool, ◌&&◌, true, false, is_some, List, [], ◌∷◌, length, take, drop, map, nat_lt, nat_le, if◌then◌else◌, Option, Some, None, option_map, ◌⊎◌, Result, Ok, Err, codes}
use mathlib.Core.Logic.{inl, inr}
use Rattle.df_io.specs.Lines.{tokens_of}
use Rattle.df_walk.specs.declared.Rules.{Rules}
use Rattle.df_walk.specs.declared.Entry.{Entry}
use Rattle.df_walk.specs.Paths.{WrittenPath}
use Rattle.df_lang.specs.declared.fault.SourceError.{SourceError}
use Rattle.df_lang.specs.Problems.{Stated}
use Rattle.df_lang.specs.Rules.{◌>>=◌}
use Rattle.df_lang.specs.StandsAbove.{nothing}
use Rattle.df_lang.specs.Sources.{from_line as stated_from}
use Rattle.df_dossier.specs.declared.judge.DossierFault.{DossierFault}
use Rattle.df_dossier.specs.declared.judge.DossierFault.TheVariants as fault
use Rattle.df_dossier.specs.declared.judge.Piece.{Piece}
use Rattle.df_dossier.specs.declared.judge.Piece.TheVariants as piece
use Rattle.df_dossier.specs.Tokens.{◌>>?◌}
use Rattle.df_dossier.specs.Entries.{entry_of}
use Rattle.df_dossier.specs.Paths.{past, path_part, path_read}
use Rattle.df_dossier.specs.Judging.{head_of, count_of, end_of}
use Rattle.df_dossier.specs.Designs.{design_of}

-- a line that breaks a rule, and the rule; line 0 is the end of the input
pub record Refusal : Type 0 where
  pub line : ℕ
  pub fault : DossierFault

abbrev pub refused : {A : Type 0} → ℕ → DossierFault → Result A Refusal
refused line fault = Err record { line = line; fault = fault }

-- what a line says, its number, and the lines after it
pub record Taken (A : Type 0) : Type 0 where
  pub value : A
  pub number : ℕ
  pub after : List (List ℕ)

abbrev pub some_token : List (List ℕ) → Bool
some_token [] = false
some_token (token ∷ tokens) = true

abbrev pub has_tokens : List ℕ → Bool
has_tokens line = some_token (tokens_of line)

-- what the line of this number says, or its fault
abbrev pub said_or : {A : Type 0} → DossierFault → ℕ → List (List ℕ) → Option A → Result (Taken A) Refusal
said_or fault number after None = refused number fault
said_or fault number after (Some x) = Ok record { value = x; number = number; after = after }

-- what the first line with tokens says, where the first of all has this number; the fault is at line 0 where none has tokens
abbrev pub first_line : {A : Type 0} → DossierFault → (List ℕ → Option A) → ℕ → List (List ℕ) → Result (Taken A) Refusal
first_line fault read number [] = refused 0 fault
first_line fault read number (line ∷ lines) = if has_tokens line then said_or fault number lines (read line) else first_line fault read (number + 1) lines

-- how the parts of a dossier are read of which the order of lines says nothing: a source, a path and a design
pub record Contents (P W D : Type 0) : Type 0 where
  pub source : List (List ℕ) → Result P SourceError
  pub path : List ℕ → Option W
  pub design : P → List ℕ → Option D

-- how a dossier ended; a spent one with the path at which the search goes on
pub record Ending (W : Type 0) : Type 0 where
  pub designs : ℕ
  pub nodes : ℕ
  pub next : Option W

-- the entries and designs of a log in their order, and its end
pub record Log (W D : Type 0) : Type 0 where
  pub items : List (Entry ⊎ D)
  pub end : Ending W

-- the parts of a dossier
pub record Dossier (P W D : Type 0) : Type 0 where
  pub rules : Rules
  pub source : List (List ℕ)
  pub problem : P
  pub start : W
  pub log : Log W D

abbrev pub head_line : List ℕ → Option Rules
head_line line = head_of (tokens_of line)

abbrev pub count_line : List ℕ → Option ℕ
count_line line = count_of (tokens_of line)

abbrev pub from_line : {P W D : Type 0} → Contents P W D → List ℕ → Option W
from_line c line = past (codes "from") (tokens_of line) >>? λ tokens. c.path line

-- the first token of the line is this word
abbrev pub begins : List ℕ → List ℕ → Bool
begins word line = is_some (past word (tokens_of line))

-- an end line by what it says, and its path where it is spent
abbrev pub ending_by : {W : Type 0} → (List ℕ → Option W) → List ℕ → Piece → Option (Ending W)
ending_by path line (piece.End true designs nodes) = Some record { designs = designs; nodes = nodes; next = None }
ending_by path line (piece.End false designs nodes) = option_map (λ p. record { designs = designs; nodes = nodes; next = Some p }) (path line)
ending_by path line (piece.Head rules) = None
ending_by path line (piece.SourceCount n) = None
ending_by path line piece.SourceLine = None
ending_by path line piece.RunFrom = None
ending_by path line (piece.Entry e) = None
ending_by path line piece.Design = None
ending_by path line (piece.Bad f) = None
ending_by path line piece.Done = None

abbrev pub end_line : {P W D : Type 0} → Contents P W D → List ℕ → Option (Ending W)
end_line c line = past (codes "end") (tokens_of line) >>? end_of >>? ending_by c.path line

-- what a line of a log says, or its fault
abbrev pub item_or : {A : Type 0} → DossierFault → ℕ → Option A → Result A Refusal
item_or fault number None = refused number fault
item_or fault number (Some x) = Ok x

-- a design where the line begins so, and else an entry
abbrev pub item_line : {P W D : Type 0} → Contents P W D → Rules → P → ℕ → List ℕ → Result (Entry ⊎ D) Refusal
item_line c rules p number line =
    if begins (codes "design") line then item_or fault.BadDesign number (option_map inr (c.design p line)) else item_or fault.BadEntry number (option_map inl (entry_of rules line))

-- an item before those of a log
abbrev pub item_before : {W D : Type 0} → Entry ⊎ D → Taken (Log W D) → Taken (Log W D)
item_before item t = record { value = record { items = item ∷ t.value.items; end = t.value.end }; number = t.number; after = t.after }

-- the log: the items of the lines with tokens up to the first end line, and that
abbrev pub log_from : {P W D : Type 0} → Contents P W D → Rules → P → ℕ → List (List ℕ) → Result (Taken (Log W D)) Refusal
log_from c rules p number [] = refused 0 fault.BadEnd
log_from c rules p number (line ∷ lines) =
    if has_tokens line then
    (if begins (codes "end") line then said_or fault.BadEnd number lines (option_map (λ end. record { items = []; end = end }) (end_line c line)) else
    (item_line c rules p number line >>= λ item. log_from c rules p (number + 1) lines >>= λ more. Ok (item_before item more))) else
    log_from c rules p (number + 1) lines

-- the line with the start, and the log
abbrev pub start_from : {P W D : Type 0} → Contents P W D → Rules → List (List ℕ) → P → ℕ → List (List ℕ) → Result (Taken (Dossier P W D)) Refusal
start_from c rules source p number lines =
    first_line fault.BadHead (from_line c) number lines >>= λ start. log_from c rules p (start.number + 1) start.after >>= λ log. Ok record {
      value = record { rules = rules; source = source; problem = p; start = start.value; log = log.value };
      number = log.number;
      after = log.after;
    }

-- the problem that source lines state, or the line of the whole input that breaks a rule of sources: they follow the line of this number
abbrev pub stated_or : {P : Type 0} → ℕ → Result P SourceError → Result P Refusal
stated_or number (Ok p) = Ok p
stated_or number (Err e) = refused (number + e.line) (fault.BadSource e.fault)

-- so many source lines, which follow the line of this number, with tokens or without; and the parts after them
abbrev pub source_from : {P W D : Type 0} → Contents P W D → Rules → ℕ → ℕ → List (List ℕ) → Result (Taken (Dossier P W D)) Refusal
source_from c rules number n lines =
    if nat_lt (length lines) n then refused 0 fault.BadHead else
    (stated_or number (c.source (take n lines)) >>= λ p. start_from c rules (take n lines) p (number + 1 + n) (drop n lines))

-- the number of source lines, and the parts after it
abbrev pub count_from : {P W D : Type 0} → Contents P W D → Rules → ℕ → List (List ℕ) → Result (Taken (Dossier P W D)) Refusal
count_from c rules number lines = first_line fault.BadHead count_line number lines >>= λ count. source_from c rules count.number count.value count.after

-- the first dossier of lines of which the first has this number
abbrev pub dossier_from : {P W D : Type 0} → Contents P W D → ℕ → List (List ℕ) → Result (Taken (Dossier P W D)) Refusal
dossier_from c number lines = first_line fault.BadHead head_line number lines >>= λ head. count_from c head.value (head.number + 1) head.after

-- each after the one before, the increasing columns of a path: from `least` on and below its length
abbrev pub are_columns : ℕ → ℕ → List ℕ → Bool
are_columns length least [] = true
are_columns length least (c ∷ cs) = nat_le least c && nat_lt c length && are_columns length (c + 1) cs

abbrev pub written : WrittenPath → Option WrittenPath
written p = if are_columns p.size 0 p.chosen then Some p else None

-- the path of a `from` line or of a spent end line
abbrev pub line_path : List ℕ → Option WrittenPath
line_path line = path_part (tokens_of line) >>? path_read >>? written

-- what source lines state
abbrev pub source_lines : List (List ℕ) → Result Stated SourceError
source_lines lines = stated_from 1 nothing (map tokens_of lines)

-- sources, paths and designs as they are
abbrev pub whole : Contents Stated WrittenPath (List (List ℕ))
whole = record { source = source_lines; path = line_path; design = design_of }
