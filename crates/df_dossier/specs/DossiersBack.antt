-- The text of a whole dossier, which ended or was cut, is read back: as one text, line by line, and as its parts.
use Rattle.std.specs.Prelude.{◌≡◌, ℕ, ◌+◌, ◌≤◌, true, List, [], ◌∷◌, ◌++◌, length, map, Option, Some, None, option_map, is_none, IfSome, filter_map, ◌⊎◌, Ok}
use mathlib.Core.Logic.{inl, inr}
use Rattle.df_io.specs.Lines.{lines_of}
use Rattle.df_io.specs.Joined.{Each, Lacks, is_line_feed, spaced, text_of}
use Rattle.df_walk.specs.declared.Rules.{Rules}
use Rattle.df_walk.specs.declared.Entry.{Entry}
use Rattle.df_walk.specs.Paths.{WrittenPath}
use Rattle.df_lang.specs.Problems.{Stated}
use Rattle.df_dossier.specs.declared.numbers.TheConstants.{MOST_COUNT}
use Rattle.df_dossier.specs.declared.judge.Awaits.{Awaits}
use Rattle.df_dossier.specs.declared.judge.Awaits.TheVariants as awaits
use Rattle.df_dossier.specs.declared.judge.Piece.{Piece}
use Rattle.df_dossier.specs.declared.judge.Piece.TheVariants as piece
use Rattle.df_dossier.specs.Paths.{end_tokens}
use Rattle.df_dossier.specs.Judging.{line_judged, next_of}
use Rattle.df_dossier.specs.Designs.{design_of}
use Rattle.df_dossier.specs.Dossiers.{Ending, Dossier, dossier_from, source_lines, whole}
use Rattle.df_dossier.specs.DossierTexts.{Logged, dossier_lines, spent_text, IsRunPath, IsLoggedLine}
use Rattle.df_dossier.specs.TextsBack.{IsOneLine}

-- an end line: of a finished run, or of one that was cut, with the path where the search goes on
abbrev pub ending_text : Ending WrittenPath → List ℕ
ending_text e = by_next e.next where
  by_next : Option WrittenPath → List ℕ
  by_next None = spaced (end_tokens true e.designs e.nodes)
  by_next (Some next) = spent_text e.designs e.nodes next

-- an end that may be written
pub record IsEnding (e : Ending WrittenPath) : Type 0 where
  pub designs : e.designs ≤ MOST_COUNT
  pub nodes : e.nodes ≤ MOST_COUNT
  pub next : IfSome e.next IsRunPath

-- what a line of a log says: its entry, its blocks, or nothing
abbrev pub item_of : Stated → Logged → Option (Entry ⊎ List (List ℕ))
item_of p (inl (inl e)) = Some (inl e)
item_of p (inl (inr line)) = option_map inr (design_of p line)
item_of p (inr comment) = None

abbrev pub items_of : Stated → List Logged → List (Entry ⊎ List (List ℕ))
items_of p log = filter_map (item_of p) log

-- the dossier of these parts
abbrev pub dossier_of : Rules → List (List ℕ) → Stated → WrittenPath → List Logged → Ending WrittenPath → Dossier Stated WrittenPath (List (List ℕ))
dossier_of rules source p start log end =
    record { rules = rules; source = source; problem = p; start = start; log = record { items = items_of p log; end = end } }

-- what the judge says of each line, one after the other
abbrev pub pieces_said : Awaits → List (List ℕ) → List (Option Piece)
pieces_said expected [] = []
pieces_said expected (line ∷ lines) = option_map (λ j. j.piece) (line_judged expected line) ∷ pieces_said (next_of expected (line_judged expected line)) lines

-- the piece of a line of a log
abbrev pub logged_piece : Logged → Option Piece
logged_piece (inl (inl e)) = Some (piece.Entry e)
logged_piece (inl (inr line)) = Some piece.Design
logged_piece (inr comment) = None

abbrev pub ending_piece : Ending WrittenPath → Piece
ending_piece e = piece.End (is_none e.next) e.designs e.nodes

-- the pieces of the lines of a dossier
abbrev pub lines_pieces : Rules → List (List ℕ) → List Logged → Ending WrittenPath → List (Option Piece)
lines_pieces rules source log end =
    Some (piece.Head rules) ∷ Some (piece.SourceCount (length source)) ∷ (map (λ line. Some piece.SourceLine) source ++ Some piece.RunFrom ∷ (map logged_piece log ++ Some (ending_piece end) ∷ []))

-- the lines of a dossier, at any place among other lines and bytes: `number` is that of the first
pub record DossierReadsBack (rules : Rules) (source : List (List ℕ)) (p : Stated) (start : WrittenPath) (log : List Logged) (end : Ending WrittenPath) : Type 0 where
  -- the bytes have these lines, and then those of the bytes that follow
  pub text : (more : List ℕ) → lines_of (text_of (dossier_lines rules source start log (ending_text end)) ++ more) ≡ dossier_lines rules source start log (ending_text end) ++ lines_of more
  -- the judge says the pieces of the parts, where a dossier may begin, and after them a dossier may begin again
  pub first : (lines : List (List ℕ)) → pieces_said awaits.First (dossier_lines rules source start log (ending_text end) ++ lines) ≡ lines_pieces rules source log end ++ pieces_said awaits.Next lines
  pub later : (lines : List (List ℕ)) → pieces_said awaits.Next (dossier_lines rules source start log (ending_text end) ++ lines) ≡ lines_pieces rules source log end ++ pieces_said awaits.Next lines
  -- the dossier is the one of these parts, up to its end line, and the other lines follow
  pub parts : (number : ℕ) (lines : List (List ℕ)) → dossier_from whole number (dossier_lines rules source start log (ending_text end) ++ lines)
      ≡ Ok record { value = dossier_of rules source p start log end; number = number + 3 + length source + length log; after = lines }

-- so of each dossier of parts that may stand in one, of which no source line, design line and comment has a line feed
abbrev pub DossiersReadBack : Type 0
DossiersReadBack = (rules : Rules) (source : List (List ℕ)) (p : Stated) (start : WrittenPath) (log : List Logged) (end : Ending WrittenPath)
    → source_lines source ≡ Ok p → length source ≤ MOST_COUNT → Each (Lacks is_line_feed) source → IsRunPath start → Each (IsLoggedLine rules p) log → Each IsOneLine log → IsEnding end
    → DossierReadsBack rules source p start log end
