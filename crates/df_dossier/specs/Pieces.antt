-- The pieces of an input, in their order, with the numbers and bytes of their lines.
use Rattle.std.specs.Prelude.{ℕ, ◌+◌, Bool, true, false, List, [], ◌∷◌, if◌then◌else◌, Option, Some, None}
use Rattle.df_io.specs.Lines.{lines_of}
use Rattle.df_dossier.specs.declared.judge.Awaits.{Awaits}
use Rattle.df_dossier.specs.declared.judge.Awaits.TheVariants as awaits
use Rattle.df_dossier.specs.declared.judge.Judged.{Judged}
use Rattle.df_dossier.specs.declared.judge.Piece.{Piece}
use Rattle.df_dossier.specs.declared.judge.Piece.TheVariants as piece
use Rattle.df_dossier.specs.Judging.{line_judged, end_judged}

-- a piece, and the number and bytes of its line: number 0 and no bytes where it is that of the end
pub record Placed : Type 0 where
  pub piece : Piece
  pub number : ℕ
  pub text : List ℕ

-- pieces that others follow, and the one that is the last, however often it is asked for
pub record Pieces : Type 0 where
  pub before : List Placed
  pub last : Placed

abbrev pub first_piece : Pieces → Placed
first_piece ps = first_or ps.last ps.before where
  first_or : Placed → List Placed → Placed
  first_or last [] = last
  first_or last (p ∷ before) = p

abbrev pub later_pieces : Pieces → Pieces
later_pieces ps = record { before = rest ps.before; last = ps.last } where
  rest : List Placed → List Placed
  rest [] = []
  rest (p ∷ before) = before

-- one piece more in front
abbrev pub in_front : Placed → Pieces → Pieces
in_front p ps = record { before = p ∷ ps.before; last = ps.last }

-- one piece alone
abbrev pub only : Placed → Pieces
only p = record { before = []; last = p }

-- no line may follow it
abbrev pub is_bad : Piece → Bool
is_bad (piece.Head rules) = false
is_bad (piece.SourceCount n) = false
is_bad piece.SourceLine = false
is_bad piece.RunFrom = false
is_bad (piece.Entry e) = false
is_bad piece.Design = false
is_bad (piece.End finished designs nodes) = false
is_bad (piece.Bad f) = true
is_bad piece.Done = false

-- what the line of this number was, and the pieces after it, by what is awaited then; it has no piece where it has no token that is looked at
abbrev pub piece_then : Awaits → ℕ → List ℕ → Option Judged → (Awaits → Pieces) → Pieces
piece_then expected number line None more = more expected
piece_then expected number line (Some j) more =
    if is_bad j.piece then only record { piece = j.piece; number = number; text = line } else in_front record { piece = j.piece; number = number; text = line } (more j.next)

-- the pieces of lines of which the first has this number, where this is awaited: up to the first line that breaks a rule, or the end
abbrev pub pieces_from : Awaits → ℕ → List (List ℕ) → Pieces
pieces_from expected number [] = only record { piece = (end_judged expected).piece; number = 0; text = [] }
pieces_from expected number (line ∷ lines) = piece_then expected number line (line_judged expected line) (λ next. pieces_from next (number + 1) lines)

-- the pieces of an input
abbrev pub pieces : List ℕ → Pieces
pieces bytes = pieces_from awaits.First 1 (lines_of bytes)

-- an input that is read in part: the number and bytes of the last piece, and the pieces to come
pub record PieceScan : Type 0 where
  pub number : ℕ
  pub text : List ℕ
  pub rest : Pieces

-- the next piece was read
abbrev pub piece_read : PieceScan → PieceScan
piece_read s = record { number = (first_piece s.rest).number; text = (first_piece s.rest).text; rest = later_pieces s.rest }

-- the pieces to come: after a line that broke a rule that piece again, with its number and bytes
abbrev pub rest_of : Awaits → ℕ → List ℕ → ℕ → List (List ℕ) → Pieces
rest_of (awaits.Nothing f) number text next lines = only record { piece = piece.Bad f; number = number; text = text }
rest_of awaits.First number text next lines = pieces_from awaits.First next lines
rest_of (awaits.Count rules) number text next lines = pieces_from (awaits.Count rules) next lines
rest_of (awaits.Source rules n) number text next lines = pieces_from (awaits.Source rules n) next lines
rest_of (awaits.From rules) number text next lines = pieces_from (awaits.From rules) next lines
rest_of (awaits.Log rules) number text next lines = pieces_from (awaits.Log rules) next lines
rest_of awaits.Next number text next lines = pieces_from awaits.Next next lines
