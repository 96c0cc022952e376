-- The pieces of lines against the grammar of whole dossiers.
use Rattle.std.specs.Prelude.{◌≡◌, ℕ, ◌+◌, true, false, List, [], ◌∷◌, ◌++◌, length, map, Option, None, Some, ◌⊎◌, Result, Ok, Err}
use mathlib.Core.Logic.{inl, inr}
use Rattle.df_walk.specs.declared.Entry.{Entry}
use Rattle.df_dossier.specs.declared.judge.Awaits.TheVariants as awaits
use Rattle.df_dossier.specs.declared.judge.Piece.{Piece}
use Rattle.df_dossier.specs.declared.judge.Piece.TheVariants as piece
use Rattle.df_dossier.specs.Dossiers.{Refusal, Taken, Contents, Dossier, Ending, Log, has_tokens, dossier_from}
use Rattle.df_dossier.specs.Pieces.{Placed, Pieces, only, pieces_from}

-- nothing is read of what source lines state, of paths and of designs
abbrev pub NotRead : Type 0
NotRead = Unit {0}

abbrev pub order : Contents NotRead NotRead NotRead
order = record { source = λ lines. Ok tt; path = λ line. Some tt; design = λ p line. Some tt }

abbrev pub item_piece : Entry ⊎ NotRead → Piece
item_piece (inl e) = piece.Entry e
item_piece (inr d) = piece.Design

abbrev pub end_piece : Ending NotRead → Piece
end_piece e = by_next e.next where
  by_next : Option NotRead → Piece
  by_next None = piece.End true e.designs e.nodes
  by_next (Some path) = piece.End false e.designs e.nodes

-- the parts of a log, and those of a dossier, as pieces
abbrev pub log_pieces : Log NotRead NotRead → List Piece
log_pieces log = map item_piece log.items ++ end_piece log.end ∷ []

abbrev pub dossier_pieces : Dossier NotRead NotRead NotRead → List Piece
dossier_pieces d = piece.Head d.rules ∷ piece.SourceCount (length d.source) ∷ (map (λ line. piece.SourceLine) d.source ++ piece.RunFrom ∷ log_pieces d.log)

-- the pieces begin with some that say this, and go on as the rest
abbrev pub BeginsWith : List Piece → Pieces → Pieces → Type 0
BeginsWith said rest ps = (before : List Placed) × (map (λ p. p.piece) before ≡ said) × (ps ≡ record { before = before ++ rest.before; last = rest.last })

-- the pieces end at this line, with this fault
pub record EndsBadly (r : Refusal) (ps : Pieces) : Type 0 where
  pub piece : ps.last.piece ≡ piece.Bad r.fault
  pub number : ps.last.number ≡ r.line

-- the pieces say the parts of the dossier, and those of the lines after it follow; or the first fault
abbrev pub SaysDossier : Result (Taken (Dossier NotRead NotRead NotRead)) Refusal → Pieces → Type 0
SaysDossier (Ok d) ps = BeginsWith (dossier_pieces d.value) (pieces_from awaits.Next (d.number + 1) d.after) ps
SaysDossier (Err r) ps = EndsBadly r ps

-- no line has tokens
abbrev pub AreBlank : List (List ℕ) → Type 0
AreBlank [] = Unit {0}
AreBlank (line ∷ lines) = (has_tokens line ≡ false) × AreBlank lines

-- after a dossier the input is done where no line has tokens, and else the next dossier begins
pub record GoesOnAfter (number : ℕ) (lines : List (List ℕ)) : Type 0 where
  pub done : AreBlank lines → pieces_from awaits.Next number lines ≡ only record { piece = piece.Done; number = 0; text = [] }
  pub next : (AreBlank lines → ⊥) → pieces_from awaits.Next number lines ≡ pieces_from awaits.First number lines

-- the pieces of lines are those of the dossiers that the lines are, one after another, up to the first line that breaks a rule of their order
pub record PiecesAgree (number : ℕ) (lines : List (List ℕ)) : Type 0 where
  pub dossier : SaysDossier (dossier_from order number lines) (pieces_from awaits.First number lines)
  pub after : GoesOnAfter number lines

abbrev pub PiecesOfDossiers : Type 0
PiecesOfDossiers = (number : ℕ) (lines : List (List ℕ)) → PiecesAgree number lines
