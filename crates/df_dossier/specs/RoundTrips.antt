-- What is written is read back.
use Rattle.std.specs.Prelude.{◌≡◌, ℕ, ◌<◌, ◌≤◌, ◌^◌, true, false, List, [], ◌∷◌, ◌++◌, length, Some, ℤ, pos, negsuc, suc, codes}
use Rattle.df_io.specs.Joined.{spaced}
use Rattle.df_walk.specs.declared.Rules.{Rules}
use Rattle.df_walk.specs.declared.Rules.TheVariants.{Plain, Divisor}
use Rattle.df_walk.specs.declared.Entry.{Entry}
use Rattle.df_walk.specs.declared.Entry.TheVariants.{Branch, Over, Under, Settled, Residue, Cut}
use Rattle.df_walk.specs.declared.CutRow.{CutRow}
use Rattle.df_walk.specs.Paths.{WrittenPath, IsWritten}
use Rattle.df_dossier.specs.declared.numbers.TheConstants.{MOST_NUMBER}
use Rattle.df_dossier.specs.declared.entries.TheConstants.{MOST_WEIGHT}
use Rattle.df_dossier.specs.Entries.{may_follow, entry_of, entry_text}
use Rattle.df_dossier.specs.Paths.{HasPath, path_text, end_tokens}
use Rattle.df_dossier.specs.declared.judge.Piece.TheVariants.{End}
use Rattle.df_dossier.specs.declared.judge.Awaits.TheVariants.{Log, Next}
use Rattle.df_dossier.specs.Judging.{judged, line_judged}

-- a weight that may stand in a cut
abbrev pub IsWeight : ℤ → Type 0
IsWeight (pos n) = (1 ≤ n) × (n ≤ MOST_WEIGHT)
IsWeight (negsuc n) = suc n ≤ MOST_WEIGHT

-- a weighted row that may stand in a cut
pub record IsCutRow (w : CutRow) : Type 0 where
  pub weight : IsWeight w.weight
  pub row : w.row ≤ MOST_NUMBER

-- each row may follow those before it
abbrev pub EachFollows : List CutRow → List CutRow → Type 0
EachFollows before [] = Unit {0}
EachFollows before (w ∷ ws) = IsCutRow w × (may_follow before w.row ≡ true) × EachFollows (before ++ w ∷ []) ws

-- an entry that may stand in a dossier of these rules
abbrev pub IsLogged : Rules → Entry → Type 0
IsLogged rules (Branch column) = column ≤ MOST_NUMBER
IsLogged rules (Over row) = row ≤ MOST_NUMBER
IsLogged rules (Under row) = row ≤ MOST_NUMBER
IsLogged rules Settled = Unit {0}
IsLogged Plain (Residue row m) = ⊥
IsLogged Plain (Cut ws) = ⊥
IsLogged Divisor (Residue row m) = (row ≤ MOST_NUMBER) × (2 ≤ m) × (m ≤ MOST_NUMBER)
IsLogged Divisor (Cut ws) = (0 < length ws.items) × EachFollows [] ws.items

-- the line of an entry is read as the entry
abbrev pub EntriesReadBack : Type 0
EntriesReadBack = (rules : Rules) (e : Entry) → IsLogged rules e → entry_of rules (entry_text e) ≡ Some e

-- a `from` line and a spent `end` line are read as their path
pub record PathReadsBack (p : WrittenPath) : Type 0 where
  pub begins : HasPath (codes "from" ++ path_text p) p
  pub spent : (designs nodes : ℕ) → designs < 2 ^ 64 → nodes < 2 ^ 64 → HasPath (spaced (end_tokens false designs nodes) ++ path_text p) p

abbrev pub PathsReadBack : Type 0
PathsReadBack = (p : WrittenPath) → IsWritten p → p.size ≤ MOST_NUMBER → PathReadsBack p

-- an end line is read as its counts, that of a spent run with any path behind it
pub record EndReadsBack (designs nodes : ℕ) : Type 0 where
  pub finished : (rules : Rules) → line_judged (Log rules) (spaced (end_tokens true designs nodes)) ≡ Some (judged Next (End true designs nodes))
  pub spent : (rules : Rules) (p : WrittenPath) → IsWritten p → p.size ≤ MOST_NUMBER
      → line_judged (Log rules) (spaced (end_tokens false designs nodes) ++ path_text p) ≡ Some (judged Next (End false designs nodes))

abbrev pub EndsReadBack : Type 0
EndsReadBack = (designs nodes : ℕ) → designs < 2 ^ 64 → nodes < 2 ^ 64 → EndReadsBack designs nodes
