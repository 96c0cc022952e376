-- Entries of one number or none, whose lines are read at a glance.
use Rattle.std.specs.Prelude.{◌≡◌, ℕ, List, Some}
use Rattle.df_walk.specs.declared.Rules.{Rules}
use Rattle.df_walk.specs.declared.Entry.{Entry}
use Rattle.df_walk.specs.declared.Entry.TheVariants as entry
use Rattle.df_dossier.specs.declared.quick.QuickEntry.{QuickEntry}
use Rattle.df_dossier.specs.declared.quick.QuickEntry.TheVariants.{Branch, Over, Under, Settled}
use Rattle.df_dossier.specs.declared.judge.Awaits.TheVariants as awaits
use Rattle.df_dossier.specs.declared.judge.Piece.TheVariants as piece
use Rattle.df_dossier.specs.Judging.{judged, line_judged}

-- the entry that is meant
abbrev pub entry_meant : QuickEntry → Entry
entry_meant (Branch column) = entry.Branch column
entry_meant (Over row) = entry.Over row
entry_meant (Under row) = entry.Under row
entry_meant Settled = entry.Settled

-- by either rules the line is judged to be this entry
abbrev pub IsQuick : List ℕ → QuickEntry → Type 0
IsQuick line quick = (rules : Rules) → line_judged (awaits.Log rules) line ≡ Some (judged (awaits.Log rules) (piece.Entry (entry_meant quick)))
