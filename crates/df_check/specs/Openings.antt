-- How what is held of an input is stored until its first source is whole.
use Rattle.std.specs.Prelude.{◌≡◌, ℕ, ◌+◌, List, [], ◌∷◌, ◌++◌, length, ⊤, false, None, Result, Ok, Err}
use Rattle.df_lang.specs.Rules.{◌>>=◌}
use Rattle.df_lang.specs.Problems.{Stated}
use Rattle.df_matrix.specs.Limits.{limit_passed}
use Rattle.df_dossier.specs.declared.judge.Awaits.{Awaits}
use Rattle.df_dossier.specs.declared.judge.Awaits.TheVariants as awaits
use Rattle.df_dossier.specs.declared.judge.Piece.{Piece}
use Rattle.df_dossier.specs.declared.judge.Piece.TheVariants as piece
use Rattle.df_dossier.specs.Judging.{awaits_from}
use Rattle.df_dossier.specs.Dossiers.{source_lines}
use Rattle.df_check.specs.declared.stop.Stop.{Stop}
use Rattle.df_check.specs.declared.opening.Opening.{Opening as Opened}
use Rattle.df_check.specs.Judging.{Refused, Standing, Opening, Running, Opens, Runs, opened, opens_with, stated_by, limited, running_on}
use Rattle.df_check.specs.Stops.{Stops}

-- what it is
abbrev pub opening_of : Opened → Opening
opening_of o = record { at = o.at; source = o.source }

-- what stands where the source isn't whole
abbrev pub standing_of : Opened → Standing
standing_of o = record { awaits = o.judge.awaits; held = Opens (opening_of o) }

-- what stands after the line of this number, which may have been the last of the source
abbrev pub standing_after : Opened → ℕ → Result Standing Refused
standing_after o number = opened (opening_of o) number o.judge.awaits >>= λ held. Ok record { awaits = o.judge.awaits; held = held }

-- what stands after the line of this number, where the judge has come behind it, and it is this piece
abbrev pub standing_with : Opened → ℕ → List ℕ → Piece → Result Standing Refused
standing_with o number line p = opens_with (opening_of o) number line o.judge.awaits p >>= λ held. Ok record { awaits = o.judge.awaits; held = held }

-- with one source line more
abbrev pub with_source_line : Opening → List ℕ → Opening
with_source_line o line = record { at = o.at; source = o.source ++ line ∷ [] }

-- where source lines are awaited, or were the last ones, those that came stand between the line of their count and this number
abbrev pub AreBetween : Awaits → ℕ → ℕ → ℕ → Type 0
AreBetween awaits.First at count number = ⊤
AreBetween (awaits.Count rules) at count number = ⊤
AreBetween (awaits.Source rules left) at count number = at + 1 + count ≡ number
AreBetween (awaits.From rules) at count number = at + 1 + count ≡ number
AreBetween (awaits.Log rules) at count number = ⊤
AreBetween awaits.Next at count number = ⊤
AreBetween (awaits.Nothing f) at count number = ⊤

abbrev pub IsPlaced : Opened → ℕ → Type 0
IsPlaced o number = AreBetween o.judge.awaits o.at (length o.source) number

-- the source isn't whole behind the line, and its lines are counted right
abbrev pub StaysOpen : Awaits → ℕ → ℕ → ℕ → Type 0
StaysOpen after at count number = (awaits_from after ≡ false) × AreBetween after at count (number + 1)

-- a line of this number that is this piece leaves source lines that are counted right, where this is awaited behind it
abbrev pub FitsBehind : Piece → Awaits → ℕ → ℕ → ℕ → Type 0
FitsBehind (piece.Head rules) after at count number = StaysOpen after at count number
FitsBehind (piece.SourceCount n) after at count number = awaits_from after ≡ false
FitsBehind piece.SourceLine after at count number = AreBetween after at (count + 1) (number + 1)
FitsBehind piece.RunFrom after at count number = StaysOpen after at count number
FitsBehind (piece.Entry e) after at count number = StaysOpen after at count number
FitsBehind piece.Design after at count number = StaysOpen after at count number
FitsBehind (piece.End finished designs nodes) after at count number = StaysOpen after at count number
FitsBehind (piece.Bad f) after at count number = ⊤
FitsBehind piece.Done after at count number = StaysOpen after at count number

-- what is meant of a line is what is held after it, or it stops so
abbrev pub GoesOn : Result Standing Refused → ℕ → Result Opened Stop → Type 0
GoesOn meant number (Ok o) = meant ≡ standing_after o number
GoesOn meant number (Err s) = Stops meant s

-- the source states the problem of a matrix, or it stops so
abbrev pub States : Opened → ℕ → Result Stated Stop → Type 0
States o number (Ok p) = stated_by (opening_of o) number (source_lines o.source) ≡ Ok (Runs (running_on o.source p))
States o number (Err s) = Stops (stated_by (opening_of o) number (source_lines o.source)) s

-- a problem passes no limit, and has this matrix, or it stops so
abbrev pub Limits : Stated → ℕ → Result Stated Stop → Type 0
Limits p number (Ok q) = (q ≡ p) × (limit_passed p ≡ None)
Limits p number (Err s) = (r : Running) → Stops (limited number r (limit_passed p)) s
