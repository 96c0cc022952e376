-- An input that a checker of chains reads line by line: what is held after some of its lines, the first line that breaks a rule, and
-- what a whole input is answered.
use Rattle.std.specs.Prelude.{ℕ, ◌+◌, Bool, true, false, ◌&&◌, nat_eq, bytes_eq, List, [], ◌∷◌, ◌++◌, length, Option, Some, None, Result, Ok, Err}
use Rattle.df_io.specs.Lines.{lines_of}
use Rattle.df_subsets.specs.Subsets.{same_list}
use Rattle.df_walk.specs.declared.Entry.{Entry}
use Rattle.df_walk.specs.Paths.{WrittenPath}
use Rattle.df_lang.specs.declared.fault.SourceError.{SourceError}
use Rattle.df_lang.specs.Problems.{Stated}
use Rattle.df_lang.specs.Rules.{◌>>=◌}
use Rattle.df_kramer_mesner.specs.OrbitSystems.{orbit_system}
use Rattle.df_matrix.specs.declared.matrix.MatrixError.{MatrixError}
use Rattle.df_matrix.specs.Limits.{limit_passed}
use Rattle.df_dossier.specs.declared.judge.Awaits.{Awaits}
use Rattle.df_dossier.specs.declared.judge.Awaits.TheVariants as awaits
use Rattle.df_dossier.specs.declared.judge.DossierFault.{DossierFault}
use Rattle.df_dossier.specs.declared.judge.DossierFault.TheVariants as fault
use Rattle.df_dossier.specs.declared.judge.Judged.{Judged}
use Rattle.df_dossier.specs.declared.judge.Piece.{Piece}
use Rattle.df_dossier.specs.declared.judge.Piece.TheVariants as piece
use Rattle.df_dossier.specs.Judging.{line_judged, end_judged}
use Rattle.df_dossier.specs.Designs.{design_of}
use Rattle.df_dossier.specs.Dossiers.{line_path, source_lines}
use Rattle.df_check.specs.declared.LogFault.{LogFault}
use Rattle.df_check.specs.declared.LogFault.TheVariants.{OpenAtEnd, ChainBroken, SourceDiffers}
use Rattle.df_check.specs.Entries.{unless}
use Rattle.df_check.specs.Checkers.{Wants, fault_at, after_entry, after_leaf, counted, is_closed}
use Rattle.df_check.specs.DesignLines.{begun_on, design_fault}
use Rattle.df_check.specs.Chains.{empty_path}

-- why a line is refused
pub data Reason : Type 0 where
  -- no dossier has it there
  BadLine : DossierFault → Reason
  -- it is the last source line of a problem that passes a limit of orbit matrices
  Above : MatrixError → Reason
  -- it breaks a rule of logs or of chains
  BadLog : LogFault → Reason

-- the line that is refused, and why; line 0 is the end of the input
pub record Refused : Type 0 where
  pub line : ℕ
  pub reason : Reason

abbrev pub stopped : {A : Type 0} → ℕ → Reason → Result A Refused
stopped line reason = Err record { line = line; reason = reason }

-- while the first source isn't whole: the number of the line with the count of its lines, and those that came
pub record Opening : Type 0 where
  pub at : ℕ
  pub source : List (List ℕ)

-- from then on: the first source and its problem; the source lines that the dossier at hand still has to have; what its log wants;
-- how many designs were given; the path where the next dossier has to begin, if there is one; and the last spent end line's number
pub record Running : Type 0 where
  pub source : List (List ℕ)
  pub problem : Stated
  pub awaited : List (List ℕ)
  pub wants : Wants
  pub designs : ℕ
  pub place : Option WrittenPath
  pub last : ℕ

pub data Held : Type 0 where
  Opens : Opening → Held
  Runs : Running → Held

-- what dossiers may have next, and what is held
pub record Standing : Type 0 where
  pub awaits : Awaits
  pub held : Held

abbrev pub nothing_read : Standing
nothing_read = record { awaits = awaits.First; held = Opens record { at = 0; source = [] } }

-- a log of nothing decided is wanted, and the first dossier begins at the empty path
abbrev pub running_on : List (List ℕ) → Stated → Running
running_on source p =
    record { source = source; problem = p; awaited = []; wants = (begun_on p).wants; designs = 0; place = Some empty_path; last = 0 }

-- the source stands in the lines up to this one
abbrev pub limited : ℕ → Running → Option MatrixError → Result Held Refused
limited number r None = Ok (Runs r)
limited number r (Some e) = stopped number (Above e)

abbrev pub stated_by : Opening → ℕ → Result Stated SourceError → Result Held Refused
stated_by o number (Ok p) = limited number (running_on o.source p) (limit_passed p)
stated_by o number (Err e) = stopped (o.at + e.line) (BadLine (fault.BadSource e.fault))

-- the source is whole where the `from` line is awaited after one of its lines
abbrev pub opened : Opening → ℕ → Awaits → Result Held Refused
opened o number (awaits.From rules) = stated_by o number (source_lines o.source)
opened o number awaits.First = Ok (Opens o)
opened o number (awaits.Count rules) = Ok (Opens o)
opened o number (awaits.Source rules n) = Ok (Opens o)
opened o number (awaits.Log rules) = Ok (Opens o)
opened o number awaits.Next = Ok (Opens o)
opened o number (awaits.Nothing f) = Ok (Opens o)

-- a piece while the first source isn't whole
abbrev pub opens_with : Opening → ℕ → List ℕ → Awaits → Piece → Result Held Refused
opens_with o number line after (piece.Head rules) = Ok (Opens o)
opens_with o number line after (piece.SourceCount n) = Ok (Opens record { at = number; source = [] })
opens_with o number line after piece.SourceLine = opened record { at = o.at; source = o.source ++ line ∷ [] } number after
opens_with o number line after piece.RunFrom = Ok (Opens o)
opens_with o number line after (piece.Entry e) = Ok (Opens o)
opens_with o number line after piece.Design = Ok (Opens o)
opens_with o number line after (piece.End finished designs nodes) = Ok (Opens o)
opens_with o number line after (piece.Bad f) = stopped number (BadLine f)
opens_with o number line after piece.Done = Ok (Opens o)

-- a value that the line has to have
abbrev pub read_or : {A : Type 0} → ℕ → DossierFault → Option A → Result A Refused
read_or number f None = stopped number (BadLine f)
read_or number f (Some x) = Ok x

-- what is held then, where the line breaks no rule of logs and chains
abbrev pub ruled : ℕ → Option LogFault → Running → Result Running Refused
ruled number None r = Ok r
ruled number (Some f) r = stopped number (BadLog f)

-- the line is the next one of the source lines to come
abbrev pub is_awaited : List (List ℕ) → List ℕ → Bool
is_awaited [] line = false
is_awaited (first ∷ later) line = bytes_eq line first

abbrev pub after_awaited : List (List ℕ) → List (List ℕ)
after_awaited [] = []
after_awaited (first ∷ later) = later

abbrev pub same_path : WrittenPath → WrittenPath → Bool
same_path p q = nat_eq p.size q.size && same_list p.chosen q.chosen

-- a dossier may begin at this path
abbrev pub is_place : Option WrittenPath → WrittenPath → Bool
is_place None p = false
is_place (Some place) p = same_path p place

-- an entry, a design, a path where a dossier begins, and one where it stopped
abbrev pub with_entry : Running → ℕ → Entry → Result Running Refused
with_entry r number e = ruled number (fault_at (orbit_system r.problem) r.wants e) (record r { wants = after_entry r.wants e })

abbrev pub with_design : Running → ℕ → List (List ℕ) → Result Running Refused
with_design r number blocks =
    ruled number (design_fault r.problem r.wants blocks) (record r { wants = after_leaf r.wants; designs = counted None r.designs })

abbrev pub with_start : Running → ℕ → WrittenPath → Result Running Refused
with_start r number p = ruled number (unless (is_place r.place p) ChainBroken) r

abbrev pub with_stop : Running → ℕ → WrittenPath → Result Running Refused
with_stop r number p = Ok (record r { place = Some p; last = number })

-- a piece once the first source is whole
abbrev pub runs_with : Running → ℕ → List ℕ → Piece → Result Running Refused
runs_with r number line (piece.Head rules) = Ok r
runs_with r number line (piece.SourceCount n) = ruled number (unless (nat_eq n (length r.source)) SourceDiffers) (record r { awaited = r.source })
runs_with r number line piece.SourceLine = ruled number (unless (is_awaited r.awaited line) SourceDiffers) (record r { awaited = after_awaited r.awaited })
runs_with r number line piece.RunFrom = read_or number fault.BadHead (line_path line) >>= with_start r number
runs_with r number line (piece.Entry e) = with_entry r number e
runs_with r number line piece.Design = read_or number fault.BadDesign (design_of r.problem line) >>= with_design r number
runs_with r number line (piece.End true designs nodes) = ruled number (unless (is_closed r.wants) OpenAtEnd) (record r { place = None })
runs_with r number line (piece.End false designs nodes) = read_or number fault.BadEnd (line_path line) >>= with_stop r number
runs_with r number line (piece.Bad f) = stopped number (BadLine f)
runs_with r number line piece.Done = Ok r

abbrev pub held_with : Held → ℕ → List ℕ → Judged → Result Held Refused
held_with (Opens o) number line j = opens_with o number line j.next j.piece
held_with (Runs r) number line j = runs_with r number line j.piece >>= λ after. Ok (Runs after)

-- what stands after a line that is this, where it is looked at
abbrev pub after_judged : Standing → ℕ → List ℕ → Option Judged → Result Standing Refused
after_judged s number line None = Ok s
after_judged s number line (Some j) = held_with s.held number line j >>= λ held. Ok record { awaits = j.next; held = held }

-- what stands after the line of this number
abbrev pub after_line : Standing → ℕ → List ℕ → Result Standing Refused
after_line s number line = after_judged s number line (line_judged s.awaits line)

-- the number of designs, where the last dossier finished
abbrev pub finished_at : Running → Option WrittenPath → Result ℕ Refused
finished_at r None = Ok r.designs
finished_at r (Some place) = stopped r.last (BadLog OpenAtEnd)

abbrev pub ends_with : Held → Piece → Result ℕ Refused
ends_with (Opens o) (piece.Bad f) = stopped 0 (BadLine f)
ends_with (Opens o) (piece.Head rules) = stopped 0 (BadLine fault.BadHead)
ends_with (Opens o) (piece.SourceCount n) = stopped 0 (BadLine fault.BadHead)
ends_with (Opens o) piece.SourceLine = stopped 0 (BadLine fault.BadHead)
ends_with (Opens o) piece.RunFrom = stopped 0 (BadLine fault.BadHead)
ends_with (Opens o) (piece.Entry e) = stopped 0 (BadLine fault.BadHead)
ends_with (Opens o) piece.Design = stopped 0 (BadLine fault.BadHead)
ends_with (Opens o) (piece.End finished designs nodes) = stopped 0 (BadLine fault.BadHead)
ends_with (Opens o) piece.Done = stopped 0 (BadLine fault.BadHead)
ends_with (Runs r) (piece.Bad f) = stopped 0 (BadLine f)
ends_with (Runs r) (piece.Head rules) = finished_at r r.place
ends_with (Runs r) (piece.SourceCount n) = finished_at r r.place
ends_with (Runs r) piece.SourceLine = finished_at r r.place
ends_with (Runs r) piece.RunFrom = finished_at r r.place
ends_with (Runs r) (piece.Entry e) = finished_at r r.place
ends_with (Runs r) piece.Design = finished_at r r.place
ends_with (Runs r) (piece.End finished designs nodes) = finished_at r r.place
ends_with (Runs r) piece.Done = finished_at r r.place

-- the input ends
abbrev pub at_end : Standing → Result ℕ Refused
at_end s = ends_with s.held (end_judged s.awaits).piece

-- what lines are answered, of which the first has this number
abbrev pub verdict_from : Standing → ℕ → List (List ℕ) → Result ℕ Refused
verdict_from s number [] = at_end s
verdict_from s number (line ∷ lines) = after_line s number line >>= λ after. verdict_from after (number + 1) lines

-- what an input is answered: how many designs it has where it is complete, or the first line that breaks a rule
abbrev pub verdict : List ℕ → Result ℕ Refused
verdict bytes = verdict_from nothing_read 1 (lines_of bytes)
