-- A limit for which an input is refused is one of the problem that its first source lines state: line by line, no more of them
-- came than there are bytes.
use Rattle.std.proofs.Common.{◌≡◌, ◌≤◌, ℕ, suc, ◌+◌, true, false, List, [], ◌∷◌, ◌++◌, length, Option, Some, None, Result, Ok, Err, refl, subst, arith}
use Rattle.std.proofs.lemmas.List.{length_push}
use Rattle.df_io.specs.declared.bytes.TheConstants.{MOST_BYTES}
use Rattle.df_io.specs.Lines.{lines_of}
use Rattle.df_walk.specs.Paths.{WrittenPath}
use Rattle.df_lang.specs.declared.fault.SourceError.{SourceError}
use Rattle.df_lang.specs.Problems.{Stated}
use Rattle.df_lang.specs.Rules.{◌>>=◌}
use Rattle.df_lang.proofs.SourcesKept.{few_lines, lines_kept}
use Rattle.df_kramer_mesner.specs.OrbitSystems.{orbit_system}
use Rattle.df_matrix.specs.declared.matrix.MatrixError.{MatrixError}
use Rattle.df_matrix.specs.Limits.{limit_passed}
use Rattle.df_dossier.specs.declared.judge.Awaits.{Awaits}
use Rattle.df_dossier.specs.declared.judge.Awaits.TheVariants as awaits
use Rattle.df_dossier.specs.declared.judge.DossierFault.{DossierFault}
use Rattle.df_dossier.specs.declared.judge.DossierFault.TheVariants as fault
use Rattle.df_dossier.specs.declared.judge.Judged.{Judged}
use Rattle.df_dossier.specs.declared.judge.Piece.{Piece}
use Rattle.df_dossier.specs.declared.judge.Piece.TheVariants as piece
use Rattle.df_dossier.specs.Judging.{line_judged, end_judged}
use Rattle.df_dossier.specs.Designs.{design_of}
use Rattle.df_dossier.specs.Dossiers.{line_path, source_lines}
use Rattle.df_check.specs.declared.LogFault.{LogFault}
use Rattle.df_check.specs.declared.LogFault.TheVariants.{OpenAtEnd, ChainBroken, SourceDiffers}
use Rattle.df_check.specs.Entries.{unless}
use Rattle.std.specs.Prelude.{nat_eq}
use Rattle.df_check.specs.Checkers.{fault_at, after_entry, after_leaf, counted, is_closed}
use Rattle.df_check.specs.DesignLines.{design_fault}
use Rattle.df_check.specs.Judging.{Reason, BadLine, Above, BadLog, Refused, Opening, Running, Held, Opens, Runs, Standing, nothing_read, running_on, limited, stated_by, opened, opens_with, read_or, ruled, is_awaited, after_awaited, is_place, with_start, with_design, with_stop, runs_with, held_with, after_judged, after_line, finished_at, ends_with, verdict_from, verdict}
use Rattle.df_check.specs.ChainLaws.{PassesLimit}

-- what is known where a line is refused, and where none is yet
abbrev OfLimit : Reason → Type 0
OfLimit (BadLine f) = Unit {0}
OfLimit (Above e) = PassesLimit e
OfLimit (BadLog f) = Unit {0}

abbrev Tells : {A : Type 0} → (A → Type 0) → Result A Refused → Type 0
Tells P (Ok x) = P x
Tells P (Err x) = OfLimit x.reason

abbrev Any : {A : Type 0} → A → Type 0
Any x = Unit {0}

tells_then : {A B : Type 0} (r : Result A Refused) (f : A → Result B Refused) (P : A → Type 0) (Q : B → Type 0) → Tells P r → ((x : A) → P x → Tells Q (f x)) → Tells Q (r >>= f)
tells_then (Ok x) f P Q tells each = each x tells
tells_then (Err e) f P Q tells each = tells

ruled_tells : (number : ℕ) (f : Option LogFault) (r : Running) → Tells Any (ruled number f r)
ruled_tells number None r = tt
ruled_tells number (Some f) r = tt

read_tells : {A : Type 0} (number : ℕ) (f : DossierFault) (o : Option A) → Tells Any (read_or number f o)
read_tells number f None = tt
read_tells number f (Some x) = tt

-- once the first source is whole
runs_tell : (r : Running) (number : ℕ) (line : List ℕ) (p : Piece) → Tells Any (runs_with r number line p)
runs_tell r number line (piece.Head rules) = tt
runs_tell r number line (piece.SourceCount n) = ruled_tells number (unless (nat_eq n (length r.source)) SourceDiffers) (record r { awaited = r.source })
runs_tell r number line piece.SourceLine = ruled_tells number (unless (is_awaited r.awaited line) SourceDiffers) (record r { awaited = after_awaited r.awaited })
runs_tell r number line piece.RunFrom = tells_then (read_or number fault.BadHead (line_path line)) (with_start r number) Any Any (read_tells number fault.BadHead (line_path line)) (λ p any. ruled_tells number (unless (is_place r.place p) ChainBroken) r)
runs_tell r number line (piece.Entry e) = ruled_tells number (fault_at (orbit_system r.problem) r.wants e) (record r { wants = after_entry r.wants e })
runs_tell r number line piece.Design =
    tells_then (read_or number fault.BadDesign (design_of r.problem line)) (with_design r number) Any Any (read_tells number fault.BadDesign (design_of r.problem line))
    (λ blocks any. ruled_tells number (design_fault r.problem r.wants blocks) (record r { wants = after_leaf r.wants; designs = counted None r.designs }))
runs_tell r number line (piece.End true designs nodes) = ruled_tells number (unless (is_closed r.wants) OpenAtEnd) (record r { place = None })
runs_tell r number line (piece.End false designs nodes) = tells_then (read_or number fault.BadEnd (line_path line)) (with_stop r number) Any Any (read_tells number fault.BadEnd (line_path line)) (λ p any. tt)
runs_tell r number line (piece.Bad f) = tt
runs_tell r number line piece.Done = tt

-- the source lines that came and the lines that are left are no more than the bytes of an input
abbrev HasRoom : ℕ → Held → Type 0
HasRoom left (Opens o) = length o.source + left ≤ MOST_BYTES
HasRoom left (Runs r) = Unit {0}

limit_tells : (left number : ℕ) (p : Stated) (r : Running) (l : Option MatrixError) → ((e : MatrixError) → l ≡ Some e → PassesLimit e) → Tells (HasRoom left) (limited number r l)
limit_tells left number p r None passes = tt
limit_tells left number p r (Some e) passes = passes e refl

stated_tells : (left : ℕ) (o : Opening) (number : ℕ) (s : Result Stated SourceError) → source_lines o.source ≡ s → length o.source + left ≤ MOST_BYTES → Tells (HasRoom left) (stated_by o number s)
stated_tells left o number (Err e) is room = tt
stated_tells left o number (Ok p) is room =
    limit_tells left number p (running_on o.source p) (limit_passed p) (λ e passed. record { problem = p; stated = lines_kept o.source p (omega (arith, room)) is; limit = passed })

opened_tells : (left : ℕ) (o : Opening) (number : ℕ) (a : Awaits) → length o.source + left ≤ MOST_BYTES → Tells (HasRoom left) (opened o number a)
opened_tells left o number (awaits.From rules) room = stated_tells left o number (source_lines o.source) refl room
opened_tells left o number awaits.First room = room
opened_tells left o number (awaits.Count rules) room = room
opened_tells left o number (awaits.Source rules n) room = room
opened_tells left o number (awaits.Log rules) room = room
opened_tells left o number awaits.Next room = room
opened_tells left o number (awaits.Nothing f) room = room

opens_tell : (left : ℕ) (o : Opening) (number : ℕ) (line : List ℕ) (after : Awaits) (p : Piece) → length o.source + suc left ≤ MOST_BYTES → Tells (HasRoom left) (opens_with o number line after p)
opens_tell left o number line after (piece.Head rules) room = omega (arith, room)
opens_tell left o number line after (piece.SourceCount n) room = omega (arith, room)
opens_tell left o number line after piece.SourceLine room = opened_tells left record { at = o.at; source = o.source ++ line ∷ [] } number after (omega (arith, room, length_push o.source line))
opens_tell left o number line after piece.RunFrom room = omega (arith, room)
opens_tell left o number line after (piece.Entry e) room = omega (arith, room)
opens_tell left o number line after piece.Design room = omega (arith, room)
opens_tell left o number line after (piece.End finished designs nodes) room = omega (arith, room)
opens_tell left o number line after (piece.Bad f) room = tt
opens_tell left o number line after piece.Done room = omega (arith, room)

held_tells : (left : ℕ) (h : Held) (number : ℕ) (line : List ℕ) (j : Judged) → HasRoom (suc left) h → Tells (HasRoom left) (held_with h number line j)
held_tells left (Opens o) number line j room = opens_tell left o number line j.next j.piece room
held_tells left (Runs r) number line j room = tells_then (runs_with r number line j.piece) (λ after. Ok (Runs after)) Any (HasRoom left) (runs_tell r number line j.piece) (λ now any. tt)

less_room : (left : ℕ) (h : Held) → HasRoom (suc left) h → HasRoom left h
less_room left (Opens o) room = omega (arith, room)
less_room left (Runs r) room = tt

abbrev StandsIn : ℕ → Standing → Type 0
StandsIn left s = HasRoom left s.held

judged_tells : (left : ℕ) (s : Standing) (number : ℕ) (line : List ℕ) (o : Option Judged) → StandsIn (suc left) s → Tells (StandsIn left) (after_judged s number line o)
judged_tells left s number line None room = less_room left s.held room
judged_tells left s number line (Some j) room = tells_then (held_with s.held number line j) (λ held. Ok record { awaits = j.next; held = held }) (HasRoom left) (StandsIn left) (held_tells left s.held number line j room) (λ held room. room)

-- the end
finish_tells : (r : Running) (place : Option WrittenPath) → Tells Any (finished_at r place)
finish_tells r None = tt
finish_tells r (Some place) = tt

end_tells : (h : Held) (p : Piece) → Tells Any (ends_with h p)
end_tells (Opens o) (piece.Bad f) = tt
end_tells (Opens o) (piece.Head rules) = tt
end_tells (Opens o) (piece.SourceCount n) = tt
end_tells (Opens o) piece.SourceLine = tt
end_tells (Opens o) piece.RunFrom = tt
end_tells (Opens o) (piece.Entry e) = tt
end_tells (Opens o) piece.Design = tt
end_tells (Opens o) (piece.End finished designs nodes) = tt
end_tells (Opens o) piece.Done = tt
end_tells (Runs r) (piece.Bad f) = tt
end_tells (Runs r) (piece.Head rules) = finish_tells r r.place
end_tells (Runs r) (piece.SourceCount n) = finish_tells r r.place
end_tells (Runs r) piece.SourceLine = finish_tells r r.place
end_tells (Runs r) piece.RunFrom = finish_tells r r.place
end_tells (Runs r) (piece.Entry e) = finish_tells r r.place
end_tells (Runs r) piece.Design = finish_tells r r.place
end_tells (Runs r) (piece.End finished designs nodes) = finish_tells r r.place
end_tells (Runs r) piece.Done = finish_tells r r.place

verdict_tells : (lines : List (List ℕ)) (s : Standing) (number : ℕ) → StandsIn (length lines) s → Tells Any (verdict_from s number lines)
verdict_tells [] s number room = end_tells s.held (end_judged s.awaits).piece
verdict_tells (line ∷ lines) s number room =
    tells_then (after_line s number line) (λ after. verdict_from after (number + 1) lines) (StandsIn (length lines)) Any (judged_tells (length lines) s number line (line_judged s.awaits line) room) (λ after room. verdict_tells lines after (number + 1) room)

pub limits_told : (bytes : List ℕ) → length bytes ≤ MOST_BYTES → (line : ℕ) (e : MatrixError) → verdict bytes ≡ Err record { line = line; reason = Above e } → PassesLimit e
limits_told bytes few line e h = subst (Tells Any) h (verdict_tells (lines_of bytes) nothing_read 1 (omega (arith, few, few_lines bytes)))
