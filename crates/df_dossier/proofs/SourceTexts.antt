-- Source lines kept as one text, and the place of a fault among them.
use Rattle.std.proofs.Common.{◌≡◌, ◌==◌, ℕ, ◌+◌, ◌<◌, ◌≤◌, Bool, true, false, cond, List, [], ◌∷◌, ◌++◌, length, map, Result, Ok, Err, refl, sym, ap, ◌∙◌, arith, append_assoc, append-nil}
use Rattle.std.proofs.lemmas.List.{length-map}
use Rattle.std.proofs.lemmas.List.Concat.{flat_map-append}
use Rattle.df_io.specs.Lines.{lines_of, onto_line, tokens_of}
use Rattle.df_io.specs.Joined.{Each, Lacks, is_line_feed, text_of}
use Rattle.df_io.proofs.Joining.{lacks_onto, lines_back}
use Rattle.df_lang.specs.declared.fault.SourceFault.{SourceFault}
use Rattle.df_lang.specs.declared.fault.SourceError.{SourceError}
use Rattle.df_lang.specs.Problems.{Stated}
use Rattle.df_lang.specs.Rules.{◌>>=◌}
use Rattle.df_lang.specs.StandsAbove.{Above, nothing}
use Rattle.df_lang.specs.Statements.{step}
use Rattle.df_lang.specs.Sources.{source, from_line, at_line, whole}
use Rattle.df_dossier.specs.Dossiers.{source_lines}
use Rattle.df_lang.specs.declared.fault.ParseError.{ParseError}
use Rattle.df_lang.specs.declared.fault.ParseError.TheVariants as told
use Rattle.df_lang.specs.Drafts.{Parses}
use Rattle.df_dossier.specs.Sources.{IsWhole, ParsesLines}

lacks_none : Lacks is_line_feed []
lacks_none = λ k d h. absurd (omega (arith, h))

onto_lacks : (b : ℕ) (lines : List (List ℕ)) → (b == 10) ≡ false → Each (Lacks is_line_feed) lines → Each (Lacks is_line_feed) (onto_line b lines)
onto_lacks b [] other each = (lacks_onto is_line_feed b [] other lacks_none, tt)
onto_lacks b (line ∷ lines) other each = (lacks_onto is_line_feed b line other each.0, each.1)

-- no line of a text has a line feed
pub lines_lack : (bytes : List ℕ) → Each (Lacks is_line_feed) (lines_of bytes)
lines_lack [] = tt
lines_lack (b ∷ bs) = at_byte (b == 10) refl (lines_lack bs) where
  at_byte : (v : Bool) → (b == 10) ≡ v → Each (Lacks is_line_feed) (lines_of bs) → Each (Lacks is_line_feed) (cond v ([] ∷ lines_of bs) (onto_line b (lines_of bs)))
  at_byte true is each = (lacks_none, each)
  at_byte false is each = onto_lacks b (lines_of bs) is each

each_with : (lines : List (List ℕ)) (line : List ℕ) → Each (Lacks is_line_feed) lines → Lacks is_line_feed line → Each (Lacks is_line_feed) (lines ++ line ∷ [])
each_with [] line each lacks = (lacks, tt)
each_with (l ∷ ls) line each lacks = (each.0, each_with ls line each.1 lacks)

-- a line more, with its line feed
module _ (bytes line : List ℕ) (is_whole : IsWhole bytes) (lacks : Lacks is_line_feed line) where
  text : (bytes ++ line) ++ 10 ∷ [] ≡ text_of (lines_of bytes ++ line ∷ [])
  text =
      append_assoc bytes line (10 ∷ [])
      ∙ ap (λ b. b ++ (line ++ 10 ∷ [])) is_whole
      ∙ ap (λ l. text_of (lines_of bytes) ++ l) (sym (append-nil (line ++ 10 ∷ [])))
      ∙ sym (flat_map-append (λ l. l ++ 10 ∷ []) (lines_of bytes) (line ∷ []))

  pub line_more : lines_of ((bytes ++ line) ++ 10 ∷ []) ≡ lines_of bytes ++ line ∷ []
  line_more = ap lines_of text ∙ lines_back (lines_of bytes ++ line ∷ []) (each_with (lines_of bytes) line (lines_lack bytes) lacks)

  pub whole_more : IsWhole ((bytes ++ line) ++ 10 ∷ [])
  whole_more = text ∙ ap text_of (sym line_more)

-- a fault is at line 0 or at one of the lines
fault_within : (n : ℕ) (a : Above) (lines : List (List (List ℕ))) (e : SourceError) → 0 < n → from_line n a lines ≡ Err e → e.line < n + length lines
unfolding from_line
fault_within n a [] e some is = at_end (whole a) is where
  at_end : (r : Result Stated SourceFault) → at_line 0 r ≡ Err e → e.line < n + 0
  at_end (Ok x) is = absurd (cc)
  at_end (Err f) is = let place : 0 ≡ e.line = ap line_of is in omega arith where
    line_of : Result Stated SourceError → ℕ
    line_of (Ok x) = 0
    line_of (Err e) = e.line
fault_within n a (tokens ∷ lines) e some is = at_step (λ b says. fault_within (n + 1) b lines e (omega arith) says) (step a tokens) is where
  at_step : ((b : Above) → from_line (n + 1) b lines ≡ Err e → e.line < (n + 1) + length lines) → (r : Result Above SourceFault) → (at_line n r >>= λ more. from_line (n + 1) more lines) ≡ Err e → e.line < n + length (tokens ∷ lines)
  at_step ih (Ok more) is = let later = ih more is in omega arith
  at_step ih (Err f) is = let place : n ≡ e.line = ap line_of is in omega arith where
    line_of : Result Stated SourceError → ℕ
    line_of (Ok x) = 0
    line_of (Err e) = e.line

pub fault_place : (lines : List (List ℕ)) (e : SourceError) → source_lines lines ≡ Err e → e.line ≤ length lines
fault_place lines e is =
    let within = fault_within 1 nothing (map tokens_of lines) e (omega arith) is in omega (arith, within, length-map lines tokens_of)

pub source_is : (bytes : List ℕ) → source bytes ≡ source_lines (lines_of bytes)
unfolding source
source_is bytes = refl

-- what a text states, its lines state
pub parsed : (bytes : List ℕ) (r : Result Stated ParseError) → Parses bytes r → ParsesLines (lines_of bytes) r
parsed bytes (Ok p) says = sym (source_is bytes) ∙ says
parsed bytes (Err (told.Refused e)) says = let is = sym (source_is bytes) ∙ says in (is, fault_place (lines_of bytes) e is)
parsed bytes (Err told.OutOfMemory) says = tt
