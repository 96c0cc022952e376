-- A line of an input while its first source isn't whole.
use Rattle.std.proofs.Common.{◌≡◌, ℕ, ◌+◌, Bool, true, false, if◌then◌else◌, List, [], ◌∷◌, None, Some, Ok, Err, refl, sym, ap, subst, ◌∙◌, arith}
use Rattle.std.specs.declared.option.Option.{Option}
use Rattle.std.specs.Prelude.{⊤, Result, option_map}
use Rattle.df_io.specs.Lines.{tokens_of}
use Rattle.df_walk.specs.declared.Entry.{Entry}
use Rattle.df_walk.specs.declared.Rules.{Rules}
use Rattle.df_lang.specs.Problems.{Stated}
use Rattle.df_lang.specs.Rules.{◌>>=◌}
use Rattle.df_dossier.specs.declared.judge.Awaits.{Awaits}
use Rattle.df_dossier.specs.declared.judge.Awaits.TheVariants as awaits
use Rattle.df_dossier.specs.declared.judge.DossierFault.TheVariants as fault
use Rattle.df_dossier.specs.declared.judge.Judged.{Judged}
use Rattle.df_dossier.specs.declared.judge.Piece.{Piece}
use Rattle.df_dossier.specs.declared.judge.Piece.TheVariants as piece
use Rattle.df_dossier.specs.Judging.{judged, judged_or, line_judged, tokens_judged, head_of, count_of, end_of, next_of, awaits_from}
use Rattle.df_dossier.specs.Dossiers.{source_lines}
use Rattle.df_dossier.specs.Entries.{entry_read}
use Rattle.df_check.specs.declared.opening.Opening.{Opening as Opened}
use Rattle.df_check.specs.Judging.{Opening, Opens, Runs, opened, stated_by, limited, running_on}
use Rattle.df_check.specs.Openings.{opening_of, standing_of, standing_after, AreBetween, FitsBehind, States, Limits}
use Rattle.df_check.specs.Stops.{Stops}
use Rattle.df_check.specs.declared.stop.Stop.{Stop}

-- where the source isn't whole, nothing more is held
pub stays : (o : Opening) (number : ℕ) (a : Awaits) → awaits_from a ≡ false → opened o number a ≡ Ok (Opens o)
stays o number awaits.First unfinished = refl
stays o number (awaits.Count rules) unfinished = refl
stays o number (awaits.Source rules n) unfinished = refl
stays o number (awaits.From rules) unfinished = absurd (cc)
stays o number (awaits.Log rules) unfinished = refl
stays o number awaits.Next unfinished = refl
stays o number (awaits.Nothing f) unfinished = refl

pub open_after : (o : Opened) (number : ℕ) → awaits_from o.judge.awaits ≡ false → standing_after o number ≡ Ok (standing_of o)
open_after o number unfinished = ap (λ held. held >>= λ held. Ok record { awaits = o.judge.awaits; held = held }) (stays (opening_of o) number o.judge.awaits unfinished)

-- a source line more
pub between_more : (a : Awaits) (at count number : ℕ) → at + 1 + count ≡ number → AreBetween a at (count + 1) (number + 1)
between_more awaits.First at count number is = tt
between_more (awaits.Count rules) at count number is = tt
between_more (awaits.Source rules n) at count number is = omega (arith, is)
between_more (awaits.From rules) at count number is = omega (arith, is)
between_more (awaits.Log rules) at count number is = tt
between_more awaits.Next at count number is = tt
between_more (awaits.Nothing f) at count number is = tt

module _ (at count number : ℕ) where
  abbrev pub Fits : Option Judged → Type 0
  Fits None = ⊤
  Fits (Some j) = FitsBehind j.piece j.next at count number

  fits_head : (o : Option Rules) → Fits (Some (judged_or fault.BadHead (option_map (λ rules. judged (awaits.Count rules) (piece.Head rules)) o)))
  fits_head None = tt
  fits_head (Some rules) = (refl, tt)

  fits_count : (rules : Rules) (o : Option ℕ) → Fits (Some (judged_or fault.BadHead (option_map (λ n. judged (awaits.Source rules n) (piece.SourceCount n)) o)))
  fits_count rules None = tt
  fits_count rules (Some n) = refl

  fits_next : (p : Piece) → FitsBehind p awaits.Next at count number
  fits_next (piece.Head rules) = (refl, tt)
  fits_next (piece.SourceCount n) = refl
  fits_next piece.SourceLine = tt
  fits_next piece.RunFrom = (refl, tt)
  fits_next (piece.Entry e) = (refl, tt)
  fits_next piece.Design = (refl, tt)
  fits_next (piece.End finished designs nodes) = (refl, tt)
  fits_next (piece.Bad f) = tt
  fits_next piece.Done = (refl, tt)

  fits_end : (o : Option Piece) → Fits (Some (judged_or fault.BadEnd (option_map (judged awaits.Next) o)))
  fits_end None = tt
  fits_end (Some p) = fits_next p

  fits_entry : (rules : Rules) (o : Option Entry) → Fits (Some (judged_or fault.BadEntry (option_map (λ e. judged (awaits.Log rules) (piece.Entry e)) o)))
  fits_entry rules None = tt
  fits_entry rules (Some e) = (refl, tt)

  fits_log : (rules : Rules) (is_design is_end : Bool) (ending : Option Piece) (entry : Option Entry)
      → Fits (Some (if is_design then judged (awaits.Log rules) piece.Design else (if is_end then judged_or fault.BadEnd (option_map (judged awaits.Next) ending) else judged_or fault.BadEntry (option_map (λ e. judged (awaits.Log rules) (piece.Entry e)) entry))))
  fits_log rules true is_end ending entry = (refl, tt)
  fits_log rules false true ending entry = fits_end ending
  fits_log rules false false ending entry = fits_entry rules entry

  fits_tokens : (a : Awaits) (tokens : List (List ℕ)) → awaits_from a ≡ false → Fits (tokens_judged a tokens)
  fits_tokens a [] unfinished = tt
  fits_tokens awaits.First (t ∷ ts) unfinished = fits_head (head_of (t ∷ ts))
  fits_tokens awaits.Next (t ∷ ts) unfinished = fits_head (head_of (t ∷ ts))
  fits_tokens (awaits.Count rules) (t ∷ ts) unfinished = fits_count rules (count_of (t ∷ ts))
  fits_tokens (awaits.From rules) (t ∷ ts) unfinished = absurd (cc)
  fits_tokens (awaits.Log rules) (t ∷ ts) unfinished = fits_log rules _ _ (end_of ts) (entry_read rules (t ∷ ts))
  fits_tokens (awaits.Source rules n) (t ∷ ts) unfinished = tt
  fits_tokens (awaits.Nothing f) (t ∷ ts) unfinished = tt

  -- each line fits
  fits : (a : Awaits) (line : List ℕ) → awaits_from a ≡ false → AreBetween a at count number → Fits (line_judged a line)
  fits (awaits.Source rules n) line unfinished between = between_more _ at count number between
  fits (awaits.Nothing f) line unfinished between = tt
  fits awaits.First line unfinished between = fits_tokens awaits.First (tokens_of line) unfinished
  fits awaits.Next line unfinished between = fits_tokens awaits.Next (tokens_of line) unfinished
  fits (awaits.Count rules) line unfinished between = fits_tokens (awaits.Count rules) (tokens_of line) unfinished
  fits (awaits.From rules) line unfinished between = absurd (cc)
  fits (awaits.Log rules) line unfinished between = fits_tokens (awaits.Log rules) (tokens_of line) unfinished

  fit_piece : (a : Awaits) (j : Option Judged) (p : Piece) → option_map (λ j. j.piece) j ≡ Some p → Fits j → FitsBehind p (next_of a j) at count number
  fit_piece a None p is fit = absurd (cc)
  fit_piece a (Some j) p is fit = let same : j.piece ≡ p = cc in subst (λ p. FitsBehind p j.next at count number) same fit

  pub line_fits : (a : Awaits) (line : List ℕ) (p : Piece) → option_map (λ j. j.piece) (line_judged a line) ≡ Some p → awaits_from a ≡ false → AreBetween a at count number → FitsBehind p (next_of a (line_judged a line)) at count number
  line_fits a line p is unfinished between = fit_piece a (line_judged a line) p is (fits a line unfinished between)

-- the source states a problem, which passes a limit or has a matrix
pub limits_state : (o : Opened) (number : ℕ) (p : Stated) (r : Result Stated Stop) → source_lines o.source ≡ Ok p → Limits p number r → States o number r
limits_state o number p (Ok q) said limits =
    ap (stated_by (opening_of o) number) said ∙ ap (limited number (running_on o.source p)) limits.1 ∙ ap (λ q. Ok (Runs (running_on o.source q))) (sym limits.0)
limits_state o number p (Err s) said limits = subst (λ m. Stops m s) (sym (ap (stated_by (opening_of o) number) said)) (limits (running_on o.source p))
