-- What stands after a whole dossier, the first one or a later one, and after lines without tokens.
use Rattle.std.proofs.Common.{◌≡◌, ℕ, zero, suc, ◌+◌, ◌≤◌, ◌&&◌, Bool, true, false, not, cond, nat_eq, nat_lt, nat_le, List, [], ◌∷◌, length, take, drop, Option, Some, None, option_map, Result, Ok, Err, codes, refl, sym, ap, ap₂, ◌∙◌, arith, tests}
use Rattle.std.proofs.lemmas.List.{length-take-le}
use Rattle.std.proofs.lemmas.Option.{option_and_then_some}
use Rattle.df_io.specs.Lines.{tokens_of}
use Rattle.df_io.specs.Number.{number_read}
use Rattle.df_io.specs.declared.numbers.NumberRead.{NumberRead}
use Rattle.df_io.specs.declared.numbers.NumberRead.TheVariants.{Value, NotDigits, TooLarge}
use Rattle.df_walk.specs.declared.Rules.{Rules}
use Rattle.df_lang.specs.declared.fault.SourceError.{SourceError}
use Rattle.df_lang.specs.Problems.{Stated}
use Rattle.df_lang.specs.Rules.{◌>>=◌}
use Rattle.df_matrix.specs.declared.matrix.MatrixError.{MatrixError}
use Rattle.df_matrix.specs.Limits.{limit_passed}
use Rattle.df_dossier.specs.declared.numbers.TheConstants.{MOST_COUNT}
use Rattle.df_dossier.specs.declared.judge.Awaits.{Awaits}
use Rattle.df_dossier.specs.declared.judge.Awaits.TheVariants as awaits
use Rattle.df_dossier.specs.declared.judge.DossierFault.{DossierFault}
use Rattle.df_dossier.specs.declared.judge.DossierFault.TheVariants as fault
use Rattle.df_dossier.specs.declared.judge.Piece.TheVariants as piece
use Rattle.df_dossier.specs.Tokens.{◌>>?◌, first_then, ending, within, number_within}
use Rattle.df_dossier.specs.Paths.{past}
use Rattle.df_dossier.specs.Judging.{judged, judged_or, bad, tokens_judged, head_of, count_of, end_judged}
use Rattle.df_dossier.specs.Dossiers.{Refusal, refused, Taken, some_token, first_line, head_line, count_line, start_from, stated_or, source_from, count_from, dossier_from, source_lines, whole}
use Rattle.df_check.specs.declared.LogFault.TheVariants.{SourceDiffers}
use Rattle.df_check.specs.Entries.{unless}
use Rattle.df_check.specs.Chains.{Read, are_blank}
use Rattle.df_check.specs.Judging.{Held, Opens, Opening, Runs, Running, Standing, running_on, ruled, after_judged, at_end, ends_with, finished_at, verdict_from}
use Rattle.df_check.proofs.DossierParts.{rests, source_parts}
use Rattle.df_check.proofs.Heard.{heard, heard_is, heard_join, then_same, then_none}
use Rattle.df_check.proofs.VerdictLines.{first_heard, next_of}
use Rattle.df_check.proofs.VerdictParts.{after_dossier, starts, start_heard, sources, few_sources, within_limits, first_sources, are_awaited, awaited_are, same_awaited, later_sources}

-- at least one source line is stated
some_source : (line : List ℕ) (n : ℕ) → count_line line ≡ Some n → 1 ≤ n
some_source line n h =
    option_and_then_some _ (past (codes "source") (tokens_of line)) n h (λ rest is g. by_rest rest g) where
      same : (more : List (List ℕ)) (m : ℕ) → ending more m ≡ Some n → m ≡ n
      same [] m g = cc
      same (token ∷ more) m g = absurd (cc)

      by_test : (k m : ℕ) (a b : Bool) → nat_le 1 k ≡ a → cond (a && b) (Some k) None ≡ Some m → 1 ≤ m
      by_test k m true true least g = let is : k ≡ m = cc in grind (arith, tests)
      by_test k m true false least g = absurd (cc)
      by_test k m false b least g = absurd (cc)

      least : (v : NumberRead) (m : ℕ) → within 1 MOST_COUNT v ≡ Some m → 1 ≤ m
      least (Value k) m g = by_test k m (nat_le 1 k) (nat_le k MOST_COUNT) refl g
      least NotDigits m g = absurd (cc)
      least TooLarge m g = absurd (cc)

      by_rest : (rest : List (List ℕ)) → first_then rest (λ token more. number_within 1 MOST_COUNT token >>? λ m. ending more m) ≡ Some n → 1 ≤ n
      by_rest [] g = absurd (cc)
      by_rest (token ∷ more) g =
          option_and_then_some _ (number_within 1 MOST_COUNT token) n g (λ m is k.
          let equal : m ≡ n = same more m k in
          let low : 1 ≤ m = least (number_read token) m is in
          omega (arith, equal, low))

abbrev stands : Awaits → Held → Standing
stands a h = record { awaits = a; held = h }

-- a line of this number is judged, and lines follow
abbrev follows : Awaits → ℕ → List (List ℕ) → Held → Option ℕ
follows a number lines held = heard (verdict_from (stands a held) (number + 1) lines)

no_end : (a : Awaits) (h : Held) (f : DossierFault) → end_judged a ≡ bad f → heard (at_end (stands a h)) ≡ None
no_end a (Opens o) f is = ap (λ j. heard (ends_with (Opens o) j.piece)) is
no_end a (Runs r) f is = ap (λ j. heard (ends_with (Runs r) j.piece)) is

no_line : (h : Held) (number : ℕ) (line : List ℕ) (lines : List (List ℕ)) (a : Awaits) (f : DossierFault)
    → heard (after_judged (stands a h) number line (Some (bad f)) >>= λ after. verdict_from after (number + 1) lines) ≡ None
no_line (Opens o) number line lines a f = refl
no_line (Runs r) number line lines a f = refl

head_line_is : (h : Held) (number : ℕ) (line : List ℕ) (lines : List (List ℕ)) (rules : Rules)
    → heard (after_judged (stands awaits.First h) number line (Some (judged (awaits.Count rules) (piece.Head rules))) >>= λ after. verdict_from after (number + 1) lines) ≡ follows (awaits.Count rules) number lines h
head_line_is (Opens o) number line lines rules = refl
head_line_is (Runs r) number line lines rules = refl

-- for whatever is answered after a dossier, where the number of source lines leads there
module _ (h : Held) (more : Taken Read → Option ℕ)
    (counts : (rules : Rules) (number n : ℕ) (line : List ℕ) (lines : List (List ℕ)) → 1 ≤ n
    → heard (after_judged (stands (awaits.Count rules) h) number line (Some (judged (awaits.Source rules n) (piece.SourceCount n))) >>= λ after. verdict_from after (number + 1) lines) ≡ (heard (source_from whole rules number n lines) >>? more)) where
  abbrev after_count : Rules → ℕ → ℕ → List (List ℕ) → Option ℕ
  after_count rules number n lines = heard (source_from whole rules number n lines) >>? more

  by_count : (rules : Rules) (number : ℕ) (line : List ℕ) (lines : List (List ℕ)) (o : Option ℕ) → ((n : ℕ) → o ≡ Some n → 1 ≤ n)
      → heard (after_judged (stands (awaits.Count rules) h) number line (Some (judged_or fault.BadHead (option_map (λ n. judged (awaits.Source rules n) (piece.SourceCount n)) o))) >>= λ after. verdict_from after (number + 1) lines)
      ≡ (o >>? λ n. after_count rules number n lines)
  by_count rules number line lines None some = no_line h number line lines (awaits.Count rules) fault.BadHead
  by_count rules number line lines (Some n) some = counts rules number n line lines (some n refl)

  count_heard : (rules : Rules) (number : ℕ) (lines : List (List ℕ)) → heard (verdict_from (stands (awaits.Count rules) h) number lines) ≡ (heard (count_from whole rules number lines) >>? more)
  count_heard rules number lines =
      first_heard (stands (awaits.Count rules) h) fault.BadHead count_line (after_count rules) (no_end (awaits.Count rules) h fault.BadHead refl)
      (λ number line are. ap (λ ts. after_judged (stands (awaits.Count rules) h) number line (tokens_judged (awaits.Count rules) ts)) are)
      (λ number line word tokens lines are.
      ap (λ ts. heard (after_judged (stands (awaits.Count rules) h) number line (tokens_judged (awaits.Count rules) ts) >>= λ after. verdict_from after (number + 1) lines)) are
      ∙ by_count rules number line lines (count_of (word ∷ tokens)) (λ n is. some_source line n (ap count_of are ∙ is))
      ∙ sym (ap (λ ts. count_of ts >>? λ n. after_count rules number n lines) are))
      number lines
      ∙ sym (heard_join (first_line fault.BadHead count_line number lines) (λ count. source_from whole rules count.number count.value count.after) more)

  abbrev after_head : ℕ → Rules → List (List ℕ) → Option ℕ
  after_head number rules lines = heard (count_from whole rules (number + 1) lines) >>? more

  by_head : (number : ℕ) (line : List ℕ) (lines : List (List ℕ)) (o : Option Rules)
      → heard (after_judged (stands awaits.First h) number line (Some (judged_or fault.BadHead (option_map (λ rules. judged (awaits.Count rules) (piece.Head rules)) o))) >>= λ after. verdict_from after (number + 1) lines)
      ≡ (o >>? λ rules. after_head number rules lines)
  by_head number line lines None = no_line h number line lines awaits.First fault.BadHead
  by_head number line lines (Some rules) = head_line_is h number line lines rules ∙ count_heard rules (number + 1) lines

  pub head_heard : (number : ℕ) (lines : List (List ℕ)) → heard (verdict_from (stands awaits.First h) number lines) ≡ (heard (dossier_from whole number lines) >>? more)
  head_heard number lines =
      first_heard (stands awaits.First h) fault.BadHead head_line after_head (no_end awaits.First h fault.BadHead refl)
      (λ number line are. ap (λ ts. after_judged (stands awaits.First h) number line (tokens_judged awaits.First ts)) are)
      (λ number line word tokens lines are.
      ap (λ ts. heard (after_judged (stands awaits.First h) number line (tokens_judged awaits.First ts) >>= λ after. verdict_from after (number + 1) lines)) are
      ∙ by_head number line lines (head_of (word ∷ tokens))
      ∙ sym (ap (λ ts. head_of ts >>? λ rules. after_head number rules lines) are))
      number lines
      ∙ sym (heard_join (first_line fault.BadHead head_line number lines) (λ head. count_from whole head.value (head.number + 1) head.after) more)

-- the first dossier: its problem is within the limits
abbrev pub first_of : List (List ℕ) → Stated → Taken Read → Option ℕ
first_of source p t = within_limits (limit_passed p) (running_on source p) >>? λ r. after_dossier r t

abbrev pub first_dossier : Taken Read → Option ℕ
first_dossier t = first_of t.value.source t.value.problem t

module _ (rules : Rules) (number k : ℕ) (lines : List (List ℕ)) where
  abbrev source : List (List ℕ)
  source = take (suc k) lines

  abbrev rest : List (List ℕ)
  rest = drop (suc k) lines

  abbrev after_source : Stated → Result (Taken Read) Refusal
  after_source p = start_from whole rules source p (number + 1 + suc k) rest

  first_within : (p : Stated) (l : Option MatrixError)
      → (within_limits l (running_on source p) >>? λ r. heard (verdict_from (starts rules r) (number + 1 + suc k) rest)) ≡ (heard (after_source p) >>? λ t. within_limits l (running_on source p) >>? λ r. after_dossier r t)
  first_within p None = start_heard rules source (running_on source p) (number + 1 + suc k) rest
  first_within p (Some e) = sym (then_none (heard (after_source p)) _ (λ t is. refl))

  first_stated : (s : Result Stated SourceError) → ((heard s >>? λ p. within_limits (limit_passed p) (running_on source p)) >>? λ r. heard (verdict_from (starts rules r) (number + 1 + suc k) rest)) ≡ (heard (stated_or number s >>= after_source) >>? first_dossier)
  first_stated (Err e) = refl
  first_stated (Ok p) =
      first_within p (limit_passed p)
      ∙ then_same (heard (after_source p)) (first_of source p) first_dossier (λ t is.
      let parts = rests rules source p (number + 1 + suc k) rest t (heard_is (after_source p) t is) in
      sym (ap₂ (λ l q. first_of l q t) parts.source_is parts.problem_is))

  first_source : (b : Bool) → nat_lt (length lines) (suc k) ≡ b
      → heard (verdict_from (sources rules (suc k) (Opens record { at = number; source = [] })) (number + 1) lines) ≡ (heard (cond b (refused 0 fault.BadHead) (stated_or number (source_lines source) >>= after_source)) >>? first_dossier)
  first_source true is = few_sources rules k (number + 1) lines (Opens record { at = number; source = [] }) (grind (arith, tests))
  first_source false is = first_sources rules k (number + 1) lines record { at = number; source = [] } (grind (arith, tests)) ∙ first_stated (source_lines source)

first_counts : (o : Opening) (rules : Rules) (number n : ℕ) (line : List ℕ) (lines : List (List ℕ)) → 1 ≤ n
    → heard (after_judged (stands (awaits.Count rules) (Opens o)) number line (Some (judged (awaits.Source rules n) (piece.SourceCount n))) >>= λ after. verdict_from after (number + 1) lines) ≡ (heard (source_from whole rules number n lines) >>? first_dossier)
first_counts o rules number zero line lines some = absurd (omega (arith, some))
first_counts o rules number (suc k) line lines some = first_source rules number k lines (nat_lt (length lines) (suc k)) refl

pub first_is : (number : ℕ) (lines : List (List ℕ)) (o : Opening) → heard (verdict_from record { awaits = awaits.First; held = Opens o } number lines) ≡ (heard (dossier_from whole number lines) >>? first_dossier)
first_is number lines o = head_heard (Opens o) first_dossier (first_counts o) number lines

-- a later dossier: it has the source lines of the first
abbrev pub sourced : Bool → Running → Option Running
sourced true r = Some (record r { awaited = [] })
sourced false r = None

abbrev pub later_dossier : Running → Taken Read → Option ℕ
later_dossier r t = sourced (are_awaited r.source t.value.source) r >>? λ now. after_dossier now t

-- one of another source
other_source : (r : Running) (rules : Rules) (number n : ℕ) (lines : List (List ℕ)) → (n ≤ length lines → are_awaited r.source (take n lines) ≡ false) → (heard (source_from whole rules number n lines) >>? later_dossier r) ≡ None
other_source r rules number n lines other =
    then_none (heard (source_from whole rules number n lines)) (later_dossier r) (λ t is.
    let parts = source_parts rules number n lines t (heard_is (source_from whole rules number n lines) t is) in
    ap (λ b. sourced b r >>? λ now. after_dossier now t) (ap (are_awaited r.source) parts.source_is ∙ other parts.enough))

other_length : (source lines : List (List ℕ)) (n : ℕ) → nat_eq n (length source) ≡ false → n ≤ length lines → are_awaited source (take n lines) ≡ false
other_length source lines n other enough = by_awaited (are_awaited source (take n lines)) refl where
  by_awaited : (b : Bool) → are_awaited source (take n lines) ≡ b → are_awaited source (take n lines) ≡ false
  by_awaited false is = is
  by_awaited true is =
      let long : length (take n lines) ≡ n = length-take-le n lines enough in
      let same : length (take n lines) ≡ length source = ap (λ (l : List (List ℕ)). length l) (awaited_are source (take n lines) is) in
      let equal : n ≡ length source = sym long ∙ same in
      absurd (grind (arith, tests))

module _ (r : Running) (states : source_lines r.source ≡ Ok r.problem) (rules : Rules) (number k : ℕ) (lines : List (List ℕ)) where
  abbrev given : List (List ℕ)
  given = take (suc k) lines

  abbrev left : List (List ℕ)
  left = drop (suc k) lines

  abbrev after_given : Stated → Result (Taken Read) Refusal
  after_given p = start_from whole rules given p (number + 1 + suc k) left

  later_stated : given ≡ r.source → heard (verdict_from (starts rules (record r { awaited = [] })) (number + 1 + suc k) left) ≡ (heard (stated_or number (source_lines given) >>= after_given) >>? later_dossier r)
  later_stated same =
      start_heard rules given (record r { awaited = [] }) (number + 1 + suc k) left
      ∙ then_same (heard (after_given r.problem)) (after_dossier (record r { awaited = [] })) (later_dossier r) (λ t is.
      let parts = rests rules given r.problem (number + 1 + suc k) left t (heard_is (after_given r.problem) t is) in
      sym (ap (λ b. sourced b r >>? λ now. after_dossier now t) (ap (are_awaited r.source) (parts.source_is ∙ same) ∙ same_awaited r.source)))
      ∙ sym (ap (λ s. heard (stated_or number s >>= after_given) >>? later_dossier r) (ap source_lines same ∙ states))

  later_given : (b : Bool) → are_awaited r.source given ≡ b → nat_lt (length lines) (suc k) ≡ false
      → cond b (heard (verdict_from (starts rules (record r { awaited = [] })) (number + 1 + suc k) left)) None ≡ (heard (source_from whole rules number (suc k) lines) >>? later_dossier r)
  later_given true is enough =
      later_stated (awaited_are r.source given is)
      ∙ sym (ap (λ b. heard (cond b (refused 0 fault.BadHead) (stated_or number (source_lines given) >>= after_given)) >>? later_dossier r) enough)
  later_given false is enough = sym (other_source r rules number (suc k) lines (λ long. is))

  later_source : length r.source ≡ suc k → (b : Bool) → nat_lt (length lines) (suc k) ≡ b
      → heard (verdict_from (sources rules (suc k) (Runs (record r { awaited = r.source }))) (number + 1) lines) ≡ (heard (source_from whole rules number (suc k) lines) >>? later_dossier r)
  later_source long true is =
      few_sources rules k (number + 1) lines (Runs (record r { awaited = r.source })) (grind (arith, tests))
      ∙ sym (ap (λ b. heard (cond b (refused 0 fault.BadHead) (stated_or number (source_lines given) >>= after_given)) >>? later_dossier r) is)
  later_source long false is =
      later_sources rules k (number + 1) lines r.source r (grind (arith, tests)) long
      ∙ later_given (are_awaited r.source given) refl is

later_counts : (r : Running) → source_lines r.source ≡ Ok r.problem → (rules : Rules) (number n : ℕ) (line : List ℕ) (lines : List (List ℕ)) → 1 ≤ n
    → heard (after_judged (stands (awaits.Count rules) (Runs r)) number line (Some (judged (awaits.Source rules n) (piece.SourceCount n))) >>= λ after. verdict_from after (number + 1) lines) ≡ (heard (source_from whole rules number n lines) >>? later_dossier r)
later_counts r states rules number zero line lines some = absurd (omega (arith, some))
later_counts r states rules number (suc k) line lines some = by_count (nat_eq (suc k) (length r.source)) refl where
  by_count : (b : Bool) → nat_eq (suc k) (length r.source) ≡ b
      → heard (ruled number (unless b SourceDiffers) (record r { awaited = r.source }) >>= (λ now. Ok (Runs now)) >>= (λ (held : Held). Ok (stands (awaits.Source rules (suc k)) held)) >>= λ after. verdict_from after (number + 1) lines)
      ≡ (heard (source_from whole rules number (suc k) lines) >>? later_dossier r)
  by_count true is = later_source r states rules number k lines (grind (arith, tests)) (nat_lt (length lines) (suc k)) refl
  by_count false is = sym (other_source r rules number (suc k) lines (other_length r.source lines (suc k) is))

pub later_is : (number : ℕ) (lines : List (List ℕ)) (r : Running) → source_lines r.source ≡ Ok r.problem
    → heard (verdict_from record { awaits = awaits.First; held = Runs r } number lines) ≡ (heard (dossier_from whole number lines) >>? later_dossier r)
later_is number lines r states = head_heard (Runs r) (later_dossier r) (later_counts r states) number lines

-- after a dossier the input ends where no line has tokens, and else the next one begins
pub next_is : (number : ℕ) (lines : List (List ℕ)) (r : Running)
    → heard (verdict_from (next_of r) number lines) ≡ cond (are_blank lines) (heard (finished_at r r.place)) (heard (verdict_from record { awaits = awaits.First; held = Runs r } number lines))
next_is number [] r = refl
next_is number (line ∷ lines) r = by_tokens (tokens_of line) (next_is (number + 1) lines r) where
  by_tokens : (ts : List (List ℕ)) → heard (verdict_from (next_of r) (number + 1) lines) ≡ cond (are_blank lines) (heard (finished_at r r.place)) (heard (verdict_from record { awaits = awaits.First; held = Runs r } (number + 1) lines))
      → heard (after_judged (next_of r) number line (tokens_judged awaits.Next ts) >>= λ after. verdict_from after (number + 1) lines)
      ≡ cond (not (some_token ts) && are_blank lines) (heard (finished_at r r.place)) (heard (after_judged (stands awaits.First (Runs r)) number line (tokens_judged awaits.First ts) >>= λ after. verdict_from after (number + 1) lines))
  by_tokens [] same = same
  by_tokens (word ∷ tokens) same = refl
