-- One line more of a dossier that is read in part.
use Rattle.std.proofs.Common.{◌≡◌, ℕ, suc, ◌+◌, ◌≤◌, Bool, true, false, cond, nat_lt, List, [], ◌∷◌, ◌++◌, length, take, drop, Option, Some, None, option_map, ◌⊎◌, inl, inr, is_some, Result, Ok, Err, codes, bytes_eq, refl, sym, ap, ◌∙◌, arith, tests, append_assoc}
use Rattle.df_io.specs.Lines.{tokens_of}
use Rattle.df_walk.specs.declared.Rules.{Rules}
use Rattle.df_walk.specs.declared.Entry.{Entry}
use Rattle.df_walk.specs.Paths.{WrittenPath}
use Rattle.df_lang.specs.declared.fault.SourceError.{SourceError}
use Rattle.df_lang.specs.Problems.{Stated}
use Rattle.df_lang.specs.Rules.{◌>>=◌}
use Rattle.df_dossier.specs.declared.judge.DossierFault.{DossierFault}
use Rattle.df_dossier.specs.declared.judge.DossierFault.TheVariants as fault
use Rattle.df_dossier.specs.declared.judge.Piece.{Piece}
use Rattle.df_dossier.specs.declared.judge.Piece.TheVariants as piece
use Rattle.df_dossier.specs.declared.spent.Spent.{Spent}
use Rattle.df_dossier.specs.declared.spent.SpentError.{SpentError}
use Rattle.df_dossier.specs.declared.spent.SpentError.TheVariants.{Refused, OutOfMemory}
use Rattle.df_dossier.specs.declared.stages.Stage.{Stage}
use Rattle.df_dossier.specs.declared.stages.Stage.TheVariants as stage
use Rattle.df_dossier.specs.Tokens.{◌>>?◌}
use Rattle.df_dossier.specs.Entries.{entry_of}
use Rattle.df_dossier.specs.Paths.{past}
use Rattle.df_dossier.specs.Judging.{head_of, count_of, end_of}
use Rattle.df_dossier.specs.Dossiers.{Refusal, refused, Taken, Log, Ending, some_token, said_or, first_line, head_line, count_line, from_line, begins, ending_by, end_line, item_or, item_line, item_before, log_from, start_from, stated_or, source_from, count_from, line_path, source_lines, whole}
use Rattle.df_dossier.specs.Spent.{nothing_after, spent_end, spent_alone, source_rest, log_rest, start_rest, rest_from, IsEndLine, GoesOn, GivesSpent}

-- the first line of some, where it has no token, where it has and says something, and where it doesn't
module _ {A : Type 0} (fault : DossierFault) (read : List ℕ → Option A) (number : ℕ) (line : List ℕ) (lines : List (List ℕ)) where
  abbrev by_tokens : List (List ℕ) → Result (Taken A) Refusal
  by_tokens ts = cond (some_token ts) (said_or fault number lines (read line)) (first_line fault read (number + 1) lines)

  pub first_blank : tokens_of line ≡ [] → first_line fault read number (line ∷ lines) ≡ first_line fault read (number + 1) lines
  first_blank none = ap by_tokens none

  pub first_said : (word : List ℕ) (tokens : List (List ℕ)) (x : A) → tokens_of line ≡ word ∷ tokens → read line ≡ Some x → first_line fault read number (line ∷ lines) ≡ Ok record { value = x; number = number; after = lines }
  first_said word tokens x are is = ap by_tokens are ∙ ap (said_or fault number lines) is

  pub first_refused : (word : List ℕ) (tokens : List (List ℕ)) → tokens_of line ≡ word ∷ tokens → read line ≡ None → first_line fault read number (line ∷ lines) ≡ refused number fault
  first_refused word tokens are is = ap by_tokens are ∙ ap (said_or fault number lines) is

module _ (number : ℕ) (line : List ℕ) (lines : List (List ℕ)) where
  abbrev head_then : Result (Taken Rules) Refusal → Result Spent Refusal
  head_then r = r >>= (λ head. count_from whole head.value (head.number + 1) head.after) >>= spent_alone

  pub head_blank : tokens_of line ≡ [] → rest_from stage.Head number (line ∷ lines) ≡ rest_from stage.Head (number + 1) lines
  head_blank none = ap head_then (first_blank fault.BadHead head_line number line lines none)

  pub head_said : (word : List ℕ) (tokens : List (List ℕ)) (rules : Rules) → tokens_of line ≡ word ∷ tokens → head_of (word ∷ tokens) ≡ Some rules
      → rest_from stage.Head number (line ∷ lines) ≡ rest_from (stage.Count rules) (number + 1) lines
  head_said word tokens rules are is = ap head_then (first_said fault.BadHead head_line number line lines word tokens rules are (ap head_of are ∙ is))

  pub head_refused : (word : List ℕ) (tokens : List (List ℕ)) → tokens_of line ≡ word ∷ tokens → head_of (word ∷ tokens) ≡ None
      → rest_from stage.Head number (line ∷ lines) ≡ refused number fault.BadHead
  head_refused word tokens are is = ap head_then (first_refused fault.BadHead head_line number line lines word tokens are (ap head_of are ∙ is))

pub start_alone : (rules : Rules) (source : List (List ℕ)) (p : Stated) (number : ℕ) (lines : List (List ℕ)) → (start_from whole rules source p number lines >>= spent_alone) ≡ start_rest rules p number lines
start_alone rules source p number lines = started (first_line fault.BadHead (from_line whole) number lines) where
  logged : (start : Taken WrittenPath) (r : Result (Taken (Log WrittenPath (List (List ℕ)))) Refusal)
      → ((r >>= λ log. Ok record { value = record { rules = rules; source = source; problem = p; start = start.value; log = log.value }; number = log.number; after = log.after }) >>= spent_alone)
      ≡ (r >>= λ log. spent_end rules p log.value.end.next log.number log.after)
  logged start (Ok log) = refl
  logged start (Err e) = refl

  started : (r : Result (Taken WrittenPath) Refusal)
      → ((r >>= λ start. log_from whole rules p (start.number + 1) start.after >>= λ log. Ok record { value = record { rules = rules; source = source; problem = p; start = start.value; log = log.value }; number = log.number; after = log.after }) >>= spent_alone)
      ≡ (r >>= λ start. log_rest rules p (start.number + 1) start.after)
  started (Ok start) = logged start (log_from whole rules p (start.number + 1) start.after)
  started (Err e) = refl

module _ (rules : Rules) (number : ℕ) (line : List ℕ) (lines : List (List ℕ)) where
  abbrev count_then : Result (Taken ℕ) Refusal → Result Spent Refusal
  count_then r = r >>= (λ count. source_from whole rules count.number count.value count.after) >>= spent_alone

  pub count_blank : tokens_of line ≡ [] → rest_from (stage.Count rules) number (line ∷ lines) ≡ rest_from (stage.Count rules) (number + 1) lines
  count_blank none = ap count_then (first_blank fault.BadHead count_line number line lines none)

  counted : (n : ℕ) → (source_from whole rules number n lines >>= spent_alone) ≡ source_rest rules number n [] (number + 1) lines
  counted n = by_length (nat_lt (length lines) n) (source_lines (take n lines)) where
    by_stated : (r : Result Stated Refusal) → ((r >>= λ p. start_from whole rules (take n lines) p (number + 1 + n) (drop n lines)) >>= spent_alone) ≡ (r >>= λ p. start_from whole rules (take n lines) p (number + 1 + n) (drop n lines) >>= spent_alone)
    by_stated (Ok p) = refl
    by_stated (Err e) = refl

    by_length : (b : Bool) (r : Result Stated SourceError) → (cond b (refused 0 fault.BadHead) (stated_or number r >>= λ p. start_from whole rules (take n lines) p (number + 1 + n) (drop n lines)) >>= spent_alone)
        ≡ cond b (refused 0 fault.BadHead) (stated_or number r >>= λ p. start_from whole rules (take n lines) p (number + 1 + n) (drop n lines) >>= spent_alone)
    by_length true r = refl
    by_length false r = by_stated (stated_or number r)

  pub count_said : (word : List ℕ) (tokens : List (List ℕ)) (n : ℕ) → tokens_of line ≡ word ∷ tokens → count_of (word ∷ tokens) ≡ Some n
      → rest_from (stage.Count rules) number (line ∷ lines) ≡ source_rest rules number n [] (number + 1) lines
  count_said word tokens n are is = ap count_then (first_said fault.BadHead count_line number line lines word tokens n are (ap count_of are ∙ is)) ∙ counted n

  pub count_refused : (word : List ℕ) (tokens : List (List ℕ)) → tokens_of line ≡ word ∷ tokens → count_of (word ∷ tokens) ≡ None
      → rest_from (stage.Count rules) number (line ∷ lines) ≡ refused number fault.BadHead
  count_refused word tokens are is = ap count_then (first_refused fault.BadHead count_line number line lines word tokens are (ap count_of are ∙ is))

module _ (rules : Rules) (p : Stated) (number : ℕ) (line : List ℕ) (lines : List (List ℕ)) where
  abbrev start_then : Result (Taken WrittenPath) Refusal → Result Spent Refusal
  start_then r = r >>= λ start. log_rest rules p (start.number + 1) start.after

  pub start_blank : tokens_of line ≡ [] → rest_from (stage.From rules p) number (line ∷ lines) ≡ rest_from (stage.From rules p) (number + 1) lines
  start_blank none = ap start_then (first_blank fault.BadHead (from_line whole) number line lines none)

  from_said : (word : List ℕ) (tokens : List (List ℕ)) → tokens_of line ≡ word ∷ tokens → bytes_eq word (codes "from") ≡ true → from_line whole line ≡ line_path line
  from_said word tokens are is = ap (λ ts. past (codes "from") ts >>? λ rest. line_path line) are ∙ ap (λ b. cond b (Some tokens) None >>? λ rest. line_path line) is

  pub start_said : (word : List ℕ) (tokens : List (List ℕ)) (path : WrittenPath) → tokens_of line ≡ word ∷ tokens → bytes_eq word (codes "from") ≡ true → line_path line ≡ Some path
      → rest_from (stage.From rules p) number (line ∷ lines) ≡ rest_from (stage.Log rules p) (number + 1) lines
  start_said word tokens path are is says = ap start_then (first_said fault.BadHead (from_line whole) number line lines word tokens path are (from_said word tokens are is ∙ says))

  pub start_refused : (word : List ℕ) (tokens : List (List ℕ)) → tokens_of line ≡ word ∷ tokens → bytes_eq word (codes "from") ≡ true → line_path line ≡ None
      → rest_from (stage.From rules p) number (line ∷ lines) ≡ refused number fault.BadHead
  start_refused word tokens are is says = ap start_then (first_refused fault.BadHead (from_line whole) number line lines word tokens are (from_said word tokens are is ∙ says))

  pub start_other : (word : List ℕ) (tokens : List (List ℕ)) → tokens_of line ≡ word ∷ tokens → bytes_eq word (codes "from") ≡ false
      → rest_from (stage.From rules p) number (line ∷ lines) ≡ refused number fault.BadHead
  start_other word tokens are is =
      ap start_then (first_refused fault.BadHead (from_line whole) number line lines word tokens are (ap (λ ts. past (codes "from") ts >>? λ rest. line_path line) are ∙ ap (λ b. cond b (Some tokens) None >>? λ rest. line_path line) is))

  -- the lines of the log
  abbrev log_then : Result (Taken (Log WrittenPath (List (List ℕ)))) Refusal → Result Spent Refusal
  log_then r = r >>= λ log. spent_end rules p log.value.end.next log.number log.after

  abbrev ended : Result (Taken (Log WrittenPath (List (List ℕ)))) Refusal
  ended = said_or fault.BadEnd number lines (option_map (λ end. record { items = []; end = end }) (end_line whole line))

  abbrev after_item : Result (Entry ⊎ List (List ℕ)) Refusal → Result (Taken (Log WrittenPath (List (List ℕ)))) Refusal
  after_item r = r >>= λ item. log_from whole rules p (number + 1) lines >>= λ more. Ok (item_before item more)

  abbrev logged : List (List ℕ) → Bool → Result (Entry ⊎ List (List ℕ)) Refusal → Result Spent Refusal
  logged ts ends item = log_then (cond (some_token ts) (cond ends ended (after_item item)) (log_from whole rules p (number + 1) lines))

  pub log_blank : tokens_of line ≡ [] → rest_from (stage.Log rules p) number (line ∷ lines) ≡ rest_from (stage.Log rules p) (number + 1) lines
  log_blank none = ap (λ ts. logged ts (begins (codes "end") line) (item_line whole rules p number line)) none

  -- the first token is this word, or it isn't
  pub begins_with : (word token : List ℕ) (tokens : List (List ℕ)) (b : Bool) → tokens_of line ≡ token ∷ tokens → bytes_eq token word ≡ b → begins word line ≡ b
  begins_with word token tokens b are is = ap (λ ts. is_some (past word ts)) are ∙ ap (λ b. is_some (cond b (Some tokens) None)) is ∙ told b where
    told : (b : Bool) → is_some (cond b (Some tokens) None) ≡ b
    told true = refl
    told false = refl

  pub log_end : (word : List ℕ) (tokens : List (List ℕ)) → tokens_of line ≡ word ∷ tokens → begins (codes "end") line ≡ true
      → rest_from (stage.Log rules p) number (line ∷ lines) ≡ log_then ended
  log_end word tokens are is = ap (λ ts. logged ts (begins (codes "end") line) (item_line whole rules p number line)) are ∙ ap (λ b. logged (word ∷ tokens) b (item_line whole rules p number line)) is

  log_item : (word : List ℕ) (tokens : List (List ℕ)) → tokens_of line ≡ word ∷ tokens → begins (codes "end") line ≡ false
      → rest_from (stage.Log rules p) number (line ∷ lines) ≡ log_then (after_item (item_line whole rules p number line))
  log_item word tokens are is = ap (λ ts. logged ts (begins (codes "end") line) (item_line whole rules p number line)) are ∙ ap (λ b. logged (word ∷ tokens) b (item_line whole rules p number line)) is

  passed : (item : Entry ⊎ List (List ℕ)) (r : Result (Taken (Log WrittenPath (List (List ℕ)))) Refusal) → log_then (r >>= λ more. Ok (item_before item more)) ≡ log_then r
  passed item (Ok more) = refl
  passed item (Err e) = refl

  pub log_passed : (word : List ℕ) (tokens : List (List ℕ)) (item : Entry ⊎ List (List ℕ)) → tokens_of line ≡ word ∷ tokens → begins (codes "end") line ≡ false → item_line whole rules p number line ≡ Ok item
      → rest_from (stage.Log rules p) number (line ∷ lines) ≡ rest_from (stage.Log rules p) (number + 1) lines
  log_passed word tokens item are other is =
      log_item word tokens are other ∙ ap (λ r. log_then (after_item r)) is ∙ passed item (log_from whole rules p (number + 1) lines)

  pub log_refused : (word : List ℕ) (tokens : List (List ℕ)) (f : DossierFault) → tokens_of line ≡ word ∷ tokens → begins (codes "end") line ≡ false → item_line whole rules p number line ≡ refused number f
      → rest_from (stage.Log rules p) number (line ∷ lines) ≡ refused number f
  log_refused word tokens f are other is = log_item word tokens are other ∙ ap (λ r. log_then (after_item r)) is

  -- a design line, and an entry line
  abbrev item_by : Bool → Result (Entry ⊎ List (List ℕ)) Refusal
  item_by b = cond b (item_or fault.BadDesign number (option_map inr (whole.design p line))) (item_or fault.BadEntry number (option_map inl (entry_of rules line)))

  pub design_said : (d : Option (List (List ℕ))) → begins (codes "design") line ≡ true → whole.design p line ≡ d → item_line whole rules p number line ≡ item_or fault.BadDesign number (option_map inr d)
  design_said d is says = ap item_by is ∙ ap (λ o. item_or fault.BadDesign number (option_map inr o)) says

  pub entry_said : (e : Option Entry) → begins (codes "design") line ≡ false → entry_of rules line ≡ e → item_line whole rules p number line ≡ item_or fault.BadEntry number (option_map inl e)
  entry_said e is says = ap item_by is ∙ ap (λ o. item_or fault.BadEntry number (option_map inl o)) says

  -- an end line
  abbrev end_then : Option (Ending WrittenPath) → Result Spent Refusal
  end_then o = log_then (said_or fault.BadEnd number lines (option_map (λ end. record { items = []; end = end }) o))

  pub end_said : (pc : Piece) (o : Option (Ending WrittenPath)) → IsEndLine line pc → ending_by line_path line pc ≡ o → log_then ended ≡ end_then o
  end_said pc o is says = ap (λ o. end_then (o >>? ending_by line_path line)) is ∙ ap end_then says

  pub end_none : (past (codes "end") (tokens_of line) >>? end_of) ≡ None → log_then ended ≡ refused number fault.BadEnd
  end_none is = ap (λ o. end_then (o >>? ending_by line_path line)) is

  -- the end line, by what it says before its path
  pub ends : (pc : Piece) (o : Option (Ending WrittenPath)) → IsEndLine line pc → ending_by line_path line pc ≡ o → rest_from (stage.Log rules p) number (line ∷ lines) ≡ end_then o
  ends pc o is says = by_tokens (tokens_of line) refl where
    by_word : (word : List ℕ) (tokens : List (List ℕ)) (b : Bool) → tokens_of line ≡ word ∷ tokens → bytes_eq word (codes "end") ≡ b → rest_from (stage.Log rules p) number (line ∷ lines) ≡ end_then o
    by_word word tokens true are first = log_end word tokens are (begins_with (codes "end") word tokens true are first) ∙ end_said pc o is says
    by_word word tokens false are first =
        let none : (past (codes "end") (tokens_of line) >>? end_of) ≡ None = ap (λ ts. past (codes "end") ts >>? end_of) are ∙ ap (λ b. cond b (Some tokens) None >>? end_of) first in absurd (cc)

    by_tokens : (ts : List (List ℕ)) → tokens_of line ≡ ts → rest_from (stage.Log rules p) number (line ∷ lines) ≡ end_then o
    by_tokens [] are = let none : (past (codes "end") (tokens_of line) >>? end_of) ≡ None = ap (λ ts. past (codes "end") ts >>? end_of) are in absurd (cc)
    by_tokens (word ∷ tokens) are = by_word word tokens (bytes_eq word (codes "end")) are refl

-- no end line
pub ending_none : (line : List ℕ) (pc : Piece) → ((finished : Bool) (designs nodes : ℕ) → pc ≡ piece.End finished designs nodes → ⊥) → ending_by line_path line pc ≡ None
ending_none line (piece.End finished designs nodes) other = absurd (other finished designs nodes refl)
ending_none line (piece.Head rules) other = refl
ending_none line (piece.SourceCount n) other = refl
ending_none line piece.SourceLine other = refl
ending_none line piece.RunFrom other = refl
ending_none line (piece.Entry e) other = refl
ending_none line piece.Design other = refl
ending_none line (piece.Bad f) other = refl
ending_none line piece.Done other = refl

module _ (s : Spent) (number : ℕ) (line : List ℕ) (lines : List (List ℕ)) where
  abbrev later : List (List ℕ) → Result Spent Refusal
  later ts = cond (some_token ts) (refused number fault.Trailing) (nothing_after s (number + 1) lines)

  pub later_blank : tokens_of line ≡ [] → rest_from (stage.Ended s) number (line ∷ lines) ≡ rest_from (stage.Ended s) (number + 1) lines
  later_blank none = ap later none

  pub later_refused : (word : List ℕ) (tokens : List (List ℕ)) → tokens_of line ≡ word ∷ tokens → rest_from (stage.Ended s) number (line ∷ lines) ≡ refused number fault.Trailing
  later_refused word tokens are = ap later are

-- source lines
module _ (rules : Rules) (at : ℕ) (before : List (List ℕ)) (number : ℕ) (line : List ℕ) (lines : List (List ℕ)) where
  abbrev source_by : Bool → List (List ℕ) → ℕ → List (List ℕ) → Result Spent Refusal
  source_by short taken next after =
      cond short (refused 0 fault.BadHead) (stated_or at (source_lines taken) >>= λ p. start_from whole rules taken p next after >>= spent_alone)

  more_left : (m : ℕ) → source_rest rules at (suc m) before number (line ∷ lines) ≡ source_rest rules at m (before ++ line ∷ []) (number + 1) lines
  more_left m =
      let short : nat_lt (suc (length lines)) (suc m) ≡ nat_lt (length lines) m = grind (arith, tests) in
      let taken : before ++ (line ∷ take m lines) ≡ (before ++ line ∷ []) ++ take m lines = sym (append_assoc before (line ∷ []) (take m lines)) in
      let next : number + suc m ≡ number + 1 + m = omega arith in
      ap (λ b. source_by b (before ++ (line ∷ take m lines)) (number + suc m) (drop m lines)) short
      ∙ ap (λ l. source_by (nat_lt (length lines) m) l (number + suc m) (drop m lines)) taken
      ∙ ap (λ n. source_by (nat_lt (length lines) m) ((before ++ line ∷ []) ++ take m lines) n (drop m lines)) next

  pub source_more : (left m : ℕ) → left ≡ suc m → source_rest rules at left before number (line ∷ lines) ≡ source_rest rules at m (before ++ line ∷ []) (number + 1) lines
  source_more left m is = ap (λ n. source_rest rules at n before number (line ∷ lines)) is ∙ more_left m

  abbrev stated_then : Result Stated SourceError → Result Spent Refusal
  stated_then r = stated_or at r >>= λ p. start_from whole rules (before ++ line ∷ []) p (number + 1) lines >>= spent_alone

  last_left : source_rest rules at 1 before number (line ∷ lines) ≡ stated_then (source_lines (before ++ line ∷ []))
  last_left =
      let short : nat_lt (suc (length lines)) 1 ≡ false = grind (arith, tests) in ap (λ b. source_by b (before ++ line ∷ []) (number + 1) lines) short

  pub source_said : (left : ℕ) (p : Stated) → left ≡ 1 → source_lines (before ++ line ∷ []) ≡ Ok p → source_rest rules at left before number (line ∷ lines) ≡ start_rest rules p (number + 1) lines
  source_said left p is says = ap (λ n. source_rest rules at n before number (line ∷ lines)) is ∙ last_left ∙ ap stated_then says ∙ start_alone rules (before ++ line ∷ []) p (number + 1) lines

  pub source_refused : (left : ℕ) (e : SourceError) → left ≡ 1 → source_lines (before ++ line ∷ []) ≡ Err e → source_rest rules at left before number (line ∷ lines) ≡ refused (at + e.line) (fault.BadSource e.fault)
  source_refused left e is says = ap (λ n. source_rest rules at n before number (line ∷ lines)) is ∙ last_left ∙ ap stated_then says

-- the input ends within the source lines
pub source_short : (rules : Rules) (at left : ℕ) (before : List (List ℕ)) (number : ℕ) → 1 ≤ left → source_rest rules at left before number [] ≡ refused 0 fault.BadHead
source_short rules at left before number more =
    let short : nat_lt 0 left ≡ true = grind (arith, tests, more) in rw short refl

-- a line that is refused, with whatever follows it
pub refusal_given : (old : Stage) (number : ℕ) (line : List ℕ) (error : SpentError) (lines : List (List ℕ)) (meant : Result Spent Refusal) → GoesOn old number line (Err error) → rest_from old number (line ∷ lines) ≡ meant → GivesSpent meant (Err error)
refusal_given old number line (Refused at f) lines meant goes is = sym is ∙ goes lines
refusal_given old number line OutOfMemory lines meant goes is = tt
