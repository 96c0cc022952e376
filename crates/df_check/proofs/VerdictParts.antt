-- What stands after the parts of a dossier: its start, its source, their number and its head, as the grammar of dossiers has them.
use Rattle.std.proofs.Common.{◌≡◌, ℕ, zero, suc, ◌+◌, ◌-◌, ◌≤◌, ◌<◌, ◌&&◌, Bool, true, false, cond, nat_eq, List, [], ◌∷◌, ◌++◌, length, take, drop, Option, Some, None, option_map, Result, Ok, Err, bytes_eq, codes, refl, sym, ap, ap₂, ◌∙◌, subst, arith, tests, append_assoc}
use Rattle.std.proofs.lemmas.Slice.Eq.{bytes_eq-Decides}
use Rattle.df_walk.specs.declared.Rules.{Rules}
use Rattle.df_walk.specs.Paths.{WrittenPath}
use Rattle.df_lang.specs.declared.fault.SourceError.{SourceError}
use Rattle.df_lang.specs.Problems.{Stated}
use Rattle.df_lang.specs.Rules.{◌>>=◌}
use Rattle.df_matrix.specs.declared.matrix.MatrixError.{MatrixError}
use Rattle.df_matrix.specs.Limits.{limit_passed}
use Rattle.df_dossier.specs.declared.judge.Awaits.TheVariants as awaits
use Rattle.df_dossier.specs.declared.judge.DossierFault.TheVariants as fault
use Rattle.df_dossier.specs.declared.judge.Piece.TheVariants as piece
use Rattle.df_dossier.specs.Tokens.{◌>>?◌}
use Rattle.df_dossier.specs.Paths.{past}
use Rattle.df_dossier.specs.Judging.{judged, judged_or, after_source, tokens_judged}
use Rattle.df_dossier.specs.Dossiers.{Refusal, Taken, first_line, from_line, log_from, start_from, line_path, source_lines, whole}
use Rattle.df_check.specs.declared.LogFault.{LogFault}
use Rattle.df_check.specs.declared.LogFault.TheVariants.{ChainBroken, SourceDiffers}
use Rattle.df_check.specs.Entries.{unless}
use Rattle.df_check.specs.Chains.{Read}
use Rattle.df_check.specs.Judging.{Held, Opens, Opening, Runs, Running, Standing, running_on, limited, stated_by, ruled, read_or, is_place, with_start, held_with, after_judged, is_awaited, verdict_from}
use Rattle.df_check.proofs.DossierParts.{ReadLog}
use Rattle.df_check.proofs.Heard.{heard, heard_join, then_none}
use Rattle.df_check.proofs.VerdictLines.{first_heard, passed, after_log, log_heard}

-- from where a dossier begins
abbrev pub placed : Running → WrittenPath → Option Running
placed r p = passed (unless (is_place r.place p) ChainBroken) r

abbrev pub log_taken : Taken Read → Taken ReadLog
log_taken t = record { value = t.value.log; number = t.number; after = t.after }

-- what is answered from a dossier on, once its source is read
abbrev pub after_dossier : Running → Taken Read → Option ℕ
after_dossier r t = placed r t.value.start >>? λ now. after_log now (log_taken t)

abbrev pub starts : Rules → Running → Standing
starts rules r = record { awaits = awaits.From rules; held = Runs r }

module _ (rules : Rules) (source : List (List ℕ)) (r : Running) where
  abbrev begun_at : ℕ → WrittenPath → List (List ℕ) → Result (Taken Read) Refusal
  begun_at number start lines =
      log_from whole rules r.problem (number + 1) lines >>= λ log. Ok record {
        value = record { rules = rules; source = source; problem = r.problem; start = start; log = log.value };
        number = log.number;
        after = log.after;
      }

  abbrev more_at : ℕ → WrittenPath → List (List ℕ) → Option ℕ
  more_at number start lines = heard (begun_at number start lines) >>? after_dossier r

  abbrev rest_at : ℕ → List ℕ → List (List ℕ) → Option (List (List ℕ)) → Option ℕ
  rest_at number line lines o = heard (after_judged (starts rules r) number line (Some (judged_or fault.BadHead (option_map (λ rest. judged (awaits.Log rules) piece.RunFrom) o))) >>= λ after. verdict_from after (number + 1) lines)

  module _ (number : ℕ) (line : List ℕ) (lines : List (List ℕ)) where
    logged : (start : WrittenPath) (f : Option LogFault) (l : Result (Taken ReadLog) Refusal) → unless (is_place r.place start) ChainBroken ≡ f
        → (passed f r >>? λ now. heard l >>? after_log now)
        ≡ (heard (l >>= λ log. Ok record { value = record { rules = rules; source = source; problem = r.problem; start = start; log = log.value }; number = log.number; after = log.after }) >>? after_dossier r)
    logged start f (Err e) is = then_none (passed f r) _ (λ now at. refl)
    logged start f (Ok log) is = sym (ap (λ g. passed g r >>? λ now. after_log now log) is)

    started : (start : WrittenPath) (f : Option LogFault) → unless (is_place r.place start) ChainBroken ≡ f
        → heard (ruled number f r >>= (λ now. Ok (Runs now)) >>= (λ (held : Held). Ok record { awaits = awaits.Log rules; held = held }) >>= λ after. verdict_from after (number + 1) lines) ≡ more_at number start lines
    started start None is = log_heard rules r.problem (number + 1) lines r refl ∙ logged start None (log_from whole rules r.problem (number + 1) lines) is
    started start (Some f) is = logged start (Some f) (log_from whole rules r.problem (number + 1) lines) is

    by_path : (o : Option WrittenPath) → heard (read_or number fault.BadHead o >>= with_start r number >>= (λ now. Ok (Runs now)) >>= (λ (held : Held). Ok record { awaits = awaits.Log rules; held = held }) >>= λ after. verdict_from after (number + 1) lines)
        ≡ (o >>? λ start. more_at number start lines)
    by_path None = refl
    by_path (Some start) = started start (unless (is_place r.place start) ChainBroken) refl

    by_past : (o : Option (List (List ℕ))) → rest_at number line lines o ≡ ((o >>? λ tokens. line_path line) >>? λ start. more_at number start lines)
    by_past None = refl
    by_past (Some rest) = by_path (line_path line)

  pub start_heard : (number : ℕ) (lines : List (List ℕ)) → heard (verdict_from (starts rules r) number lines) ≡ (heard (start_from whole rules source r.problem number lines) >>? after_dossier r)
  start_heard number lines =
      first_heard (starts rules r) fault.BadHead (from_line whole) more_at refl
      (λ number line are. ap (λ ts. after_judged (starts rules r) number line (tokens_judged (awaits.From rules) ts)) are)
      (λ number line word tokens lines are.
      ap (λ ts. heard (after_judged (starts rules r) number line (tokens_judged (awaits.From rules) ts) >>= λ after. verdict_from after (number + 1) lines)) are
      ∙ by_past number line lines (past (codes "from") (word ∷ tokens))
      ∙ sym (ap (λ ts. (past (codes "from") ts >>? λ tokens. line_path line) >>? λ start. more_at number start lines) are))
      number lines
      ∙ sym (heard_join (first_line fault.BadHead (from_line whole) number lines) (λ start. begun_at start.number start.value start.after) (after_dossier r))

-- the source lines
after_more : (rules : Rules) (k : ℕ) → awaits.Source rules (suc k) ≡ after_source rules (suc (suc k))
after_more rules k =
    let other : nat_eq (suc (suc k)) 1 ≡ false = grind (arith, tests) in
    let less : suc (suc k) - 1 ≡ suc k = omega arith in
    sym (ap (λ b. cond b (awaits.From rules) (awaits.Source rules (suc (suc k) - 1))) other ∙ ap (awaits.Source rules) less)

abbrev pub sources : Rules → ℕ → Held → Standing
sources rules n h = record { awaits = awaits.Source rules n; held = h }

-- there aren't enough
pub few_sources : (rules : Rules) (k number : ℕ) (lines : List (List ℕ)) (h : Held) → length lines < suc k → heard (verdict_from (sources rules (suc k) h) number lines) ≡ None
few_sources rules k number [] (Opens o) few = refl
few_sources rules k number [] (Runs r) few = refl
few_sources rules zero number (line ∷ lines) h few = absurd (omega (arith, few))
few_sources rules (suc k) number (line ∷ lines) (Opens o) few =
    subst (λ a. heard (held_with (Opens o) number line (judged a piece.SourceLine) >>= (λ (held : Held). Ok record { awaits = a; held = held }) >>= λ after. verdict_from after (number + 1) lines) ≡ None) (after_more rules k)
    (few_sources rules k (number + 1) lines (Opens record { at = o.at; source = o.source ++ line ∷ [] }) (omega (arith, few)))
few_sources rules (suc k) number (line ∷ lines) (Runs r) few =
    subst (λ a. heard (held_with (Runs r) number line (judged a piece.SourceLine) >>= (λ (held : Held). Ok record { awaits = a; held = held }) >>= λ after. verdict_from after (number + 1) lines) ≡ None) (after_more rules k)
    (by_fault (unless (is_awaited r.awaited line) SourceDiffers) _ (λ now. few_sources rules k (number + 1) lines (Runs now) (omega (arith, few)))) where
      by_fault : (f : Option LogFault) (next : Running) → ((now : Running) → heard (verdict_from (sources rules (suc k) (Runs now)) (number + 1) lines) ≡ None)
          → heard (ruled number f next >>= (λ now. Ok (Runs now)) >>= (λ (held : Held). Ok record { awaits = awaits.Source rules (suc k); held = held }) >>= λ after. verdict_from after (number + 1) lines) ≡ None
      by_fault None next later = later next
      by_fault (Some f) next later = refl

-- where no limit is passed
abbrev pub within_limits : Option MatrixError → Running → Option Running
within_limits None r = Some r
within_limits (Some e) r = None

abbrev pub opening : List (List ℕ) → Option Running
opening source = heard (source_lines source) >>? λ p. within_limits (limit_passed p) (running_on source p)

opened_heard : (rules : Rules) (o : Opening) (number : ℕ) (lines : List (List ℕ)) (s : Result Stated SourceError)
    → heard (stated_by o number s >>= (λ (held : Held). Ok record { awaits = awaits.From rules; held = held }) >>= λ after. verdict_from after (number + 1) lines)
    ≡ ((heard s >>? λ p. within_limits (limit_passed p) (running_on o.source p)) >>? λ r. heard (verdict_from (starts rules r) (number + 1) lines))
opened_heard rules o number lines (Err e) = refl
opened_heard rules o number lines (Ok p) = by_limit (limit_passed p) where
  by_limit : (l : Option MatrixError) → heard (limited number (running_on o.source p) l >>= (λ (held : Held). Ok record { awaits = awaits.From rules; held = held }) >>= λ after. verdict_from after (number + 1) lines)
      ≡ (within_limits l (running_on o.source p) >>? λ r. heard (verdict_from (starts rules r) (number + 1) lines))
  by_limit None = refl
  by_limit (Some e) = refl

-- there are enough, of the first dossier
pub first_sources : (rules : Rules) (k number : ℕ) (lines : List (List ℕ)) (o : Opening) → suc k ≤ length lines
    → heard (verdict_from (sources rules (suc k) (Opens o)) number lines) ≡ (opening (o.source ++ take (suc k) lines) >>? λ r. heard (verdict_from (starts rules r) (number + suc k) (drop (suc k) lines)))
first_sources rules k number [] o enough = absurd (omega (arith, enough))
first_sources rules zero number (line ∷ lines) o enough =
    let next : Opening = record { at = o.at; source = o.source ++ line ∷ [] } in
    opened_heard rules next number lines (source_lines next.source)
first_sources rules (suc k) number (line ∷ lines) o enough =
    let next : Opening = record { at = o.at; source = o.source ++ line ∷ [] } in
    let place : number + 1 + suc k ≡ number + suc (suc k) = omega arith in
    subst (λ a. heard (held_with (Opens o) number line (judged a piece.SourceLine) >>= (λ (held : Held). Ok record { awaits = a; held = held }) >>= λ after. verdict_from after (number + 1) lines)
    ≡ (opening (o.source ++ line ∷ take (suc k) lines) >>? λ r. heard (verdict_from (starts rules r) (number + suc (suc k)) (drop (suc k) lines)))) (after_more rules k)
    (first_sources rules k (number + 1) lines next (omega (arith, enough))
    ∙ ap₂ (λ n source. opening source >>? λ r. heard (verdict_from (starts rules r) n (drop (suc k) lines))) place (append_assoc o.source (line ∷ []) (take (suc k) lines)))

-- and of a later one: they are the lines that are awaited
abbrev pub are_awaited : List (List ℕ) → List (List ℕ) → Bool
are_awaited [] [] = true
are_awaited [] (line ∷ lines) = false
are_awaited (first ∷ later) [] = false
are_awaited (first ∷ later) (line ∷ lines) = bytes_eq line first && are_awaited later lines

pub awaited_are : (later lines : List (List ℕ)) → are_awaited later lines ≡ true → lines ≡ later
awaited_are [] [] h = refl
awaited_are [] (line ∷ lines) h = absurd (cc)
awaited_are (first ∷ later) [] h = absurd (cc)
awaited_are (first ∷ later) (line ∷ lines) h = by_line (awaited_are later lines) (bytes_eq line first) refl h where
  by_line : (are_awaited later lines ≡ true → lines ≡ later) → (b : Bool) → bytes_eq line first ≡ b → (b && are_awaited later lines) ≡ true → line ∷ lines ≡ first ∷ later
  by_line rest true is g = ap₂ ◌∷◌ ((bytes_eq-Decides line first).0 is) (rest g)
  by_line rest false is g = absurd (cc)

pub same_awaited : (lines : List (List ℕ)) → are_awaited lines lines ≡ true
same_awaited [] = refl
same_awaited (line ∷ lines) = ap (λ b. b && are_awaited lines lines) ((bytes_eq-Decides line line).1 refl) ∙ same_awaited lines

pub later_sources : (rules : Rules) (k number : ℕ) (lines later : List (List ℕ)) (r : Running) → suc k ≤ length lines → length later ≡ suc k
    → heard (verdict_from (sources rules (suc k) (Runs (record r { awaited = later }))) number lines)
    ≡ cond (are_awaited later (take (suc k) lines)) (heard (verdict_from (starts rules (record r { awaited = [] })) (number + suc k) (drop (suc k) lines))) None
later_sources rules k number [] later r enough long = absurd (omega (arith, enough))
later_sources rules k number (line ∷ lines) [] r enough long = absurd (omega (arith, long))
later_sources rules zero number (line ∷ lines) (first ∷ []) r enough long = by_line (bytes_eq line first) where
  by_line : (b : Bool) → heard (ruled number (unless b SourceDiffers) (record r { awaited = [] }) >>= (λ now. Ok (Runs now)) >>= (λ (held : Held). Ok record { awaits = awaits.From rules; held = held }) >>= λ after. verdict_from after (number + 1) lines)
      ≡ cond (b && true) (heard (verdict_from (starts rules (record r { awaited = [] })) (number + 1) lines)) None
  by_line true = refl
  by_line false = refl
later_sources rules zero number (line ∷ lines) (first ∷ second ∷ later) r enough long = absurd (omega (arith, long))
later_sources rules (suc k) number (line ∷ lines) (first ∷ later) r enough long =
    let place : number + 1 + suc k ≡ number + suc (suc k) = omega arith in
    let next = later_sources rules k (number + 1) lines later r (omega (arith, enough)) (omega (arith, long)) in
    subst (λ a. heard (ruled number (unless (bytes_eq line first) SourceDiffers) (record r { awaited = later }) >>= (λ now. Ok (Runs now)) >>= (λ (held : Held). Ok record { awaits = a; held = held }) >>= λ after. verdict_from after (number + 1) lines)
    ≡ cond (bytes_eq line first && are_awaited later (take (suc k) lines)) (heard (verdict_from (starts rules (record r { awaited = [] })) (number + suc (suc k)) (drop (suc k) lines))) None) (after_more rules k)
    (by_line (bytes_eq line first) (next ∙ ap (λ n. cond (are_awaited later (take (suc k) lines)) (heard (verdict_from (starts rules (record r { awaited = [] })) n (drop (suc k) lines))) None) place)) where
      by_line : (b : Bool) → heard (verdict_from (sources rules (suc k) (Runs (record r { awaited = later }))) (number + 1) lines) ≡ cond (are_awaited later (take (suc k) lines)) (heard (verdict_from (starts rules (record r { awaited = [] })) (number + suc (suc k)) (drop (suc k) lines))) None
          → heard (ruled number (unless b SourceDiffers) (record r { awaited = later }) >>= (λ now. Ok (Runs now)) >>= (λ (held : Held). Ok record { awaits = awaits.Source rules (suc k); held = held }) >>= λ after. verdict_from after (number + 1) lines)
          ≡ cond (b && are_awaited later (take (suc k) lines)) (heard (verdict_from (starts rules (record r { awaited = [] })) (number + suc (suc k)) (drop (suc k) lines))) None
      by_line true same = same
      by_line false same = refl
