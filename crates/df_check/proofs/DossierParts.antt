-- What a dossier that is read has of its lines: its source is some of them and states its problem, and each item of its log is one.
use Rattle.std.proofs.Common.{◌≡◌, ℕ, ◌+◌, ◌≤◌, Bool, true, false, cond, List, [], ◌∷◌, length, take, drop, Option, Some, None, option_map, Result, Ok, Err, nat_lt, codes, refl, sym, ap, ◌∙◌, subst, arith, tests}
use Rattle.std.proofs.lemmas.List.{length-take, length-drop}
use Rattle.df_io.specs.declared.bytes.TheConstants.{MOST_BYTES}
use Rattle.df_io.specs.Lines.{lines_of}
use Rattle.df_walk.specs.declared.Rules.{Rules}
use Rattle.df_walk.specs.Paths.{WrittenPath}
use Rattle.df_lang.specs.declared.fault.SourceError.{SourceError}
use Rattle.df_lang.specs.Problems.{Stated, IsStated}
use Rattle.df_lang.specs.Rules.{◌>>=◌}
use Rattle.df_lang.proofs.RulesKept.{bind_kept}
use Rattle.df_lang.proofs.SourcesKept.{few_lines, lines_kept}
use Rattle.df_dossier.specs.declared.judge.DossierFault.{DossierFault}
use Rattle.df_dossier.specs.declared.judge.DossierFault.TheVariants as fault
use Rattle.df_dossier.specs.Dossiers.{refused, Taken, Ending, Log, has_tokens, said_or, first_line, head_line, count_line, from_line, begins, end_line, item_line, item_before, log_from, start_from, stated_or, source_from, dossier_from, source_lines, whole}
use Rattle.df_check.specs.Chains.{Read, IsChain}

-- fewer lines follow the first one with tokens
first_less : {A : Type 0} (f : DossierFault) (read : List ℕ → Option A) (number : ℕ) (lines : List (List ℕ)) (t : Taken A) → first_line f read number lines ≡ Ok t → length t.after + 1 ≤ length lines
first_less f read number [] t h = absurd (cc)
first_less {A} f read number (line ∷ lines) t h = by_tokens (first_less f read (number + 1) lines t) (has_tokens line) h
  where
    told : (o : Option A) → said_or f number lines o ≡ Ok t → length t.after + 1 ≤ length (line ∷ lines)
    told None g = absurd (cc)
    told (Some x) g =
        let is : record { value = x; number = number; after = lines } ≡ t = cc in
        subst (λ u. length u.after + 1 ≤ length (line ∷ lines)) is (omega arith)

    by_tokens : (first_line f read (number + 1) lines ≡ Ok t → length t.after + 1 ≤ length lines) → (b : Bool) → cond b (said_or f number lines (read line)) (first_line f read (number + 1) lines) ≡ Ok t → length t.after + 1 ≤ length (line ∷ lines)
    by_tokens later true g = told (read line) g
    by_tokens later false g = omega (arith, later g)

abbrev pub ReadLog : Type 0
ReadLog = Log WrittenPath (List (List ℕ))

-- each item of a log is a line, and so is its end
abbrev LogLess : List (List ℕ) → Taken ReadLog → Type 0
LogLess lines t = length t.value.items + length t.after + 1 ≤ length lines

log_less : (rules : Rules) (p : Stated) (number : ℕ) (lines : List (List ℕ)) (t : Taken ReadLog) → log_from whole rules p number lines ≡ Ok t → LogLess lines t
log_less rules p number [] t h = absurd (cc)
log_less rules p number (line ∷ lines) t h = by_line (log_less rules p (number + 1) lines) (has_tokens line) (begins (codes "end") line) h
  where
    told : (o : Option (Ending WrittenPath)) → said_or fault.BadEnd number lines (option_map (λ end. record { items = []; end = end }) o) ≡ Ok t → LogLess (line ∷ lines) t
    told None g = absurd (cc)
    told (Some end) g =
        let is : record { value = record { items = []; end = end }; number = number; after = lines } ≡ t = cc in
        subst (LogLess (line ∷ lines)) is (omega arith)

    by_line : ((u : Taken ReadLog) → log_from whole rules p (number + 1) lines ≡ Ok u → LogLess lines u) → (a b : Bool)
        → cond a (cond b (said_or fault.BadEnd number lines (option_map (λ end. record { items = []; end = end }) (end_line whole line))) (item_line whole rules p number line >>= λ item. log_from whole rules p (number + 1) lines >>= λ more. Ok (item_before item more))) (log_from whole rules p (number + 1) lines) ≡ Ok t
        → LogLess (line ∷ lines) t
    by_line later true true g = told (end_line whole line) g
    by_line later true false g =
        let item = bind_kept (item_line whole rules p number line) _ t g in
        let more = bind_kept (log_from whole rules p (number + 1) lines) _ t item.2 in
        let is : item_before item.0 more.0 ≡ t = let e = more.2 in cc in
        subst (LogLess (line ∷ lines)) is (omega (arith, later more.0 more.1))
    by_line later false b g = omega (arith, later t g)

-- what is known of a dossier of these lines, but of its source
pub record Rests (lines : List (List ℕ)) (source : List (List ℕ)) (p : Stated) (t : Taken Read) : Type 0 where
  pub source_is : t.value.source ≡ source
  pub problem_is : t.value.problem ≡ p
  pub less : length t.value.log.items + length t.after + 1 ≤ length lines

pub rests : (rules : Rules) (source : List (List ℕ)) (p : Stated) (number : ℕ) (lines : List (List ℕ)) (t : Taken Read) → start_from whole rules source p number lines ≡ Ok t → Rests lines source p t
rests rules source p number lines t h =
    let start = bind_kept (first_line fault.BadHead (from_line whole) number lines) _ t h in
    let log = bind_kept (log_from whole rules p (start.0.number + 1) start.0.after) _ t start.2 in
    let is : record { value = record { rules = rules; source = source; problem = p; start = start.0.value; log = log.0.value }; number = log.0.number; after = log.0.after } ≡ t = let e = log.2 in cc in
    let first = first_less fault.BadHead (from_line whole) number lines start.0 start.1 in
    let more = log_less rules p (start.0.number + 1) start.0.after log.0 log.1 in
    subst (Rests lines source p) is record { source_is = refl; problem_is = refl; less = omega (arith, first, more) }

-- what is known of a dossier with so many source lines, which are the first of these lines
pub record Sourced (n : ℕ) (lines : List (List ℕ)) (t : Taken Read) : Type 0 where
  pub source_is : t.value.source ≡ take n lines
  pub enough : n ≤ length lines
  pub stated : source_lines t.value.source ≡ Ok t.value.problem
  pub less : length t.value.log.items + length t.after + 1 ≤ length lines

pub source_parts : (rules : Rules) (number n : ℕ) (lines : List (List ℕ)) (t : Taken Read) → source_from whole rules number n lines ≡ Ok t → Sourced n lines t
source_parts rules number n lines t h = by_length (nat_lt (length lines) n) refl h
  where
    stated : (r : Result Stated SourceError) (p : Stated) → stated_or number r ≡ Ok p → r ≡ Ok p
    stated (Ok q) p g = cc
    stated (Err e) p g = absurd (cc)

    by_length : (b : Bool) → nat_lt (length lines) n ≡ b
        → cond b (refused 0 fault.BadHead) (stated_or number (source_lines (take n lines)) >>= λ p. start_from whole rules (take n lines) p (number + 1 + n) (drop n lines)) ≡ Ok t → Sourced n lines t
    by_length true is g = absurd (cc)
    by_length false is g =
        let p = bind_kept (stated_or number (source_lines (take n lines))) _ t g in
        let rest = rests rules (take n lines) p.0 (number + 1 + n) (drop n lines) t p.2 in
        record {
          source_is = rest.source_is;
          enough = grind (arith, tests);
          stated = ap source_lines rest.source_is ∙ stated (source_lines (take n lines)) p.0 p.1 ∙ ap Ok (sym rest.problem_is);
          less = omega (arith, rest.less, length-drop n lines);
        }

-- what is known of a dossier of these lines
pub record Parts (lines : List (List ℕ)) (t : Taken Read) : Type 0 where
  pub stated : source_lines t.value.source ≡ Ok t.value.problem
  pub few : length t.value.source ≤ length lines
  pub less : length t.value.log.items + length t.after + 1 ≤ length lines

pub dossier_parts : (number : ℕ) (lines : List (List ℕ)) (t : Taken Read) → dossier_from whole number lines ≡ Ok t → Parts lines t
dossier_parts number lines t h =
    let head = bind_kept (first_line fault.BadHead head_line number lines) _ t h in
    let count = bind_kept (first_line fault.BadHead count_line (head.0.number + 1) head.0.after) _ t head.2 in
    let parts = source_parts head.0.value count.0.number count.0.value count.0.after t count.2 in
    let first = first_less fault.BadHead head_line number lines head.0 head.1 in
    let second = first_less fault.BadHead count_line (head.0.number + 1) head.0.after count.0 count.1 in
    record {
      stated = parts.stated;
      few = omega (arith, length-take count.0.value count.0.after, ap (λ (l : List (List ℕ)). length l) parts.source_is, first, second);
      less = omega (arith, parts.less, first, second);
    }

pub chain_kept : (bytes : List ℕ) → length bytes ≤ MOST_BYTES → (c : IsChain (lines_of bytes)) → IsStated c.first.problem
chain_kept bytes few c =
    let parts = dossier_parts 1 (lines_of bytes) c.dossiers.0 c.dossiers.1 in
    let kept = lines_kept c.dossiers.0.value.source c.dossiers.0.value.problem (omega (arith, few, few_lines bytes, parts.few)) parts.stated in
    subst (λ (d : Read). IsStated d.problem) c.dossiers.2 kept
