-- What a dossier states that ended spent keeps the rules of problems: its source lines are lines of the input.
use Rattle.std.proofs.Common.{◌≡◌, ℕ, ◌+◌, ◌≤◌, Bool, true, false, cond, List, [], ◌∷◌, length, take, drop, Option, Some, None, Result, Ok, Err, nat_lt, sym, ap, ◌∙◌, subst, arith}
use Rattle.std.proofs.lemmas.List.{length-take}
use Rattle.df_io.specs.declared.bytes.TheConstants.{MOST_BYTES}
use Rattle.df_io.specs.Lines.{lines_of}
use Rattle.df_walk.specs.declared.Rules.{Rules}
use Rattle.df_walk.specs.Paths.{WrittenPath}
use Rattle.df_lang.specs.declared.fault.SourceError.{SourceError}
use Rattle.df_lang.specs.Problems.{Stated, IsStated}
use Rattle.df_lang.specs.Rules.{◌>>=◌}
use Rattle.df_lang.proofs.RulesKept.{bind_kept}
use Rattle.df_lang.proofs.SourcesKept.{few_lines, lines_kept}
use Rattle.df_dossier.specs.declared.judge.DossierFault.{DossierFault}
use Rattle.df_dossier.specs.declared.judge.DossierFault.TheVariants as fault
use Rattle.df_dossier.specs.declared.spent.Spent.{Spent}
use Rattle.df_dossier.specs.Dossiers.{refused, Taken, Dossier, has_tokens, said_or, first_line, head_line, count_line, from_line, log_from, start_from, stated_or, source_from, dossier_from, source_lines, whole}
use Rattle.df_dossier.specs.Spent.{nothing_after, spent_end, spent_alone, spent}

-- lines that follow a line are no more than with it
said_after : {A : Type 0} (f : DossierFault) (number : ℕ) (after : List (List ℕ)) (o : Option A) (t : Taken A) → said_or f number after o ≡ Ok t → t.after ≡ after
said_after f number after None t h = absurd (cc)
said_after f number after (Some x) t h =
    let is : record { value = x; number = number; after = after } ≡ t = cc in
    ap (λ u. u.after) (sym is)

first_after : {A : Type 0} (f : DossierFault) (read : List ℕ → Option A) (number : ℕ) (lines : List (List ℕ)) (t : Taken A) → first_line f read number lines ≡ Ok t → length t.after ≤ length lines
first_after f read number [] t h = absurd (cc)
first_after {A} f read number (line ∷ lines) t h = by (first_after f read (number + 1) lines t) (has_tokens line) h
  where
    by : (first_line f read (number + 1) lines ≡ Ok t → length t.after ≤ length lines) → (b : Bool) → cond b (said_or f number lines (read line)) (first_line f read (number + 1) lines) ≡ Ok t → length t.after ≤ length (line ∷ lines)
    by later true g = omega (arith, ap (λ (l : List (List ℕ)). length l) (said_after f number lines (read line) t g))
    by later false g = omega (arith, later g)

stated_is : (number : ℕ) (r : Result Stated SourceError) (p : Stated) → stated_or number r ≡ Ok p → r ≡ Ok p
stated_is number (Ok q) p h = cc
stated_is number (Err e) p h = absurd (cc)

-- the problem of a dossier is that of its source lines, which are some of the lines
abbrev IsOfLines : ℕ → Stated → Type 0
IsOfLines most p = (lines : List (List ℕ)) × (length lines ≤ most) × (source_lines lines ≡ Ok p)

start_problem : (rules : Rules) (source : List (List ℕ)) (p : Stated) (number : ℕ) (lines : List (List ℕ)) (t : Taken (Dossier Stated WrittenPath (List (List ℕ)))) → start_from whole rules source p number lines ≡ Ok t → t.value.problem ≡ p
start_problem rules source p number lines t h =
    let start = bind_kept (first_line fault.BadHead (from_line whole) number lines) _ t h in
    let log = bind_kept (log_from whole rules p (start.0.number + 1) start.0.after) _ t start.2 in
    let is : record { value = record { rules = rules; source = source; problem = p; start = start.0.value; log = log.0.value }; number = log.0.number; after = log.0.after } ≡ t = let e = log.2 in cc in
    ap (λ (u : Taken (Dossier Stated WrittenPath (List (List ℕ)))). u.value.problem) (sym is)

source_of : (rules : Rules) (number n : ℕ) (lines : List (List ℕ)) (t : Taken (Dossier Stated WrittenPath (List (List ℕ)))) → source_from whole rules number n lines ≡ Ok t → IsOfLines (length lines) t.value.problem
source_of rules number n lines t h = by (nat_lt (length lines) n) h
  where
    by : (b : Bool) → cond b (refused 0 fault.BadHead) (stated_or number (source_lines (take n lines)) >>= λ p. start_from whole rules (take n lines) p (number + 1 + n) (drop n lines)) ≡ Ok t → IsOfLines (length lines) t.value.problem
    by true g = absurd (cc)
    by false g =
        let p = bind_kept (stated_or number (source_lines (take n lines))) _ t g in
        let same = start_problem rules (take n lines) p.0 (number + 1 + n) (drop n lines) t p.2 in
        (take n lines, omega (arith, length-take n lines), stated_is number (source_lines (take n lines)) p.0 p.1 ∙ ap Ok (sym same))

dossier_of : (lines : List (List ℕ)) (t : Taken (Dossier Stated WrittenPath (List (List ℕ)))) → dossier_from whole 1 lines ≡ Ok t → IsOfLines (length lines) t.value.problem
dossier_of lines t h =
    let head = bind_kept (first_line fault.BadHead head_line 1 lines) _ t h in
    let count = bind_kept (first_line fault.BadHead count_line (head.0.number + 1) head.0.after) _ t head.2 in
    let found = source_of head.0.value count.0.number count.0.value count.0.after t count.2 in
    let few = first_after fault.BadHead head_line 1 lines head.0 head.1 in
    let fewer = first_after fault.BadHead count_line (head.0.number + 1) head.0.after count.0 count.1 in
    (found.0, omega (arith, found.1, few, fewer), found.2)

-- a spent dossier gives its problem
nothing_is : {A : Type 0} (x : A) (number : ℕ) (lines : List (List ℕ)) (y : A) → nothing_after x number lines ≡ Ok y → x ≡ y
nothing_is x number [] y h = cc
nothing_is {A} x number (line ∷ lines) y h = by (nothing_is x (number + 1) lines y) (has_tokens line) h
  where
    by : (nothing_after x (number + 1) lines ≡ Ok y → x ≡ y) → (b : Bool) → cond b (refused number fault.Trailing) (nothing_after x (number + 1) lines) ≡ Ok y → x ≡ y
    by later true g = absurd (cc)
    by later false g = later g

end_problem : (rules : Rules) (p : Stated) (next : Option WrittenPath) (number : ℕ) (after : List (List ℕ)) (d : Spent) → spent_end rules p next number after ≡ Ok d → d.problem ≡ p
end_problem rules p None number after d h = absurd (cc)
end_problem rules p (Some path) number after d h = ap (λ (e : Spent). e.problem) (sym (nothing_is record { problem = p; path = path; rules = rules } (number + 1) after d h))

pub spent_kept : (bytes : List ℕ) (d : Spent) → length bytes ≤ MOST_BYTES → spent bytes ≡ Ok d → IsStated d.problem
spent_kept bytes d few h =
    let t = bind_kept (dossier_from whole 1 (lines_of bytes)) spent_alone d h in
    let found = dossier_of (lines_of bytes) t.0 t.1 in
    let same = end_problem t.0.value.rules t.0.value.problem t.0.value.log.end.next t.0.number t.0.after d t.2 in
    subst IsStated (sym same) (lines_kept found.0 t.0.value.problem (omega (arith, few, few_lines bytes, found.1)) found.2)
