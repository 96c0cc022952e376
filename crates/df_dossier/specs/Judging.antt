-- The lines of dossiers in their order: what may come next, and what a line is.
use Rattle.std.specs.Prelude.{◌==◌, ℕ, ◌-◌, Bool, true, false, List, [], ◌∷◌, if◌then◌else◌, Option, Some, None, option_map, codes, bytes_eq}
use Rattle.df_io.specs.Lines.{tokens_of}
use Rattle.df_walk.specs.declared.Rules.{Rules}
use Rattle.df_walk.specs.declared.Rules.TheVariants.{Plain, Divisor}
use Rattle.df_dossier.specs.declared.numbers.TheConstants.{MOST_COUNT}
use Rattle.df_dossier.specs.declared.judge.DossierFault.{DossierFault}
use Rattle.df_dossier.specs.declared.judge.DossierFault.TheVariants as fault
use Rattle.df_dossier.specs.declared.judge.Piece.{Piece}
use Rattle.df_dossier.specs.declared.judge.Piece.TheVariants as piece
use Rattle.df_dossier.specs.declared.judge.Judged.{Judged}
use Rattle.df_dossier.specs.declared.judge.Awaits.{Awaits}
use Rattle.df_dossier.specs.declared.judge.Awaits.TheVariants as awaits
use Rattle.df_dossier.specs.Tokens.{◌>>?◌, number_within, first_then, ending}
use Rattle.df_dossier.specs.Entries.{entry_read}
use Rattle.df_dossier.specs.Paths.{past}

abbrev pub judged : Awaits → Piece → Judged
judged next piece = record { next = next; piece = piece }

-- a line that breaks a rule: nothing more comes
abbrev pub bad : DossierFault → Judged
bad fault = judged (awaits.Nothing fault) (piece.Bad fault)

-- what a line is, or this fault
abbrev pub judged_or : DossierFault → Option Judged → Judged
judged_or fault None = bad fault
judged_or fault (Some j) = j

-- the rules that a head line names, by its token
abbrev pub rules_named : List ℕ → Option Rules
rules_named token = if bytes_eq token (codes "1") then Some Plain else (if bytes_eq token (codes "2") then Some Divisor else None)

-- a head line: `dossier 1` or `dossier 2`
abbrev pub head_of : List (List ℕ) → Option Rules
head_of tokens = past (codes "dossier") tokens >>? λ rest. first_then rest (λ token more. rules_named token >>? λ rules. ending more rules)

-- the line with the number of source lines, at least 1
abbrev pub count_of : List (List ℕ) → Option ℕ
count_of tokens = past (codes "source") tokens >>? λ rest. first_then rest (λ token more. number_within 1 MOST_COUNT token >>? λ n. ending more n)

-- what comes after one of so many source lines
abbrev pub after_source : Rules → ℕ → Awaits
after_source rules n = if n == 1 then awaits.From rules else awaits.Source rules (n - 1)

-- a count, and the tokens behind it
pub record Counted : Type 0 where
  pub n : ℕ
  pub more : List (List ℕ)

-- a count behind a word
abbrev pub named_count : List ℕ → List (List ℕ) → Option Counted
named_count word tokens = past word tokens >>? λ rest. first_then rest (λ token more. option_map (λ n. record { n = n; more = more }) (number_within 0 MOST_COUNT token))

abbrev pub finished_of : List (List ℕ) → Option Piece
finished_of tokens = named_count (codes "designs") tokens >>? λ designs. named_count (codes "nodes") designs.more >>? λ nodes. ending nodes.more (piece.End true designs.n nodes.n)

abbrev pub spent_of : List (List ℕ) → Option Piece
spent_of tokens = named_count (codes "designs") tokens >>? λ designs. named_count (codes "nodes") designs.more >>? λ nodes. option_map (λ path. piece.End false designs.n nodes.n) (past (codes "next") nodes.more)

-- an end line, by the tokens behind `end`; the path of a spent one is judged elsewhere
abbrev pub end_of : List (List ℕ) → Option Piece
end_of tokens = first_then tokens (λ token rest. if bytes_eq token (codes "finished") then finished_of rest else (if bytes_eq token (codes "spent") then spent_of rest else None))

-- a head line
abbrev pub head_judged : List (List ℕ) → Judged
head_judged tokens = judged_or fault.BadHead (option_map (λ rules. judged (awaits.Count rules) (piece.Head rules)) (head_of tokens))

-- the line with the number of source lines
abbrev pub count_judged : Rules → List (List ℕ) → Judged
count_judged rules tokens = judged_or fault.BadHead (option_map (λ n. judged (awaits.Source rules n) (piece.SourceCount n)) (count_of tokens))

-- a `from` line; its path is judged elsewhere
abbrev pub from_judged : Rules → List (List ℕ) → Judged
from_judged rules tokens = judged_or fault.BadHead (option_map (λ rest. judged (awaits.Log rules) piece.RunFrom) (past (codes "from") tokens))

-- a later line: a design line, whose blocks are judged elsewhere, an end line, or an entry line
abbrev pub log_judged : Rules → List ℕ → List (List ℕ) → Judged
log_judged rules first tokens =
    if bytes_eq first (codes "design") then judged (awaits.Log rules) piece.Design else
    (if bytes_eq first (codes "end") then judged_or fault.BadEnd (option_map (judged awaits.Next) (end_of tokens)) else
    judged_or fault.BadEntry (option_map (λ e. judged (awaits.Log rules) (piece.Entry e)) (entry_read rules (first ∷ tokens))))

-- a line of which tokens are looked at: none where it has no token
abbrev pub tokens_judged : Awaits → List (List ℕ) → Option Judged
tokens_judged expected [] = None
tokens_judged awaits.First (first ∷ tokens) = Some (head_judged (first ∷ tokens))
tokens_judged awaits.Next (first ∷ tokens) = Some (head_judged (first ∷ tokens))
tokens_judged (awaits.Count rules) (first ∷ tokens) = Some (count_judged rules (first ∷ tokens))
tokens_judged (awaits.From rules) (first ∷ tokens) = Some (from_judged rules (first ∷ tokens))
tokens_judged (awaits.Log rules) (first ∷ tokens) = Some (log_judged rules first tokens)
tokens_judged (awaits.Source rules n) (first ∷ tokens) = None
tokens_judged (awaits.Nothing f) (first ∷ tokens) = None

-- what a line is where this is awaited: each of the source lines counts, and after a fault each line is that fault
abbrev pub line_judged : Awaits → List ℕ → Option Judged
line_judged (awaits.Source rules n) line = Some (judged (after_source rules n) piece.SourceLine)
line_judged (awaits.Nothing f) line = Some (bad f)
line_judged awaits.First line = tokens_judged awaits.First (tokens_of line)
line_judged awaits.Next line = tokens_judged awaits.Next (tokens_of line)
line_judged (awaits.Count rules) line = tokens_judged (awaits.Count rules) (tokens_of line)
line_judged (awaits.From rules) line = tokens_judged (awaits.From rules) (tokens_of line)
line_judged (awaits.Log rules) line = tokens_judged (awaits.Log rules) (tokens_of line)

-- what the end of the input is where this is awaited: a whole dossier stands before it, or a fault
abbrev pub end_judged : Awaits → Judged
end_judged awaits.First = bad fault.BadHead
end_judged (awaits.Count rules) = bad fault.BadHead
end_judged (awaits.Source rules n) = bad fault.BadHead
end_judged (awaits.From rules) = bad fault.BadHead
end_judged (awaits.Log rules) = bad fault.BadEnd
end_judged awaits.Next = judged awaits.Next piece.Done
end_judged (awaits.Nothing f) = bad f

-- what stays awaited, where a line was none
abbrev pub next_of : Awaits → Option Judged → Awaits
next_of now None = now
next_of now (Some j) = j.next

-- a `from` line is awaited: the source lines before it are whole
abbrev pub awaits_from : Awaits → Bool
awaits_from awaits.First = false
awaits_from (awaits.Count rules) = false
awaits_from (awaits.Source rules n) = false
awaits_from (awaits.From rules) = true
awaits_from (awaits.Log rules) = false
awaits_from awaits.Next = false
awaits_from (awaits.Nothing f) = false
