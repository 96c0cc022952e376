-- Entry lines, both ways.
use Rattle.std.specs.Prelude.{◌==◌, ℕ, Bool, ◌&&◌, List, [], ◌∷◌, ◌++◌, length, nat_lt, if◌then◌else◌, Option, Some, None, option_map, ℤ, pos, neg_ℤ, codes, decimal, bytes_eq}
use Rattle.std.specs.List.{list_all, flat_map}
use Rattle.std.specs.Fmt.{signed_decimal}
use Rattle.df_io.specs.Lines.{tokens_of}
use Rattle.df_io.specs.Joined.{spaced}
use Rattle.df_walk.specs.declared.Rules.{Rules}
use Rattle.df_walk.specs.declared.Rules.TheVariants.{Plain, Divisor}
use Rattle.df_walk.specs.declared.Entry.{Entry}
use Rattle.df_walk.specs.declared.Entry.TheVariants.{Branch, Over, Under, Settled, Residue, Cut}
use Rattle.df_walk.specs.declared.CutRow.{CutRow}
use Rattle.df_dossier.specs.declared.entries.EntryWord.{EntryWord}
use Rattle.df_dossier.specs.declared.entries.EntryWord.TheVariants as word
use Rattle.df_dossier.specs.declared.numbers.TheConstants.{MOST_NUMBER}
use Rattle.df_dossier.specs.declared.entries.TheConstants.{MOST_ROWS, MOST_WEIGHT}
use Rattle.df_dossier.specs.Tokens.{◌>>?◌, number_within, place_of, first_then, ending}

-- the word with which an entry line begins
abbrev pub entry_word : List ℕ → Option EntryWord
entry_word token =
    if bytes_eq token (codes "branch") then Some word.Branch else
    (if bytes_eq token (codes "over") then Some word.Over else
    (if bytes_eq token (codes "under") then Some word.Under else
    (if bytes_eq token (codes "settled") then Some word.Settled else
    (if bytes_eq token (codes "residue") then Some word.Residue else
    (if bytes_eq token (codes "cut") then Some word.Cut else None)))))

-- one number of a column or a row
abbrev pub one_place : List (List ℕ) → Option ℕ
one_place tokens = first_then tokens (λ token rest. place_of token >>? λ n. ending rest n)

-- a row and a divisor, which is at least 2
abbrev pub residue_of : List (List ℕ) → Option Entry
residue_of tokens = first_then tokens (λ first rest. place_of first >>? λ row. first_then rest (λ second more. number_within 2 MOST_NUMBER second >>? λ m. ending more (Residue row m)))

-- the size of a weight
abbrev pub weight_size : List ℕ → Option ℕ
weight_size token = number_within 1 MOST_WEIGHT token

-- a weight: its size, behind a `-` where it is negative
abbrev pub weight_of : List ℕ → Option ℤ
weight_of [] = None
weight_of (b ∷ bs) = if b == 45 then option_map (λ n. neg_ℤ (pos n)) (weight_size bs) else option_map pos (weight_size (b ∷ bs))

-- one row more may follow: there is room for it, and it is after each
abbrev pub may_follow : List CutRow → ℕ → Bool
may_follow ws row = nat_lt (length ws) MOST_ROWS && list_all (λ w. nat_lt w.row row) ws

-- the weighted rows so far and those of these tokens, at least one together
unfoldable pub cut_from : List CutRow → List (List ℕ) → Option (List CutRow)
cut_from ws [] = if nat_lt 0 (length ws) then Some ws else None
cut_from ws (weight ∷ []) = None
cut_from ws (weight ∷ row ∷ tokens) =
    weight_of weight >>? λ z. place_of row >>? λ r. if may_follow ws r then cut_from (ws ++ record { weight = z; row = r } ∷ []) tokens else None

-- an entry by its word: a residue and a cut stand in dossiers of the divisor's rules alone
abbrev pub entry_after : Rules → EntryWord → List (List ℕ) → Option Entry
entry_after rules word.Branch tokens = option_map Branch (one_place tokens)
entry_after rules word.Over tokens = option_map Over (one_place tokens)
entry_after rules word.Under tokens = option_map Under (one_place tokens)
entry_after rules word.Settled tokens = ending tokens Settled
entry_after Plain word.Residue tokens = None
entry_after Plain word.Cut tokens = None
entry_after Divisor word.Residue tokens = residue_of tokens
entry_after Divisor word.Cut tokens = option_map (λ ws. Cut record { items = ws }) (cut_from [] tokens)

-- the entry of a line by its tokens
abbrev pub entry_read : Rules → List (List ℕ) → Option Entry
entry_read rules tokens = first_then tokens (λ first rest. entry_word first >>? λ w. entry_after rules w rest)

-- the entry of a line
abbrev pub entry_of : Rules → List ℕ → Option Entry
entry_of rules line = entry_read rules (tokens_of line)

-- the tokens of a weighted row
abbrev pub row_tokens : CutRow → List (List ℕ)
row_tokens w = signed_decimal w.weight ∷ decimal w.row ∷ []

-- the tokens of an entry
abbrev pub entry_tokens : Entry → List (List ℕ)
entry_tokens (Branch column) = codes "branch" ∷ decimal column ∷ []
entry_tokens (Over row) = codes "over" ∷ decimal row ∷ []
entry_tokens (Under row) = codes "under" ∷ decimal row ∷ []
entry_tokens Settled = codes "settled" ∷ []
entry_tokens (Residue row m) = codes "residue" ∷ decimal row ∷ decimal m ∷ []
entry_tokens (Cut ws) = codes "cut" ∷ flat_map row_tokens ws.items

-- the line of an entry
abbrev pub entry_text : Entry → List ℕ
entry_text e = spaced (entry_tokens e)
