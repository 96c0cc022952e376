-- Paths in `from` lines and in `end` lines, both ways.
use Rattle.std.specs.Prelude.{◌≡◌, ℕ, Bool, true, false, List, [], ◌∷◌, map, if◌then◌else◌, Option, Some, None, option_map, codes, decimal, bytes_eq}
use Rattle.df_io.specs.Lines.{tokens_of}
use Rattle.df_walk.specs.Paths.{WrittenPath, IsWritten}
use Rattle.df_dossier.specs.declared.numbers.TheConstants.{MOST_COUNT}
use Rattle.df_dossier.specs.Tokens.{◌>>?◌, number_within, place_of, first_then, after_spaces}

-- the numbers of columns that these tokens are
unfoldable pub places_of : List (List ℕ) → Option (List ℕ)
places_of [] = Some []
places_of (token ∷ tokens) = place_of token >>? λ c. option_map (λ cs. c ∷ cs) (places_of tokens)

-- a length and the numbers behind it
abbrev pub path_read : List (List ℕ) → Option WrittenPath
path_read tokens = first_then tokens (λ first rest. place_of first >>? λ n. option_map (λ cs. record { size = n; chosen = cs }) (places_of rest))

-- the tokens behind a word that is wanted first
abbrev pub past : List ℕ → List (List ℕ) → Option (List (List ℕ))
past word tokens = first_then tokens (λ token rest. if bytes_eq token word then Some rest else None)

-- the tokens behind a count that is wanted first
abbrev pub past_count : List (List ℕ) → Option (List (List ℕ))
past_count tokens = first_then tokens (λ token rest. option_map (λ n. rest) (number_within 0 MOST_COUNT token))

-- the tokens of the path of a spent end line, by those behind `end`
unfoldable pub spent_path : List (List ℕ) → Option (List (List ℕ))
spent_path tokens = past (codes "spent") tokens >>? past (codes "designs") >>? past_count >>? past (codes "nodes") >>? past_count >>? past (codes "next")

-- the tokens of the path of a `from` line or of a spent `end` line
abbrev pub path_part : List (List ℕ) → Option (List (List ℕ))
path_part tokens = first_then tokens (λ token rest. if bytes_eq token (codes "from") then Some rest else (if bytes_eq token (codes "end") then spent_path rest else None))

-- the line is a `from` line or a spent `end` line, and this is its path: a length, and columns that increase and are below it
pub record HasPath (line : List ℕ) (p : WrittenPath) : Type 0 where
  pub stated : (path_part (tokens_of line) >>? path_read) ≡ Some p
  pub written : IsWritten p

-- the tokens of a path
abbrev pub path_tokens : WrittenPath → List (List ℕ)
path_tokens p = decimal p.size ∷ map decimal p.chosen

-- its text behind `from` and `next`
abbrev pub path_text : WrittenPath → List ℕ
path_text p = after_spaces (path_tokens p)

-- an end line without its path
abbrev pub end_tokens : Bool → ℕ → ℕ → List (List ℕ)
end_tokens true designs nodes = codes "end" ∷ codes "finished" ∷ codes "designs" ∷ decimal designs ∷ codes "nodes" ∷ decimal nodes ∷ []
end_tokens false designs nodes = codes "end" ∷ codes "spent" ∷ codes "designs" ∷ decimal designs ∷ codes "nodes" ∷ decimal nodes ∷ codes "next" ∷ []
