-- Numbers as tokens of a dossier's lines.
use Rattle.std.specs.Prelude.{ℕ, ◌&&◌, List, [], ◌∷◌, nat_le, if◌then◌else◌, Option, Some, None, option_map, option_and_then}
use Rattle.std.specs.List.{flat_map}
use Rattle.df_io.specs.Number.{number_read}
use Rattle.df_io.specs.declared.numbers.NumberRead.{NumberRead}
use Rattle.df_io.specs.declared.numbers.NumberRead.TheVariants.{Value, NotDigits, TooLarge}
use Rattle.df_dossier.specs.declared.numbers.TheConstants.{MOST_NUMBER}

infixl 10 ◌>>?◌
-- the next value, where this one is there
abbrev pub ◌>>?◌ : {A B : Type 0} → Option A → (A → Option B) → Option B
o >>? f = option_and_then f o

abbrev pub within : ℕ → ℕ → NumberRead → Option ℕ
within least most (Value n) = if nat_le least n && nat_le n most then Some n else None
within least most NotDigits = None
within least most TooLarge = None

-- the number that a token spells, from `least` to `most`
abbrev pub number_within : ℕ → ℕ → List ℕ → Option ℕ
number_within least most token = within least most (number_read token)

-- the number of a column or a row
abbrev pub place_of : List ℕ → Option ℕ
place_of token = number_within 0 MOST_NUMBER token

-- a token that is needed, and those after it
abbrev pub first_then : {A : Type 0} → List (List ℕ) → (List ℕ → List (List ℕ) → Option A) → Option A
first_then [] f = None
first_then (token ∷ tokens) f = f token tokens

-- no token more
abbrev pub ending : {A : Type 0} → List (List ℕ) → A → Option A
ending [] x = Some x
ending (token ∷ tokens) x = None

-- the value of each, where each has one
unfoldable pub values_of : {X Y : Type 0} → (X → Option Y) → List X → Option (List Y)
values_of f [] = Some []
values_of f (x ∷ xs) = f x >>? λ y. option_map (λ ys. y ∷ ys) (values_of f xs)

-- tokens, each after a space
abbrev pub after_spaces : List (List ℕ) → List ℕ
after_spaces tokens = flat_map (λ token. 32 ∷ token) tokens
