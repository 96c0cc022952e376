-- Rules on the tokens of a line: one after the other, and the first fault.
use Rattle.std.specs.Prelude.{ℕ, Bool, ◌&&◌, List, [], ◌∷◌, nat_le, if◌then◌else◌, Option, Some, None, Result, Ok, Err, ok_or, option_and_then}
use Rattle.df_io.specs.Number.{number_read}
use Rattle.df_io.specs.declared.numbers.NumberRead.{NumberRead}
use Rattle.df_io.specs.declared.numbers.NumberRead.TheVariants.{Value, NotDigits, TooLarge}
use Rattle.df_lang.specs.declared.fault.SourceFault.{SourceFault}
use Rattle.df_lang.specs.declared.fault.SourceFault.TheVariants.{BadWord, BadNumber, Repeated}

infixl 10 ◌>>=◌
-- the next rule, where this one is kept
abbrev pub ◌>>=◌ : {A B E : Type 0} → Result A E → (A → Result B E) → Result B E
(Ok x) >>= f = f x
(Err e) >>= f = Err e

infixl 10 ◌>>?◌
-- the next value, where this one is there
abbrev pub ◌>>?◌ : {A B : Type 0} → Option A → (A → Option B) → Option B
o >>? f = option_and_then f o

-- a value, where the rule holds
abbrev pub must : {A : Type 0} → Bool → SourceFault → A → Result A SourceFault
must holds fault x = if holds then Ok x else Err fault

-- a rule alone
abbrev pub allowed : Bool → SourceFault → Result (Unit {0}) SourceFault
allowed holds fault = if holds then Ok tt else Err fault

-- a token that is needed, and those after it
abbrev pub next : {A : Type 0} → List (List ℕ) → (List ℕ → List (List ℕ) → Result A SourceFault) → Result A SourceFault
next [] f = Err BadWord
next (token ∷ tokens) f = f token tokens

-- no token more
abbrev pub end : {A : Type 0} → List (List ℕ) → A → Result A SourceFault
end [] x = Ok x
end (token ∷ tokens) x = Err BadWord

-- a statement that may come once doesn't stand above
abbrev pub once : {A : Type 0} → Option A → Result (Unit {0}) SourceFault
once None = Ok tt
once (Some x) = Err Repeated

abbrev pub value_read : NumberRead → Option ℕ
value_read (Value n) = Some n
value_read NotDigits = None
value_read TooLarge = None

-- the value of a number token
abbrev pub value_of : List ℕ → Option ℕ
value_of token = value_read (number_read token)

-- a number
abbrev pub number_of : List ℕ → Result ℕ SourceFault
number_of token = ok_or (value_of token) BadNumber

-- a number from low to high
abbrev pub number_in : ℕ → ℕ → SourceFault → List ℕ → Result ℕ SourceFault
number_in low high fault token = number_of token >>= λ n. must (nat_le low n && nat_le n high) fault n

-- one number from low to high, and no token more
unfoldable pub one_number : ℕ → ℕ → SourceFault → List (List ℕ) → Result ℕ SourceFault
one_number low high fault tokens = next tokens (λ token rest. number_in low high fault token >>= λ n. end rest n)
