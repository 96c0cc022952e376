-- Each statement: its rules in their order, and what stands above the next line.
use Rattle.std.specs.Prelude.{◌==◌, ℕ, ◌+◌, ◌-◌, min, List, [], ◌∷◌, ◌++◌, length, nat_lt, is_none, if◌then◌else◌, Option, Some, None, Result, Ok, ok_or, codes, bytes_eq}
use Rattle.df_group.specs.Elements.{order_of}
use Rattle.df_group.specs.Subgroups.{exponent_of}
use Rattle.df_lang.specs.declared.fault.SourceFault.{SourceFault}
use Rattle.df_lang.specs.declared.fault.SourceFault.TheVariants.{BadWord, BadNumber, FixedRange, TargetRange, TooManyBlocks}
use Rattle.df_lang.specs.declared.pieces.Kind.{Kind}
use Rattle.df_lang.specs.declared.pieces.Kind.TheVariants as kind
use Rattle.df_lang.specs.declared.pieces.Keyword.{Keyword}
use Rattle.df_lang.specs.declared.pieces.Keyword.TheVariants as keyword
use Rattle.df_lang.specs.declared.problem.TheConstants.{MOST_TARGET, MOST_BLOCKS}
use Rattle.df_lang.specs.Rules.{◌>>=◌, allowed, once, one_number}
use Rattle.df_lang.specs.StandsAbove.{Above, group_of, sizes_of, fixed_of, version_of}
use Rattle.df_lang.specs.Values.{factors_from, subgroup_of, shift_of, mults_from, sizes_read, inside_of, points_from}

-- the version, which is 2 where it is stated
unfoldable pub version_line : Above → List (List ℕ) → Result Above SourceFault
version_line a tokens = one_number 2 2 BadNumber tokens >>= λ n. Ok (record a { version = Some n })

-- the factors of the group
unfoldable pub group_line : Above → List (List ℕ) → Result Above SourceFault
group_line a tokens = once a.group >>= λ _. factors_from [] tokens >>= λ fs. Ok (record a { group = Some fs })

-- the number of fixed points: at most 16, and at most 128 points with the elements
unfoldable pub fixed_line : Above → List (List ℕ) → Result Above SourceFault
fixed_line a tokens = once a.fixed >>= λ _. group_of a >>= λ fs. one_number 0 (min 16 (128 - order_of fs)) FixedRange tokens >>= λ n. Ok (record a { fixed = Some n })

-- a named subgroup
unfoldable pub subgroup_line : Above → List (List ℕ) → Result Above SourceFault
subgroup_line a tokens = group_of a >>= λ fs. subgroup_of fs a.names tokens >>= λ named. Ok (record a { names = a.names ++ named ∷ [] })

-- the subgroup whose elements shift a design to itself
unfoldable pub shift_line : Above → List (List ℕ) → Result Above SourceFault
shift_line a tokens = once a.shift >>= λ _. group_of a >>= λ _. shift_of a.names tokens >>= λ w. Ok (record a { shift = Some w })

-- the multipliers
unfoldable pub mult_line : Above → List (List ℕ) → Result Above SourceFault
mult_line a tokens = once a.mults >>= λ _. group_of a >>= λ fs. mults_from (exponent_of fs) [] tokens >>= λ ms. Ok (record a { mults = Some ms })

-- the sizes of the blocks: at most 16, and at most the number of points stated above
unfoldable pub size_line : Above → List (List ℕ) → Result Above SourceFault
size_line a tokens = once a.sizes >>= λ _. group_of a >>= λ fs. sizes_read (version_of a) (min 16 (order_of fs + fixed_of a)) tokens >>= λ ks. Ok (record a { sizes = Some ks })

-- the target
unfoldable pub lambda_line : Above → List (List ℕ) → Result Above SourceFault
lambda_line a tokens = once a.lambda >>= λ _. group_of a >>= λ _. one_number 0 MOST_TARGET TargetRange tokens >>= λ n. Ok (record a { lambda = Some n })

-- the target inside the cosets of a subgroup
unfoldable pub inside_line : Above → List (List ℕ) → Result Above SourceFault
inside_line a tokens = once a.inside >>= λ _. group_of a >>= λ _. inside_of a.names tokens >>= λ i. Ok (record a { inside = Some i })

-- the target of two fixed points
unfoldable pub hole_line : Above → List (List ℕ) → Result Above SourceFault
hole_line a tokens = once a.hole >>= λ _. group_of a >>= λ _. one_number 0 MOST_TARGET TargetRange tokens >>= λ n. Ok (record a { hole = Some n })

-- a block, where a number of its kind stand above: fewer than the most
unfoldable pub block_of : Above → ℕ → List (List ℕ) → Result (List ℕ) SourceFault
block_of a count tokens = group_of a >>= λ fs. sizes_of a >>= λ ks. allowed (nat_lt count MOST_BLOCKS) TooManyBlocks >>= λ _. points_from fs (fixed_of a) ks [] tokens

-- a block of the family
unfoldable pub member_line : Above → Kind → List (List ℕ) → Result Above SourceFault
member_line a k tokens = block_of a (length a.family) tokens >>= λ b. Ok (record a { family = a.family ++ record { kind = k; block = b } ∷ [] })

-- a required block
unfoldable pub require_line : Above → List (List ℕ) → Result Above SourceFault
require_line a tokens = block_of a (length a.required + length a.forbidden) tokens >>= λ b. Ok (record a { required = a.required ++ b ∷ [] })

-- a forbidden block
unfoldable pub forbid_line : Above → List (List ℕ) → Result Above SourceFault
forbid_line a tokens = block_of a (length a.required + length a.forbidden) tokens >>= λ b. Ok (record a { forbidden = a.forbidden ++ b ∷ [] })

-- the keywords of statements
abbrev pub keyword_of : List ℕ → Option Keyword
keyword_of token =
    if bytes_eq token (codes "group") then Some keyword.Group else
    (if bytes_eq token (codes "fixed") then Some keyword.Fixed else
    (if bytes_eq token (codes "subgroup") then Some keyword.Subgroup else
    (if bytes_eq token (codes "shift") then Some keyword.Shift else
    (if bytes_eq token (codes "mult") then Some keyword.Mult else
    (if bytes_eq token (codes "k") then Some keyword.Size else
    (if bytes_eq token (codes "lambda") then Some keyword.Lambda else
    (if bytes_eq token (codes "inside") then Some keyword.Inside else
    (if bytes_eq token (codes "hole") then Some keyword.Hole else
    (if bytes_eq token (codes "base") then Some keyword.Base else
    (if bytes_eq token (codes "short") then Some keyword.Short else
    (if bytes_eq token (codes "require") then Some keyword.Require else
    (if bytes_eq token (codes "forbid") then Some keyword.Forbid else None))))))))))))

-- a statement, by its keyword: two keywords belong to version 2 alone
unfoldable pub meaning : Above → Keyword → List (List ℕ) → Result Above SourceFault
meaning a keyword.Group tokens = group_line a tokens
meaning a keyword.Fixed tokens = fixed_line a tokens
meaning a keyword.Subgroup tokens = subgroup_line a tokens
meaning a keyword.Shift tokens = shift_line a tokens
meaning a keyword.Mult tokens = mult_line a tokens
meaning a keyword.Size tokens = size_line a tokens
meaning a keyword.Lambda tokens = lambda_line a tokens
meaning a keyword.Inside tokens = inside_line a tokens
meaning a keyword.Hole tokens = hole_line a tokens
meaning a keyword.Base tokens = member_line a kind.Base tokens
meaning a keyword.Short tokens = member_line a kind.Short tokens
meaning a keyword.Require tokens = allowed (version_of a == 2) BadWord >>= λ _. require_line a tokens
meaning a keyword.Forbid tokens = allowed (version_of a == 2) BadWord >>= λ _. forbid_line a tokens

-- a line of a source whose version is known
unfoldable pub statement_line : Above → List ℕ → List (List ℕ) → Result Above SourceFault
statement_line a first tokens = ok_or (keyword_of first) BadWord >>= λ w. meaning a w tokens

-- the first line with tokens: it says the version, or is of version 1
unfoldable pub first_line : Above → List ℕ → List (List ℕ) → Result Above SourceFault
first_line a first tokens = if bytes_eq first (codes "version") then version_line a tokens else statement_line (record a { version = Some 1 }) first tokens

-- what stands above the next line, by the tokens of a line
unfoldable pub step : Above → List (List ℕ) → Result Above SourceFault
step a [] = Ok a
step a (first ∷ tokens) = if is_none a.version then first_line a first tokens else statement_line a first tokens
