-- What the tokens of each statement say, by the rule of each kind of token.
use Rattle.std.specs.Prelude.{◌==◌, ℕ, ◌+◌, ◌-◌, ◌*◌, ◌%◌, Bool, not, ◌&&◌, ◌||◌, List, [], ◌∷◌, ◌++◌, length, take, drop, position, nat_le, nat_lt, if◌then◌else◌, Option, Some, None, option_map, is_some, Result, Ok, ok_or, codes, bytes_eq}
use Rattle.std.specs.Option.{option_or}
use Rattle.std.specs.List.{slice_split}
use Rattle.df_lists.specs.NumberSets.{has_member, with_member}
use Rattle.df_group.specs.Elements.{order_of, number}
use Rattle.df_group.specs.Subgroups.{is_unit, generated}
use Rattle.df_lang.specs.declared.fault.SourceFault.{SourceFault}
use Rattle.df_lang.specs.declared.fault.SourceFault.TheVariants.{BadWord, BadElement, UnknownName, NameTaken, NotUnit, PointTwice, BlockSize, GroupRange, SizeRange, TargetRange}
use Rattle.df_lang.specs.declared.pieces.Which.{Which}
use Rattle.df_lang.specs.declared.pieces.Which.TheVariants as which
use Rattle.df_lang.specs.declared.pieces.Inside.{Inside}
use Rattle.df_lang.specs.declared.problem.TheConstants.{MOST_TARGET}
use Rattle.df_lang.specs.Names.{is_name, is_reserved}
use Rattle.df_lang.specs.Problems.{Named}
use Rattle.df_lang.specs.Rules.{◌>>=◌, ◌>>?◌, must, allowed, next, end, value_of, number_of, number_in}

-- a factor may follow those before it
abbrev pub fits : List ℕ → ℕ → Bool
fits factors f = nat_le 2 f && nat_le f 128 && nat_lt (length factors) 7 && nat_le (order_of factors * f) 128

-- the factors so far and those of these tokens, at least one together
unfoldable pub factors_from : List ℕ → List (List ℕ) → Result (List ℕ) SourceFault
factors_from factors [] = must (nat_lt 0 (length factors)) BadWord factors
factors_from factors (token ∷ tokens) = number_of token >>= λ f. must (fits factors f) GroupRange (factors ++ f ∷ []) >>= λ more. factors_from more tokens

abbrev pub is_comma : ℕ → Bool
is_comma b = b == 44

-- the numbers of these pieces: one for each factor, and below it
unfoldable pub residues_of : List ℕ → List (List ℕ) → Option (List ℕ)
residues_of [] [] = Some []
residues_of [] (piece ∷ pieces) = None
residues_of (f ∷ fs) [] = None
residues_of (f ∷ fs) (piece ∷ pieces) = value_of piece >>? λ r. if nat_lt r f then option_map (λ rs. r ∷ rs) (residues_of fs pieces) else None

-- an element, by its number: its pieces stand between commas
unfoldable pub element_of : List ℕ → List ℕ → Option ℕ
element_of fs token = option_map (number fs) (residues_of fs (slice_split is_comma token))

-- a fixed point, by its number: `inf` and a number from 1 to that of the fixed points
unfoldable pub fixed_point : List ℕ → ℕ → List ℕ → Option ℕ
fixed_point fs fixed token =
    if bytes_eq (take 3 token) (codes "inf") then (value_of (drop 3 token) >>? λ n. if nat_le 1 n && nat_le n fixed then Some (order_of fs + (n - 1)) else None) else None

-- a point, by its number: an element or a fixed point
abbrev pub point_of : List ℕ → ℕ → List ℕ → Option ℕ
point_of fs fixed token = option_or (element_of fs token) (fixed_point fs fixed token)

-- the elements so far and those of these tokens
unfoldable pub elements_from : List ℕ → List ℕ → List (List ℕ) → Result (List ℕ) SourceFault
elements_from fs elements [] = Ok elements
elements_from fs elements (token ∷ tokens) = ok_or (element_of fs token) BadElement >>= λ e. elements_from fs (elements ++ e ∷ []) tokens

-- the place of a name among those above
abbrev pub place_of : List Named → List ℕ → Option ℕ
place_of names token = position (λ (n : Named). bytes_eq token n.0) names

-- a name is reserved, or a subgroup above has it
abbrev pub is_taken : List Named → List ℕ → Bool
is_taken names token = is_reserved token || is_some (place_of names token)

-- a new name
unfoldable pub name_of : List Named → List ℕ → Result (List ℕ) SourceFault
name_of names token = allowed (is_name token) BadWord >>= λ _. must (not (is_taken names token)) NameTaken token

-- a new name and the subgroup of some elements
unfoldable pub subgroup_of : List ℕ → List Named → List (List ℕ) → Result Named SourceFault
subgroup_of fs names tokens = next tokens (λ first rest. name_of names first >>= λ name. elements_from fs [] rest >>= λ elements. Ok (name, generated fs elements))

-- a subgroup name
unfoldable pub which_of : List Named → List ℕ → Result Which SourceFault
which_of names token =
    if bytes_eq token (codes "all") then Ok which.All else
    (if bytes_eq token (codes "none") then Ok which.Trivial else
    ok_or (option_map which.Named (place_of names token)) UnknownName)

-- one subgroup name
unfoldable pub shift_of : List Named → List (List ℕ) → Result Which SourceFault
shift_of names tokens = next tokens (λ first rest. which_of names first >>= λ w. end rest w)

-- a multiplier counts at its first place
abbrev pub kept_once : List ℕ → ℕ → List ℕ
kept_once ms m = if has_member ms m then ms else ms ++ m ∷ []

-- the multipliers so far and those of these tokens, at least one together: prime to the exponent e and reduced by it
unfoldable pub mults_from : ℕ → List ℕ → List (List ℕ) → Result (List ℕ) SourceFault
mults_from e ms [] = must (nat_lt 0 (length ms)) BadWord ms
mults_from e ms (token ∷ tokens) = number_of token >>= λ m. must (is_unit e m) NotUnit (kept_once ms (m % e)) >>= λ more. mults_from e more tokens

-- the set of the sizes so far and of those of these tokens
unfoldable pub sizes_from : ℕ → List ℕ → List (List ℕ) → Result (List ℕ) SourceFault
sizes_from most ks [] = Ok ks
sizes_from most ks (token ∷ tokens) = number_in 2 most SizeRange token >>= λ k. sizes_from most (with_member k ks) tokens

-- one size in version 1, at least one in version 2
unfoldable pub sizes_read : ℕ → ℕ → List (List ℕ) → Result (List ℕ) SourceFault
sizes_read version most tokens =
    next tokens (λ first rest. number_in 2 most SizeRange first >>= λ k. if version == 1 then end rest (k ∷ []) else sizes_from most (k ∷ []) rest)

-- the number of a target
abbrev pub target_of : List ℕ → Result ℕ SourceFault
target_of token = number_in 0 MOST_TARGET TargetRange token

-- a subgroup name and a target
unfoldable pub inside_of : List Named → List (List ℕ) → Result Inside SourceFault
inside_of names tokens =
    next tokens (λ first rest. which_of names first >>= λ w. next rest (λ second rest. target_of second >>= λ n. end rest record { subgroup = w; target = n }))

-- the set of the points so far and of those of these tokens, of one of the sizes at the end
unfoldable pub points_from : List ℕ → ℕ → List ℕ → List ℕ → List (List ℕ) → Result (List ℕ) SourceFault
points_from fs fixed sizes points [] = must (has_member sizes (length points)) BlockSize points
points_from fs fixed sizes points (token ∷ tokens) =
    ok_or (point_of fs fixed token) BadElement >>= λ p. must (not (has_member points p)) PointTwice (with_member p points) >>= λ more. points_from fs fixed sizes more tokens
