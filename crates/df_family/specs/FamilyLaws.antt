-- The laws of difference families.
use Rattle.std.specs.Prelude.{◌≡◌, ◌↔◌, ℕ, ◌*◌, ◌<◌, true, List, map, length, nat_lt}
use Rattle.df_lists.specs.Membership.{In}
use Rattle.df_lists.specs.NumberSets.{has_member, IsSet}
use Rattle.df_lists.specs.Orders.{IsSorted}
use Rattle.df_group.specs.Elements.{group_of, shifted}
use Rattle.df_group.specs.Subgroups.{IsSubgroup}
use Rattle.df_lang.specs.declared.pieces.Kind.TheVariants as kinds
use Rattle.df_lang.specs.Problems.{Stated, IsStated, point_count}
use Rattle.df_lang.specs.Balance.{IsBalanced}
use Rattle.df_family.specs.declared.table.Row.{Row}
use Rattle.df_family.specs.Translates.{translate, stabilizer, stabilizer_under}
use Rattle.df_family.specs.Developments.{first_occurrences, translates_under, develop}
use Rattle.df_family.specs.Tables.{rows, occurs, IsAsStated}
use Rattle.df_family.specs.Verdicts.{verdict_on, is_accepted}

-- each row is found as often as is stated exactly where the development is balanced
abbrev pub BalanceLaw : Type 0
BalanceLaw = (s : Stated) → IsStated s → IsAsStated s ↔ IsBalanced s (develop s)

-- a verdict accepts exactly where the development is balanced
abbrev pub VerdictLaw : Type 0
VerdictLaw = (s : Stated) → IsStated s → (is_accepted (verdict_on s) ≡ true) ↔ IsBalanced s (develop s)

-- the number of translations that fix a block divides how often the block has a row
abbrev pub DivisionLaw : Type 0
DivisionLaw = (s : Stated) → IsStated s → (block : List ℕ) → IsSet (point_count s) block → (row : Row) → In (rows s) row → (times : ℕ) × (occurs s row block ≡ stabilizer s block * times)

-- a block has as many different translates under a subgroup as its order divided by the number of shifts that fix it, without rest
abbrev pub LengthLaw : Type 0
LengthLaw = (s : Stated) → IsStated s → (shifts : List ℕ) → IsSubgroup s.group shifts → (block : List ℕ) → IsSet (point_count s) block
    → length shifts ≡ stabilizer_under s shifts block * length (translates_under s shifts record { kind = kinds.Short; block = block })

-- of all translates of a short block by an increasing list of elements only the first occurrence of each stays
abbrev pub OccurrenceLaw : Type 0
OccurrenceLaw = (s : Stated) (shifts block : List ℕ) → IsSorted nat_lt shifts
    → translates_under s shifts record { kind = kinds.Short; block = block } ≡ first_occurrences (map (translate s block) shifts)

-- block + g holds a point exactly where the block holds the point that -g carries it to
abbrev pub PreimageLaw : Type 0
PreimageLaw = (s : Stated) → IsStated s → (block : List ℕ) (g p : ℕ) → p < point_count s → has_member (translate s block g) p ≡ has_member block (shifted (group_of s.group) ((group_of s.group).neg g) p)
