-- How often a family has two points p < q, where its blocks are developed under the elements of a subgroup.
use Rattle.std.specs.Prelude.{◌≡◌, ◌==◌, ℕ, ◌<◌, ◌*◌, ◌/◌, List, filter, length, sum_by, count_by, if◌then◌else◌}
use Rattle.df_lists.specs.NumberSets.{has_member, IsSet}
use Rattle.df_group.specs.Elements.{group_of, minus}
use Rattle.df_group.specs.Subgroups.{same_coset, IsSubgroup}
use Rattle.df_lang.specs.declared.pieces.Kind.{Kind}
use Rattle.df_lang.specs.declared.pieces.Kind.TheVariants as kinds
use Rattle.df_lang.specs.declared.pieces.Member.{Member}
use Rattle.df_lang.specs.Problems.{Stated, IsStated, point_count}
use Rattle.df_lang.specs.Targets.{is_finite}
use Rattle.df_lang.specs.Balance.{holds_both, cover}
use Rattle.df_family.specs.Translates.{stabilizer_under}
use Rattle.df_family.specs.Developments.{develop_under}
use Rattle.df_family.specs.Tables.{finite_points}

-- the elements of the block in the coset of p
abbrev pub coset_points : Stated → List ℕ → List ℕ → ℕ → List ℕ
coset_points s shifts block p = filter (same_coset s.group shifts p) (finite_points s block)

-- how often a block has p and q. Two elements: the pairs a, b of its elements with a - b = q - p and b in the coset of p. An element and a
-- fixed point: its elements in the coset of p, where it holds q. Two fixed points: as often as there are shifts, where it holds both
abbrev pub occurs_at : Stated → List ℕ → ℕ → ℕ → List ℕ → ℕ
occurs_at s shifts p q block =
    if is_finite s q then sum_by (λ b. count_by (λ a. minus (group_of s.group) a b == minus (group_of s.group) q p) (finite_points s block)) (coset_points s shifts block p) else
    (if is_finite s p then (if has_member block q then length (coset_points s shifts block p) else 0) else
    (if holds_both block p q then length shifts else 0))

-- what a block adds: a short one its number divided by that of the shifts that fix it
abbrev pub summand_at : Stated → List ℕ → ℕ → ℕ → Kind → List ℕ → ℕ
summand_at s shifts p q kinds.Base block = occurs_at s shifts p q block
summand_at s shifts p q kinds.Short block = occurs_at s shifts p q block / stabilizer_under s shifts block

-- how often the family has p and q
abbrev pub found_at : Stated → List ℕ → ℕ → ℕ → ℕ
found_at s shifts p q = sum_by (λ (m : Member). summand_at s shifts p q m.kind m.block) s.family

-- the development under a subgroup holds two points as often as the family has them
abbrev pub CoverLaw : Type 0
CoverLaw = (s : Stated) → IsStated s → (shifts : List ℕ) → IsSubgroup s.group shifts → (p q : ℕ) → p < q → q < point_count s → cover (develop_under s shifts) p q ≡ found_at s shifts p q

-- the number of shifts that fix a block divides how often the block has two points
abbrev pub PairDivisionLaw : Type 0
PairDivisionLaw = (s : Stated) → IsStated s → (shifts : List ℕ) → IsSubgroup s.group shifts → (block : List ℕ) → IsSet (point_count s) block → (p q : ℕ) → p < q → q < point_count s
    → (times : ℕ) × (occurs_at s shifts p q block ≡ stabilizer_under s shifts block * times)
