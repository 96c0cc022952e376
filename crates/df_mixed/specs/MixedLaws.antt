-- The laws of mixed families.
use Rattle.std.specs.Prelude.{◌≡◌, ◌↔◌, ℕ, true, List}
use Rattle.df_lists.specs.Membership.{In}
use Rattle.df_lists.specs.NumberSets.{has_member}
use Rattle.df_group.specs.Subgroups.{IsSubgroup}
use Rattle.df_lang.specs.Problems.{Stated, IsStated}
use Rattle.df_lang.specs.Targets.{target}
use Rattle.df_lang.specs.Balance.{IsBalanced}
use Rattle.df_family.specs.declared.verdict.Verdict.TheVariants as family
use Rattle.df_family.specs.Translates.{elements}
use Rattle.df_family.specs.Developments.{develop, develop_under}
use Rattle.df_family.specs.Covers.{found_at}
use Rattle.df_family.specs.Verdicts.{verdict_on}
use Rattle.df_mixed.specs.declared.verdict.MixedVerdict.TheVariants as mixed
use Rattle.df_mixed.specs.PairOrbits.{shifts_of, shifted_pair, pair_rows}
use Rattle.df_mixed.specs.MixedTables.{mixed_development, IsPair, AreFoundAsStated}
use Rattle.df_mixed.specs.MixedVerdicts.{mixed_verdict}

-- each row is found as often as is stated exactly where the development is balanced
abbrev pub PairTableLaw : Type 0
PairTableLaw = (s : Stated) → IsStated s → (shifts : List ℕ) → IsSubgroup s.group shifts → AreFoundAsStated s shifts ↔ IsBalanced s (develop_under s shifts)

-- a shift carries a pair to one that is found as often and has the same target
pub record AreKept (s : Stated) (shifts : List ℕ) (pair shifted : ℕ × ℕ) : Type 0 where
  pub found : found_at s shifts shifted.0 shifted.1 ≡ found_at s shifts pair.0 pair.1
  pub target : target s shifted.0 shifted.1 ≡ target s pair.0 pair.1

abbrev pub KeptPairsLaw : Type 0
KeptPairsLaw = (s : Stated) → IsStated s → (shifts : List ℕ) → IsSubgroup s.group shifts → (g : ℕ) → has_member shifts g ≡ true → (pair : ℕ × ℕ) → IsPair s pair → AreKept s shifts pair (shifted_pair s g pair)

-- a shift carries each pair to a row, and two rows that a shift carries to one another are the same
pub record HaveOneRow (s : Stated) (shifts : List ℕ) : Type 0 where
  pub listed : (pair : ℕ × ℕ) → IsPair s pair → (g : ℕ) × (has_member shifts g ≡ true) × In (pair_rows s shifts) (shifted_pair s g pair)
  pub alone : (pair : ℕ × ℕ) (g : ℕ) → has_member shifts g ≡ true → In (pair_rows s shifts) pair → In (pair_rows s shifts) (shifted_pair s g pair) → shifted_pair s g pair ≡ pair

abbrev pub OneRowLaw : Type 0
OneRowLaw = (s : Stated) → IsStated s → (shifts : List ℕ) → IsSubgroup s.group shifts → HaveOneRow s shifts

-- where the whole group shifts, the development is that of a difference family, and the verdict accepts exactly where that on a difference family does
pub record AreVerified (s : Stated) : Type 0 where
  pub development : mixed_development s ≡ develop s
  pub accepted : (blocks : ℕ) → (mixed_verdict s ≡ mixed.Accepted blocks) ↔ (verdict_on s ≡ family.Accepted blocks)

abbrev pub WholeGroupLaw : Type 0
WholeGroupLaw = (s : Stated) → IsStated s → shifts_of s ≡ elements s → AreVerified s
