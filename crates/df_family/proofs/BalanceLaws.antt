-- Why a development holds each two points as often as they are found, and why the table is as stated exactly where the development is balanced.
use Rattle.std.proofs.Common.{◌≡◌, ℕ, suc, ◌<◌, List, [], ◌∷◌, refl, sym, ap, ◌∙◌, subst, arith}
use Rattle.std.specs.List.{All}
use Rattle.df_lists.specs.NumberSets.{IsSet}
use Rattle.df_lists.proofs.CountLaws.{list_count, list_count_is, list_total_is, list_count_flat_map}
use Rattle.df_lists.proofs.ListTotals.{list_total}
use Rattle.df_group.specs.Elements.{group_of, IsGroup, IsShape}
use Rattle.df_group.specs.Subgroups.{IsSubgroup}
use Rattle.df_group.specs.ClosedSets.{IsClosed}
use Rattle.df_group.proofs.ElementLaws.{is_group}
use Rattle.df_group.proofs.SubgroupLaws.{are_subgroups}
use Rattle.df_lang.specs.declared.pieces.Member.{Member}
use Rattle.df_lang.specs.Problems.{Stated, IsBlock, point_count}
use Rattle.df_lang.specs.Balance.{holds_both, cover}
use Rattle.df_family.specs.Translates.{elements}
use Rattle.df_family.specs.Developments.{translates_under, develop_under}
use Rattle.df_family.specs.Tables.{occurs, found, stated}
use Rattle.df_family.specs.Covers.{summand_at, found_at, CoverLaw, PairDivisionLaw}
use Rattle.df_family.specs.FamilyLaws.{BalanceLaw, DivisionLaw, LengthLaw, PreimageLaw}
use Rattle.df_family.proofs.TranslateLaws.{hit}
use Rattle.df_family.proofs.CoverLaws.{different, covers_occurs, covers_different, member_covers, translates_length}
use Rattle.df_family.proofs.RowKinds.{kind, occurs_kind, found_kind}
use Rattle.df_family.proofs.RowLaws.{kind_listed, listed_kind, target_stated}

-- the elements are a subgroup
whole : (s : Stated) → IsShape s.group → IsSubgroup s.group (elements s)
whole s shape = (elements s, (are_subgroups s.group shape).whole)

closed_of : (s : Stated) → IsShape s.group → (shifts : List ℕ) → IsSubgroup s.group shifts → IsClosed s.group shifts
closed_of s shape shifts subgroup = (are_subgroups s.group shape).closed shifts subgroup

-- each block of the family is a set of points
abbrev pub AreSets : Stated → List Member → Type 0
AreSets s [] = Unit {0}
AreSets s (m ∷ ms) = IsSet (point_count s) m.block × AreSets s ms

pub are_sets : (s : Stated) (ms : List Member) → All (λ m. IsBlock (point_count s) s.sizes m.block) ms → AreSets s ms
are_sets s [] all = tt
are_sets s (m ∷ ms) all = ((all 0 m (omega arith)).set, are_sets s ms (λ k d h. all (suc k) d (omega (arith, h))))

pub whole_closed : (s : Stated) → IsShape s.group → IsClosed s.group (elements s)
whole_closed s shape = closed_of s shape (elements s) (whole s shape)

module _ (s : Stated) (is : IsGroup (group_of s.group)) (shifts : List ℕ) (closed : IsClosed s.group shifts) where
  members_cover : (ms : List Member) → AreSets s ms → (p q : ℕ) → p < q → q < point_count s
      → list_total (λ m. list_count (λ b. holds_both b p q) (translates_under s shifts m)) ms ≡ list_total (λ (m : Member). summand_at s shifts p q m.kind m.block) ms
  members_cover [] all p q h k = refl
  members_cover (m ∷ ms) all p q h k =
      let here = member_covers s is shifts closed m.block all.0 m.kind p q h k in
      let rest = members_cover ms all.1 p q h k in
      omega arith

  cover_found : AreSets s s.family → (p q : ℕ) → p < q → q < point_count s → cover (develop_under s shifts) p q ≡ found_at s shifts p q
  cover_found all p q h k =
      sym (list_count_is (λ b. holds_both b p q) (develop_under s shifts)) ∙ list_count_flat_map (λ b. holds_both b p q) (translates_under s shifts) s.family ∙ members_cover s.family all p q h k
      ∙ list_total_is (λ (m : Member). summand_at s shifts p q m.kind m.block) s.family

pub covers_found : CoverLaw
covers_found s is shifts subgroup = cover_found s (is_group s.group is.shape) shifts (closed_of s is.shape shifts subgroup) (are_sets s s.family is.family)

pub pair_division : PairDivisionLaw
pair_division s is shifts subgroup block set p q h k =
    let group = is_group s.group is.shape in
    let closed = closed_of s is.shape shifts subgroup in
    (different s group shifts closed block set p q, sym (covers_occurs s group shifts closed block set p q h k) ∙ covers_different s group shifts closed block set p q)

pub balance : BalanceLaw
balance s is =
    let group = is_group s.group is.shape in
    let law = λ (p q : ℕ) (h : p < q) (k : q < point_count s). covers_found s is (elements s) (whole s is.shape) p q h k ∙ sym (found_kind s group p q h) in (
      λ each p q h k. law p q h k ∙ each (kind s p q) (kind_listed s group p q h k) ∙ sym (target_stated s group p q h k),
      λ balanced row i.
          let k = listed_kind s group row i in
          subst (λ row. found s row ≡ stated s row) k.is (sym (law k.lower k.upper k.apart k.below) ∙ balanced k.lower k.upper k.apart k.below ∙ target_stated s group k.lower k.upper k.apart k.below),
    )

pub division : DivisionLaw
division s is block set row i =
    let group = is_group s.group is.shape in
    let k = listed_kind s group row i in
    let d = pair_division s is (elements s) (whole s is.shape) block set k.lower k.upper k.apart k.below in
    (d.0, ap (λ row. occurs s row block) (sym k.is) ∙ occurs_kind s group block k.lower k.upper k.apart ∙ d.1)

pub translates_divide : LengthLaw
translates_divide s is shifts subgroup block set = translates_length s (is_group s.group is.shape) shifts (closed_of s is.shape shifts subgroup) block set

pub preimage : PreimageLaw
preimage s is block g p h = hit s (is_group s.group is.shape) block g p h
