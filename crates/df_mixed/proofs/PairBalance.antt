-- Each orbit of pairs has one row, and the rows tell the balance of the development.
use Rattle.std.proofs.Common.{◌≡◌, ℕ, ◌+◌, ◌-◌, true, List, refl, sym, ◌∙◌, subst, arith}
use Rattle.std.specs.List.{range_with_len}
use Rattle.df_lists.specs.Membership.{In}
use Rattle.df_lists.specs.NumberSets.{has_member}
use Rattle.df_lists.proofs.MemberLaws.{In-flat_map, In-flat_map_gives, In-map, In-map_gives, In-range, In-range_gives, In-filter, In-filter_gives}
use Rattle.df_lists.proofs.TestLaws.{has_from, has_gives}
use Rattle.df_group.specs.Elements.{group_of, IsGroup}
use Rattle.df_group.specs.Subgroups.{IsSubgroup}
use Rattle.df_group.specs.ClosedSets.{IsClosed}
use Rattle.df_group.proofs.ElementLaws.{is_group}
use Rattle.df_group.proofs.SubgroupLaws.{subgroup_closed}
use Rattle.df_acting.proofs.OrbitLaws.{one_orbit_from}
use Rattle.df_acting.proofs.RepresentativeLaws.{least_gives, least_least, least_once}
use Rattle.df_lang.specs.Problems.{Stated, IsStated, point_count}
use Rattle.df_family.proofs.BalanceLaws.{are_sets, covers_found}
use Rattle.df_mixed.specs.PairOrbits.{is_earlier, pairs_from, all_pairs, shifted_pair, is_row, pair_rows}
use Rattle.df_mixed.specs.MixedTables.{IsPair}
use Rattle.df_mixed.specs.MixedLaws.{PairTableLaw, AreKept, KeptPairsLaw, OneRowLaw}
use Rattle.df_mixed.proofs.PairOrders.{same_pair, pairs_equal, pairs_ordered}
use Rattle.df_mixed.proofs.PairShifts.{pair_stays, pair_group}
use Rattle.df_mixed.proofs.TargetShifts.{pair_target}
use Rattle.df_mixed.proofs.CoverShifts.{found_kept}

-- the pairs are those of two points, the lower one first
pub pair_listed : (s : Stated) (x : ℕ × ℕ) → IsPair s x → In (all_pairs s) x
pair_listed s x h =
    let low = h.0 in
    let high = h.1 in
    In-flat_map (pairs_from s) (range_with_len 0 (point_count s)) x.0 x (In-range 0 (point_count s) x.0 (omega arith) (omega arith))
    (In-map (λ (q : ℕ). (x.0, q)) (range_with_len (x.0 + 1) (point_count s - (x.0 + 1))) x.1 (In-range (x.0 + 1) (point_count s - (x.0 + 1)) x.1 (omega arith) (omega arith)))

pub listed_pair : (s : Stated) (x : ℕ × ℕ) → In (all_pairs s) x → IsPair s x
listed_pair s x i =
    let f = In-flat_map_gives (pairs_from s) (range_with_len 0 (point_count s)) x i in
    let m = In-map_gives (λ (q : ℕ). (f.0, q)) (range_with_len (f.0 + 1) (point_count s - (f.0 + 1))) x f.2 in
    let r = In-range_gives (f.0 + 1) (point_count s - (f.0 + 1)) m.0 m.1 in
    let low = r.0 in
    let high = r.1 in
    subst (IsPair s) m.2 (omega arith, omega arith)

pub row_pair : (s : Stated) (shifts : List ℕ) (x : ℕ × ℕ) → In (pair_rows s shifts) x → IsPair s x
row_pair s shifts x i = listed_pair s x (In-filter_gives (is_row s shifts) (all_pairs s) x i).0

module _ (s : Stated) (is : IsStated s) (shifts : List ℕ) (subgroup : IsSubgroup s.group shifts) where
  group : IsGroup (group_of s.group)
  group = is_group s.group is.shape

  closed : IsClosed s.group shifts
  closed = subgroup_closed s.group is.shape shifts subgroup

  -- a shift carries a pair to a row
  row_of : (x : ℕ × ℕ) → IsPair s x → (g : ℕ) × (has_member shifts g ≡ true) × In (pair_rows s shifts) (shifted_pair s g x)
  row_of x h =
      let maps = pair_group s group shifts closed in
      let r = least_gives same_pair (shifted_pair s) (IsPair s) shifts pairs_equal maps is_earlier pairs_ordered x h in
      let stays = pair_stays s group r.0 x h in
      let least = least_least same_pair (shifted_pair s) (IsPair s) shifts pairs_equal maps is_earlier pairs_ordered x h in (
        r.0,
        has_from shifts r.0 r.1,
        In-filter (is_row s shifts) (all_pairs s) (shifted_pair s r.0 x) (pair_listed s (shifted_pair s r.0 x) stays) (subst (λ y. is_row s shifts y ≡ true) (sym r.2) least),
      )

  row_alone : (x : ℕ × ℕ) (g : ℕ) → has_member shifts g ≡ true → In (pair_rows s shifts) x → In (pair_rows s shifts) (shifted_pair s g x) → shifted_pair s g x ≡ x
  row_alone x g h i j =
      let maps = pair_group s group shifts closed in
      let y = shifted_pair s g x in
      let one = In-filter_gives (is_row s shifts) (all_pairs s) x i in
      let other = In-filter_gives (is_row s shifts) (all_pairs s) y j in
      sym (least_once same_pair (shifted_pair s) (IsPair s) shifts pairs_equal maps is_earlier pairs_ordered x y (listed_pair s x one.0) (listed_pair s y other.0)
      (one_orbit_from same_pair (shifted_pair s) (IsPair s) shifts pairs_equal maps g x y (has_gives shifts g h) refl) one.1 other.1)

  kept : (g : ℕ) → has_member shifts g ≡ true → (x : ℕ × ℕ) → IsPair s x → AreKept s shifts x (shifted_pair s g x)
  kept g h x pair = record {
    found = found_kept s group shifts closed (are_sets s s.family is.family) g x h pair;
    target = pair_target s is g x;
  }

pub kept_pairs : KeptPairsLaw
kept_pairs s is shifts subgroup g h x pair = kept s is shifts subgroup g h x pair

pub one_row : OneRowLaw
one_row s is shifts subgroup = record {
  listed = λ x h. row_of s is shifts subgroup x h;
  alone = λ x g h i j. row_alone s is shifts subgroup x g h i j;
}

pub pair_balance : PairTableLaw
pair_balance s is shifts subgroup = (
  λ each p q h k.
      let r = row_of s is shifts subgroup (p, q) (h, k) in
      let same = kept s is shifts subgroup r.0 r.1 (p, q) (h, k) in
      covers_found s is shifts subgroup p q h k ∙ sym same.found ∙ each (shifted_pair s r.0 (p, q)) r.2 ∙ same.target,
  λ balanced x i.
      let pair = row_pair s shifts x i in
      sym (covers_found s is shifts subgroup x.0 x.1 pair.0 pair.1) ∙ balanced x.0 x.1 pair.0 pair.1,
)
