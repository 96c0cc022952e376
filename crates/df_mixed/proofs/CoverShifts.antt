-- A shift carries a pair to one that a family has as often.
use Rattle.std.proofs.Common.{◌≡◌, ℕ, ◌<◌, ◌/◌, Bool, true, false, cond, ◌&&◌, List, [], ◌∷◌, refl, sym, ap, ap₂, ◌∙◌, inl, inr, ⊎_elim, subst, arith}
use Rattle.std.proofs.lemmas.Bool.{cases_lt}
use Rattle.df_lists.specs.NumberSets.{has_member, IsSet}
use Rattle.df_lists.specs.Totals.{one}
use Rattle.df_lists.proofs.TotalLaws.{total_same, total_turn}
use Rattle.df_lists.proofs.CountLaws.{list_total_is}
use Rattle.df_lists.proofs.ListTotals.{list_total, list_total_agree}
use Rattle.df_lists.proofs.TestLaws.{same_tests, has_from}
use Rattle.df_group.specs.Elements.{order_of, group_of, IsGroup, minus, shifted}
use Rattle.df_group.specs.ClosedSets.{IsClosed}
use Rattle.df_group.proofs.GroupLaws.{more_less, less_more, minus_plus, turns_less}
use Rattle.df_lang.specs.declared.pieces.Kind.{Kind}
use Rattle.df_lang.specs.declared.pieces.Kind.TheVariants as kinds
use Rattle.df_lang.specs.declared.pieces.Member.{Member}
use Rattle.df_lang.specs.Problems.{Stated, point_count}
use Rattle.df_lang.specs.Balance.{holds_both}
use Rattle.df_family.specs.Translates.{translate, stabilizer_under}
use Rattle.df_family.specs.Covers.{occurs_at, summand_at, found_at}
use Rattle.df_family.proofs.TranslateLaws.{shifted_finite, shifted_fixed, shifted_within, hit}
use Rattle.df_family.proofs.ShiftLaws.{list_total_set}
use Rattle.df_family.proofs.CoverLaws.{covers, covers_occurs}
use Rattle.df_family.proofs.BalanceLaws.{AreSets}
use Rattle.df_mixed.specs.PairOrbits.{shifted_pair}
use Rattle.df_mixed.specs.MixedTables.{IsPair}
use Rattle.df_mixed.proofs.PairOrders.{order_either}
use Rattle.df_mixed.proofs.PairShifts.{pair_stays}

module _ (s : Stated) (is : IsGroup (group_of s.group)) (shifts : List ℕ) (closed : IsClosed s.group shifts) where
  -- p + h - g is p - (g - h)
  less_twice : (p h g : ℕ) → g < order_of s.group
      → shifted (group_of s.group) ((group_of s.group).neg g) (shifted (group_of s.group) h p) ≡ shifted (group_of s.group) ((group_of s.group).neg (minus (group_of s.group) g h)) p
  less_twice p h g k =
      let G = group_of s.group in
      let a = minus G g h in
      elim (cases_lt p (order_of s.group)) [
        | inl l ↦
            ap (shifted G (G.neg g)) (shifted_finite s is h p l) ∙ shifted_finite s is (G.neg g) (G.plus p h) (is.within p h)
            ∙ ap (minus G (G.plus p h)) (sym (less_more G is g h k) ∙ is.comm a h) ∙ sym (minus_plus G is (G.plus p h) h a (is.within p h)) ∙ ap (λ y. minus G y a) (more_less G is p h l)
            ∙ sym (shifted_finite s is (G.neg a) p l)
        | inr r ↦ ap (shifted G (G.neg g)) (shifted_fixed s is h p r) ∙ shifted_fixed s is (G.neg g) p r ∙ sym (shifted_fixed s is (G.neg a) p r)
      ]

  -- a shift turns the shifts
  shifts_turned : (h g : ℕ) → has_member shifts h ≡ true → g < order_of s.group → has_member shifts g ≡ has_member shifts (minus (group_of s.group) g h)
  shifts_turned h g i k =
      let G = group_of s.group in
      same_tests (has_member shifts g) (has_member shifts (minus G g h)) (λ j. closed.plus g (G.neg h) j (closed.neg h i))
      (λ j. subst (λ x. has_member shifts x ≡ true) (less_more G is g h k) (closed.plus (minus G g h) h j i))

  -- a sum over the shifts, each less h
  total_turned : (W : ℕ → ℕ) (h : ℕ) → has_member shifts h ≡ true → list_total (λ g. W (minus (group_of s.group) g h)) shifts ≡ list_total W shifts
  total_turned W h i =
      let G = group_of s.group in
      let n = order_of s.group in
      let U : ℕ → ℕ = λ x. cond (has_member shifts x) (W x) 0 in
      list_total_set n shifts (λ g. W (minus G g h)) closed.set
      ∙ total_same (λ g. cond (has_member shifts g) (W (minus G g h)) 0) (λ g. U (minus G g h)) n (λ g k. ap (λ v. cond v (W (minus G g h)) 0) (shifts_turned h g i k))
      ∙ total_turn U n (λ g. minus G g h) (λ g. G.plus g h) (turns_less G is h) ∙ sym (list_total_set n shifts W closed.set)

  module _ (block : List ℕ) (set : IsSet (point_count s) block) where
    hit_shifted : (h g p : ℕ) → g < order_of s.group → p < point_count s → has_member (translate s block g) (shifted (group_of s.group) h p) ≡ has_member (translate s block (minus (group_of s.group) g h)) p
    hit_shifted h g p k l =
        hit s is block g (shifted (group_of s.group) h p) (shifted_within s is h p l) ∙ ap (has_member block) (less_twice p h g k)
        ∙ sym (hit s is block (minus (group_of s.group) g h) p l)

    -- as many translates hold two points as hold those that a shift carries them to
    covers_kept : (h p q : ℕ) → has_member shifts h ≡ true → p < point_count s → q < point_count s
        → covers s is shifts closed block set (shifted (group_of s.group) h p) (shifted (group_of s.group) h q) ≡ covers s is shifts closed block set p q
    covers_kept h p q i l k =
        let G = group_of s.group in
        let W : ℕ → ℕ = λ g. one (holds_both (translate s block g) p q) in
        list_total_agree (λ g. one (holds_both (translate s block g) (shifted G h p) (shifted G h q))) (λ g. W (minus G g h)) shifts (λ g j.
        let below = closed.below g (has_from shifts g j) in
        ap₂ (λ a b. one (a && b)) (hit_shifted h g p below l) (hit_shifted h g q below k))
        ∙ total_turned W h i

    both_turned : (a b : Bool) → (a && b) ≡ (b && a)
    both_turned true true = refl
    both_turned true false = refl
    both_turned false true = refl
    both_turned false false = refl

    covers_turned : (p q : ℕ) → covers s is shifts closed block set p q ≡ covers s is shifts closed block set q p
    covers_turned p q =
        list_total_agree (λ g. one (holds_both (translate s block g) p q)) (λ g. one (holds_both (translate s block g) q p)) shifts (λ g j.
        ap one (both_turned (has_member (translate s block g) p) (has_member (translate s block g) q)))

    occurs_kept : (h : ℕ) (x : ℕ × ℕ) → has_member shifts h ≡ true → IsPair s x
        → occurs_at s shifts (shifted_pair s h x).0 (shifted_pair s h x).1 block ≡ occurs_at s shifts x.0 x.1 block
    occurs_kept h x i pair =
        let a = shifted (group_of s.group) h x.0 in
        let b = shifted (group_of s.group) h x.1 in
        let stays = pair_stays s is h x pair in
        let low = pair.0 in
        let high = pair.1 in
        sym (covers_occurs s is shifts closed block set (shifted_pair s h x).0 (shifted_pair s h x).1 stays.0 stays.1)
        ∙ ⊎_elim (λ e. ap (λ (y : ℕ × ℕ). covers s is shifts closed block set y.0 y.1) e) (λ e. ap (λ (y : ℕ × ℕ). covers s is shifts closed block set y.0 y.1) e ∙ covers_turned b a) (order_either a b)
        ∙ covers_kept h x.0 x.1 i (omega arith) high
        ∙ covers_occurs s is shifts closed block set x.0 x.1 pair.0 pair.1

    summand_kept : (k : Kind) (h : ℕ) (x : ℕ × ℕ) → has_member shifts h ≡ true → IsPair s x
        → summand_at s shifts (shifted_pair s h x).0 (shifted_pair s h x).1 k block ≡ summand_at s shifts x.0 x.1 k block
    summand_kept kinds.Base h x i pair = occurs_kept h x i pair
    summand_kept kinds.Short h x i pair = ap (λ n. n / stabilizer_under s shifts block) (occurs_kept h x i pair)

  found_in : (ms : List Member) → AreSets s ms → (h : ℕ) (x : ℕ × ℕ) → has_member shifts h ≡ true → IsPair s x
      → list_total (λ (m : Member). summand_at s shifts (shifted_pair s h x).0 (shifted_pair s h x).1 m.kind m.block) ms ≡ list_total (λ (m : Member). summand_at s shifts x.0 x.1 m.kind m.block) ms
  found_in [] all h x i pair = refl
  found_in (m ∷ ms) all h x i pair =
      let here = summand_kept m.block all.0 m.kind h x i pair in
      let rest = found_in ms all.1 h x i pair in
      omega arith

  pub found_kept : AreSets s s.family → (h : ℕ) (x : ℕ × ℕ) → has_member shifts h ≡ true → IsPair s x → found_at s shifts (shifted_pair s h x).0 (shifted_pair s h x).1 ≡ found_at s shifts x.0 x.1
  found_kept all h x i pair =
      sym (list_total_is (λ (m : Member). summand_at s shifts (shifted_pair s h x).0 (shifted_pair s h x).1 m.kind m.block) s.family) ∙ found_in s.family all h x i pair
      ∙ list_total_is (λ (m : Member). summand_at s shifts x.0 x.1 m.kind m.block) s.family
