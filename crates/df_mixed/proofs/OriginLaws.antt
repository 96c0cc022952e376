-- The pairs that the shifts carry to a pair are those of its orbit, and blocks that hold them are translates that hold the pair.
use Rattle.std.proofs.Common.{◌≡◌, ℕ, ◌/◌, ◌<◌, Bool, true, not, ◌&&◌, List, [], ◌∷◌, map, filter, length, refl, sym, ap, ap₂, ◌∙◌, arith, subst, count_by, mul_comm, mul-div_cancel}
use Rattle.std.specs.List.{list_all}
use Rattle.std.proofs.lemmas.List.{length-map}
use Rattle.df_lists.specs.NumberSets.{IsSet}
use Rattle.df_lists.specs.Totals.{one}
use Rattle.df_lists.proofs.CountLaws.{list_count_is, list_count_map, list_total_is}
use Rattle.df_lists.proofs.ListTotals.{list_total, list_total_agree}
use Rattle.df_lists.proofs.MemberLaws.{In-map, In-map_gives}
use Rattle.df_lists.proofs.TestLaws.{same_tests, all_from, all_gives, has_from, has_gives}
use Rattle.df_group.specs.Elements.{order_of, group_of, IsGroup}
use Rattle.df_group.specs.ClosedSets.{IsClosed}
use Rattle.df_group.proofs.GroupLaws.{neg_is}
use Rattle.df_lang.specs.declared.pieces.Kind.{Kind}
use Rattle.df_lang.specs.declared.pieces.Kind.TheVariants as kinds
use Rattle.df_lang.specs.declared.pieces.Member.{Member}
use Rattle.df_lang.specs.Problems.{Stated, point_count}
use Rattle.df_lang.specs.Balance.{holds_both}
use Rattle.df_family.specs.Translates.{translate, stabilizer_under}
use Rattle.df_family.specs.Developments.{translates_under}
use Rattle.df_family.specs.Covers.{summand_at, found_at}
use Rattle.df_family.proofs.TranslateLaws.{hit}
use Rattle.df_family.proofs.ShiftLaws.{all_pass, stabilizer_some}
use Rattle.df_family.proofs.CoverLaws.{covers, covers_occurs, translates_length}
use Rattle.df_family.proofs.BalanceLaws.{AreSets}
use Rattle.df_mixed.specs.PairOrbits.{in_order, is_earlier, shifted_pair, is_row}
use Rattle.df_mixed.specs.Origins.{origin_of, origins_of, divisor_of, counted, share, shares}

div_one : (n : ℕ) → n / 1 ≡ n
div_one n = omega arith

module _ (s : Stated) (is : IsGroup (group_of s.group)) (shifts : List ℕ) (closed : IsClosed s.group shifts) where
  neg_twice : (g : ℕ) → g < order_of s.group → (group_of s.group).neg ((group_of s.group).neg g) ≡ g
  neg_twice g h =
      let G = group_of s.group in
      sym (neg_is G is (G.neg g) g h (is.comm (G.neg g) g ∙ is.neg g))

  -- the pairs of the orbit are the same from both ends
  pub representative_row : (p q : ℕ) → list_all (λ (o : ℕ × ℕ). not (is_earlier (in_order o.0 o.1) (p, q))) (origins_of s shifts p q) ≡ is_row s shifts (p, q)
  representative_row p q =
      same_tests (list_all (λ (o : ℕ × ℕ). not (is_earlier (in_order o.0 o.1) (p, q))) (origins_of s shifts p q)) (is_row s shifts (p, q)) one_way other_way
    where
      late : ℕ × ℕ → Bool
      late o = not (is_earlier (in_order o.0 o.1) (p, q))

      origin : ℕ → ℕ × ℕ
      origin g = (origin_of s p g, origin_of s q g)

      one_way : list_all late (origins_of s shifts p q) ≡ true → is_row s shifts (p, q) ≡ true
      one_way h = all_from (λ g. not (is_earlier (shifted_pair s g (p, q)) (p, q))) shifts (λ g i.
          let n = (group_of s.group).neg g in
          let has = has_from shifts g i in
          let at = all_gives late (origins_of s shifts p q) h (origin n) (In-map origin shifts n (has_gives shifts n (closed.neg g has))) in
          subst (λ e. not (is_earlier (shifted_pair s e (p, q)) (p, q)) ≡ true) (neg_twice g (closed.below g has)) at)

      other_way : is_row s shifts (p, q) ≡ true → list_all late (origins_of s shifts p q) ≡ true
      other_way h = all_from late (origins_of s shifts p q) (λ o i.
          let m = In-map_gives origin shifts o i in
          let n = (group_of s.group).neg m.0 in
          let has = has_from shifts m.0 m.1 in
          subst (λ y. late y ≡ true) m.2 (all_gives (λ g. not (is_earlier (shifted_pair s g (p, q)) (p, q))) shifts h n (has_gives shifts n (closed.neg m.0 has))))

  module _ (block : List ℕ) (set : IsSet (point_count s) block) where
    -- as many origins lie in a block as translates of it hold the pair
    held_covers : (p q : ℕ) → p < point_count s → q < point_count s
        → count_by (λ (o : ℕ × ℕ). holds_both block o.0 o.1) (origins_of s shifts p q) ≡ covers s is shifts closed block set p q
    held_covers p q h k =
        let t : ℕ × ℕ → Bool = λ o. holds_both block o.0 o.1 in
        sym (list_count_is t (origins_of s shifts p q)) ∙ list_count_map t (λ g. (origin_of s p g, origin_of s q g)) shifts
        ∙ list_total_agree (λ g. one (holds_both block (origin_of s p g) (origin_of s q g))) (λ g. one (holds_both (translate s block g) p q)) shifts (λ g i.
        sym (ap₂ (λ a b. one (a && b)) (hit s is block g p h) (hit s is block g q k)))

    share_is : (k : Kind) (p q : ℕ) → p < q → q < point_count s → share (origins_of s shifts p q) record { block = block; divisor = divisor_of s shifts k block } ≡ summand_at s shifts p q k block
    share_is kinds.Base p q h l = div_one _ ∙ held_covers p q (omega arith) l ∙ covers_occurs s is shifts closed block set p q h l
    share_is kinds.Short p q h l = ap (λ n. n / stabilizer_under s shifts block) (held_covers p q (omega arith) l ∙ covers_occurs s is shifts closed block set p q h l)

    pub divisor_some : (k : Kind) → 0 < divisor_of s shifts k block
    divisor_some kinds.Base = omega arith
    divisor_some kinds.Short = stabilizer_some s is shifts closed block set

    -- the order of the subgroup, divided, is the number of translates that are listed
    pub quotient_is : (k : Kind) → length shifts / divisor_of s shifts k block ≡ length (translates_under s shifts record { kind = k; block = block })
    quotient_is kinds.Base =
        div_one (length shifts) ∙ sym (length-map (filter (λ g. true) shifts) (translate s block) ∙ ap length (all_pass (λ g. true) shifts (λ g. refl)))
    quotient_is kinds.Short =
        let m = stabilizer_under s shifts block in
        let n = length (translates_under s shifts record { kind = kinds.Short; block = block }) in
        ap (λ x. x / m) (translates_length s is shifts closed block set ∙ mul_comm m n) ∙ mul-div_cancel n (stabilizer_some s is shifts closed block set)

  shares_in : (ms : List Member) → AreSets s ms → (p q : ℕ) → p < q → q < point_count s
      → list_total (share (origins_of s shifts p q)) (map (counted s shifts) ms) ≡ list_total (λ (m : Member). summand_at s shifts p q m.kind m.block) ms
  shares_in [] all p q h k = refl
  shares_in (m ∷ ms) all p q h k =
      let here = share_is m.block all.0 m.kind p q h k in
      let rest = shares_in ms all.1 p q h k in
      omega arith

  -- the blocks of a family hold a pair as often as it is found
  pub shares_found : AreSets s s.family → (p q : ℕ) → p < q → q < point_count s → shares (origins_of s shifts p q) (map (counted s shifts) s.family) ≡ found_at s shifts p q
  shares_found all p q h k =
      sym (list_total_is (share (origins_of s shifts p q)) (map (counted s shifts) s.family)) ∙ shares_in s.family all p q h k ∙ list_total_is (λ (m : Member). summand_at s shifts p q m.kind m.block) s.family
