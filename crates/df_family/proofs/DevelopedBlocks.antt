-- The blocks of a development are blocks of the problem: translates have the points' range and the number of points of their block.
use Rattle.std.proofs.Common.{◌≡◌, ℕ, ◌≤◌, Bool, true, false, ◌||◌, eqb, List, [], ◌∷◌, map, filter, length, All, refl, sym, ap, ◌∙◌, arith}
use Rattle.std.proofs.lemmas.List.Elements.{All-head, All-tail, All-map, All-weaker}
use Rattle.std.proofs.lemmas.Bool.{eqb-true}
use Rattle.df_lists.specs.NumberSets.{has_member, IsSet}
use Rattle.df_lists.specs.Totals.{total, one}
use Rattle.df_lists.proofs.TotalLaws.{total_same, total_turn}
use Rattle.df_lists.proofs.SetLaws.{filter_is_set}
use Rattle.df_group.specs.Elements.{group_of, IsGroup, shifted}
use Rattle.df_group.proofs.ElementLaws.{is_group}
use Rattle.df_lang.specs.declared.pieces.Member.{Member}
use Rattle.df_lang.specs.Problems.{Stated, IsStated, IsBlock, IsSize, point_count}
use Rattle.df_family.specs.Translates.{translate}
use Rattle.df_family.specs.Developments.{is_listed, translates_under, develop_under}
use Rattle.df_family.proofs.TranslateLaws.{hit, shifted_within, there_and_back, back_and_there}
use Rattle.df_lists.proofs.ListTotals.{length_total}
use Rattle.df_family.proofs.ShiftLaws.{list_total_set}
use Rattle.df_family.proofs.TableRows.{All-flat_map}

length_set : (n : ℕ) (set : List ℕ) → IsSet n set → length set ≡ total (λ i. one (has_member set i)) n
length_set n set is = length_total set ∙ list_total_set n set (λ x. 1) is

translate_is_set : (s : Stated) (block : List ℕ) (g : ℕ) → IsSet (point_count s) (translate s block g)
translate_is_set s block g = filter_is_set (has_member (map (shifted (group_of s.group) g) block)) (point_count s)

module _ (s : Stated) (is : IsGroup (group_of s.group)) where
  pub translate_length : (block : List ℕ) (g : ℕ) → IsSet (point_count s) block → length (translate s block g) ≡ length block
  translate_length block g set =
      let v = point_count s in
      let back = (group_of s.group).neg g in
      length_set v (translate s block g) (translate_is_set s block g)
      ∙ total_same (λ p. one (has_member (translate s block g) p)) (λ p. one (has_member block (shifted (group_of s.group) back p))) v (λ p h. ap one (hit s is block g p h))
      ∙ total_turn (λ p. one (has_member block p)) v (shifted (group_of s.group) back) (shifted (group_of s.group) g) (record {
        within = λ p h. shifted_within s is back p h;
        within_back = λ p h. shifted_within s is g p h;
        returns = λ p h. back_and_there s is g p;
        returns_back = λ p h. there_and_back s is g p;
      })
      ∙ sym (length_set v block set)

  translated_block : (block : List ℕ) (g : ℕ) → IsBlock (point_count s) s.sizes block → IsBlock (point_count s) s.sizes (translate s block g)
  translated_block block g h = record { set = translate_is_set s block g; size = ap (has_member s.sizes) (translate_length block g h.set) ∙ h.size }

  developed : (shifts : List ℕ) → All (λ (m : Member). IsBlock (point_count s) s.sizes m.block) s.family → All (IsBlock (point_count s) s.sizes) (develop_under s shifts)
  developed shifts each =
      All-flat_map (IsBlock (point_count s) s.sizes) (translates_under s shifts) s.family
      (All-weaker (λ (m : Member). IsBlock (point_count s) s.sizes m.block) (λ (m : Member). All (IsBlock (point_count s) s.sizes) (translates_under s shifts m)) (λ m h.
      All-map (IsBlock (point_count s) s.sizes) (translate s m.block) (filter (is_listed s shifts m.kind m.block) shifts) (λ k d l. translated_block m.block _ h))
      s.family each)

pub developed_blocks : (s : Stated) → IsStated s → (shifts : List ℕ) → All (IsBlock (point_count s) s.sizes) (develop_under s shifts)
developed_blocks s is shifts = developed s (is_group s.group is.shape) shifts is.family

-- one of the sizes is at most 16
size_at_most : (v k : ℕ) (sizes : List ℕ) → All (IsSize v) sizes → has_member sizes k ≡ true → k ≤ 16
size_at_most v k [] each h = absurd (cc)
size_at_most v k (n ∷ sizes) each h = go (eqb n k) refl h (size_at_most v k sizes (All-tail (IsSize v) n sizes each))
  where
    go : (b : Bool) → eqb n k ≡ b → (b || has_member sizes k) ≡ true → (has_member sizes k ≡ true → k ≤ 16) → k ≤ 16
    go true e m rest = let same = eqb-true n k e in let high = (All-head (IsSize v) n sizes each).high in omega arith
    go false e m rest = rest m

-- a developed block has at most 16 points
pub developed_sizes : (s : Stated) → IsStated s → (shifts : List ℕ) → All (λ (block : List ℕ). length block ≤ 16) (develop_under s shifts)
developed_sizes s is shifts = All-weaker (IsBlock (point_count s) s.sizes) (λ (block : List ℕ). length block ≤ 16) (λ block h. size_at_most (point_count s) (length block) s.sizes is.sizes h.size) (develop_under s shifts) (developed_blocks s is shifts)
