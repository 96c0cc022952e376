-- Translates of a block: which points they hold, and which elements give the same one.
use Rattle.std.proofs.Common.{◌≡◌, ℕ, ◌<◌, ◌≤◌, eqb, ◌||◌, List, [], ◌∷◌, map, refl, sym, ap, ◌∙◌, inl, inr, arith, lt-ltb, le-ltb}
use Rattle.std.proofs.lemmas.Slice.Eq.{bytes_eq-Decides}
use Rattle.std.proofs.lemmas.Bool.Decides.{same_from_decides, Decides-eqb}
use Rattle.std.proofs.lemmas.Bool.{cases_lt}
use Rattle.df_lists.proofs.SetLaws.{set_picked}
use Rattle.df_lists.specs.NumberSets.{has_member, IsSet}
use Rattle.df_lists.proofs.CountLaws.{has_filter, filter_same}
use Rattle.df_group.specs.Elements.{order_of, group_of, IsGroup, minus, shifted}
use Rattle.df_group.proofs.GroupLaws.{more_less, less_more, minus_plus, minus_zero}
use Rattle.df_lang.specs.Problems.{Stated, point_count}
use Rattle.df_family.specs.Translates.{translate, same_translate, fixes}

module _ (s : Stated) (is : IsGroup (group_of s.group)) where
  pub shifted_finite : (g p : ℕ) → p < order_of s.group → shifted (group_of s.group) g p ≡ (group_of s.group).plus p g
  shifted_finite g p h = rw (lt-ltb p (order_of s.group) h) refl

  pub shifted_fixed : (g p : ℕ) → order_of s.group ≤ p → shifted (group_of s.group) g p ≡ p
  shifted_fixed g p h = rw (le-ltb p (order_of s.group) h) refl

  pub shifted_within : (g p : ℕ) → p < point_count s → shifted (group_of s.group) g p < point_count s
  shifted_within g p h =
      elim (cases_lt p (order_of s.group)) [
        | inl l ↦ let e = shifted_finite g p l in let w = is.within p g in omega arith
        | inr r ↦ let e = shifted_fixed g p r in omega arith
      ]

  -- adding g and then -g
  pub there_and_back : (g p : ℕ) → shifted (group_of s.group) ((group_of s.group).neg g) (shifted (group_of s.group) g p) ≡ p
  there_and_back g p =
      elim (cases_lt p (order_of s.group)) [
        | inl l ↦ ap (shifted (group_of s.group) ((group_of s.group).neg g)) (shifted_finite g p l) ∙ shifted_finite ((group_of s.group).neg g) ((group_of s.group).plus p g) (is.within p g) ∙ more_less (group_of s.group) is p g l
        | inr r ↦ ap (shifted (group_of s.group) ((group_of s.group).neg g)) (shifted_fixed g p r) ∙ shifted_fixed ((group_of s.group).neg g) p r
      ]

  pub back_and_there : (g p : ℕ) → shifted (group_of s.group) g (shifted (group_of s.group) ((group_of s.group).neg g) p) ≡ p
  back_and_there g p =
      elim (cases_lt p (order_of s.group)) [
        | inl l ↦ ap (shifted (group_of s.group) g) (shifted_finite ((group_of s.group).neg g) p l) ∙ shifted_finite g (minus (group_of s.group) p g) (is.within p ((group_of s.group).neg g)) ∙ less_more (group_of s.group) is p g l
        | inr r ↦ ap (shifted (group_of s.group) g) (shifted_fixed ((group_of s.group).neg g) p r) ∙ shifted_fixed g p r
      ]

  -- back by b and then by a
  back_twice : (q a b : ℕ) → shifted (group_of s.group) ((group_of s.group).neg a) (shifted (group_of s.group) ((group_of s.group).neg b) q) ≡ shifted (group_of s.group) ((group_of s.group).neg ((group_of s.group).plus b a)) q
  back_twice q a b =
      elim (cases_lt q (order_of s.group)) [
        | inl l ↦
            ap (shifted (group_of s.group) ((group_of s.group).neg a)) (shifted_finite ((group_of s.group).neg b) q l) ∙ shifted_finite ((group_of s.group).neg a) (minus (group_of s.group) q b) (is.within q ((group_of s.group).neg b))
            ∙ minus_plus (group_of s.group) is q b a l ∙ sym (shifted_finite ((group_of s.group).neg ((group_of s.group).plus b a)) q l)
        | inr r ↦
            ap (shifted (group_of s.group) ((group_of s.group).neg a)) (shifted_fixed ((group_of s.group).neg b) q r) ∙ shifted_fixed ((group_of s.group).neg a) q r
            ∙ sym (shifted_fixed ((group_of s.group).neg ((group_of s.group).plus b a)) q r)
      ]

  same_point : (g a p : ℕ) → eqb (shifted (group_of s.group) g a) p ≡ eqb a (shifted (group_of s.group) ((group_of s.group).neg g) p)
  same_point g a p =
      same_from_decides (eqb (shifted (group_of s.group) g a) p) (eqb a (shifted (group_of s.group) ((group_of s.group).neg g) p)) (Decides-eqb (shifted (group_of s.group) g a) p)
      (let at = Decides-eqb a (shifted (group_of s.group) ((group_of s.group).neg g) p) in (
        λ e. ap (shifted (group_of s.group) g) (at.0 e) ∙ back_and_there g p,
        λ e. at.1 (sym (there_and_back g a) ∙ ap (shifted (group_of s.group) ((group_of s.group).neg g)) e),
      ))

  pub image_member : (g : ℕ) (points : List ℕ) (p : ℕ) → has_member (map (shifted (group_of s.group) g) points) p ≡ has_member points (shifted (group_of s.group) ((group_of s.group).neg g) p)
  image_member g [] p = refl
  image_member g (a ∷ points) p = ap (λ v. v || has_member (map (shifted (group_of s.group) g) points) p) (same_point g a p) ∙ ap (λ v. eqb a (shifted (group_of s.group) ((group_of s.group).neg g) p) || v) (image_member g points p)

  module _ (block : List ℕ) where
    -- a translate holds a point exactly where the block holds the point that it comes from
    pub hit : (g p : ℕ) → p < point_count s → has_member (translate s block g) p ≡ has_member block (shifted (group_of s.group) ((group_of s.group).neg g) p)
    hit g p h = has_filter (has_member (map (shifted (group_of s.group) g) block)) (point_count s) p h ∙ image_member g block p

    pub translate_twice : (a b : ℕ) → translate s (translate s block a) b ≡ translate s block ((group_of s.group).plus b a)
    translate_twice a b =
        filter_same (has_member (map (shifted (group_of s.group) b) (translate s block a))) (has_member (map (shifted (group_of s.group) ((group_of s.group).plus b a)) block)) (point_count s) (λ q h.
        image_member b (translate s block a) q ∙ hit a (shifted (group_of s.group) ((group_of s.group).neg b) q) (shifted_within ((group_of s.group).neg b) q h)
        ∙ ap (has_member block) (back_twice q a b) ∙ sym (image_member ((group_of s.group).plus b a) block q))

    pub translate_zero : IsSet (point_count s) block → translate s block 0 ≡ block
    translate_zero set = filter_same (has_member (map (shifted (group_of s.group) 0) block)) (has_member block) (point_count s) (λ q h. image_member 0 block q ∙ ap (has_member block) (stays q)) ∙ sym (set_picked (point_count s) block set)
      where
        stays : (q : ℕ) → shifted (group_of s.group) ((group_of s.group).neg 0) q ≡ q
        stays q = elim (cases_lt q (order_of s.group)) [ inl l ↦ shifted_finite ((group_of s.group).neg 0) q l ∙ minus_zero (group_of s.group) is q l | inr r ↦ shifted_fixed ((group_of s.group).neg 0) q r ]

    module _ (set : IsSet (point_count s) block) where
      -- h and g give the same translate exactly where g - h fixes the block
      pub same_by_stabilizer : (h g : ℕ) → g < order_of s.group → same_translate s block h g ≡ fixes s block (minus (group_of s.group) g h)
      same_by_stabilizer h g l =
          same_from_decides (same_translate s block h g) (fixes s block (minus (group_of s.group) g h)) (bytes_eq-Decides (translate s block h) (translate s block g))
          (let at = bytes_eq-Decides (translate s block (minus (group_of s.group) g h)) block in (
            λ e. ap (λ b. translate s b h) (sym (at.0 e)) ∙ translate_twice (minus (group_of s.group) g h) h ∙ ap (translate s block) (is.comm h (minus (group_of s.group) g h) ∙ less_more (group_of s.group) is g h l),
            λ e. at.1 (
                ap (translate s block) (is.comm g ((group_of s.group).neg h)) ∙ sym (translate_twice g ((group_of s.group).neg h)) ∙ ap (λ b. translate s b ((group_of s.group).neg h)) (sym e)
                ∙ translate_twice h ((group_of s.group).neg h) ∙ ap (translate s block) (is.comm ((group_of s.group).neg h) h ∙ is.neg h) ∙ translate_zero set),
          ))
