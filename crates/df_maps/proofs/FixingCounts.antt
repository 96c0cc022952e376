-- How many maps move a block into itself, by the numbers of the maps.
use Rattle.std.proofs.Common.{◌≡◌, ◌<◌, ◌+◌, ◌*◌, ◌/◌, ◌∙◌, ℕ, List, Bool, cond, ap, ap₂, sym, length, arith, ⊎_elim, mul_comm}
use Rattle.std.proofs.Math.Nat.{mul-div_cancel}
use Rattle.std.proofs.lemmas.Bool.{cases_lt}
use Rattle.std.specs.List.{range_with_len}
use Rattle.df_lists.specs.Membership.{count}
use Rattle.df_lists.specs.NumberSets.{IsSet}
use Rattle.df_lists.proofs.MemberLaws.{count-map}
use Rattle.df_subsets.specs.Subsets.{same_list, subsets}
use Rattle.df_acting.specs.Orbits.{in_one_orbit_by}
use Rattle.df_maps.specs.FullMaps.{MapGroup, image, map_number, full_maps, point_count}
use Rattle.df_maps.specs.Laws.{AreGroup}
use Rattle.df_maps.proofs.LoopSteps.{count_more}

-- how many of the maps below number n move the block into itself
abbrev pub fixing : MapGroup → List ℕ → ℕ → ℕ
fixing M b n = count (λ j. same_list (image M (map_number M j) b) b) (range_with_len 0 n)

-- one map more
pub fixing_more : (M : MapGroup) (b x : List ℕ) (old new i : ℕ) (v : Bool) → old ≡ fixing M b i → x ≡ image M (map_number M i) b → same_list x b ≡ v → new ≡ old + cond v 1 0 → new ≡ fixing M b (i + 1)
fixing_more M b x old new i v is at test put = put ∙ ap₂ (λ a w. a + cond w 1 0) is (sym test ∙ ap (λ y. same_list y b) at) ∙ sym (count_more (λ j. same_list (image M (map_number M j) b) b) i)

module _ (M : MapGroup) (A : AreGroup M) (b : List ℕ) (set : IsSet (point_count M) b) (f n : ℕ) (counted : f ≡ fixing M b n) (end : length (full_maps M) ≡ n) where
  all_fixing : f ≡ count (λ g. same_list (image M g b) b) (full_maps M)
  all_fixing =
      counted ∙ sym (ap (fixing M b) end)
      ∙ sym (ap (count (λ g. same_list (image M g b) b)) A.numbered ∙ count-map (λ g. same_list (image M g b) b) (map_number M) (range_with_len 0 (length (full_maps M))))

  abbrev size : ℕ
  size = count (in_one_orbit_by same_list (image M) (full_maps M) b) (subsets (point_count M) (length b))

  product : length (full_maps M) ≡ f * size
  product = A.orbits b set ∙ ap (λ k. k * size) (sym all_fixing)

  -- some map does, where there is one
  pub fixing_some : 0 < length (full_maps M) → 0 < f
  fixing_some some = ⊎_elim (λ l. l) (λ l. absurd (let z : f ≡ 0 = omega (arith, l) in let y : length (full_maps M) ≡ 0 = product ∙ ap (λ k. k * size) z ∙ omega arith in omega (arith, y, some))) (cases_lt 0 f)

  -- the size of the orbit is a quotient
  pub size_is : (maps : ℕ) → maps ≡ length (full_maps M) → 0 < maps → maps / f ≡ count (in_one_orbit_by same_list (image M) (full_maps M) b) (subsets (point_count M) (length b))
  size_is maps all some = ap (λ m. m / f) (all ∙ product ∙ mul_comm f size) ∙ mul-div_cancel size (fixing_some (omega (arith, all, some)))
