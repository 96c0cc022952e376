-- The number of later blocks, from a table.
use Rattle.std.proofs.Common.{◌≡◌, ℕ, suc, zero, ◌+◌, ◌-◌, ◌*◌, ◌/◌, ◌%◌, ◌<◌, ◌≤◌, ◌∷◌, List, [], length, get_or, drop, sym, ap, ap₂, ◌∙◌, subst, arith}
use Rattle.std.proofs.lemmas.List.{drop_more, drop_all, length-drop}
use Rattle.std.proofs.lemmas.Nat.{div-mul-add, mod-mul-add, mul-add-lt}
use Rattle.df_lists.specs.NumberSets.{Rises, IsSet}
use Rattle.df_subsets.specs.Subsets.{binomial, rank}
use Rattle.df_lists.proofs.RisingLists.{point_below}
use Rattle.df_subsets.proofs.Places.{later, rank_later}
use Rattle.df_orbits.specs.LookupTables.{AreLater}

-- a point of a block is no less than the number of those before it
point_above : (low v : ℕ) (b : List ℕ) (i d : ℕ) → Rises low v b → i < length b → low + i ≤ get_or b i d
point_above low v [] i d r h = absurd (omega arith)
point_above low v (p ∷ b) zero d r h = omega (arith, r.0)
point_above low v (p ∷ b) (suc i) d r h = let m = point_above (p + 1) v b i d r.2 (omega arith) in omega (arith, m, r.0)

-- the blocks that come after, at one point more
later_more : (v : ℕ) (b : List ℕ) (i x : ℕ) → i < length b → x ≡ get_or b i x → later v (drop i b) ≡ binomial (v - 1 - x) (length b - i) + later v (drop (i + 1) b)
later_more v b i x h at =
    let split : drop i b ≡ x ∷ drop (i + 1) b = drop_more b i x h ∙ ap (λ y. y ∷ drop (i + 1) b) (sym at) in
    let long : length (x ∷ drop (i + 1) b) ≡ length b - i = sym (ap length split) ∙ length-drop i b in
    ap (later v) split ∙ ap (λ n. binomial (v - 1 - x) n + later v (drop (i + 1) b)) long

module _ (v k all : ℕ) (table : List ℕ) (is : AreLater v k all table) (b : List ℕ) (block : IsSet v b) (size : length b ≡ k) where
  module _ (i x : ℕ) (h : i < length b) (at : x ≡ get_or b i x) where
    below : x < v
    below = subst (λ y. y < v) (sym at) (point_below 0 v b i x block h)

    above : i ≤ x
    above = let m = point_above 0 v b i x block h in omega (arith, m, at)

    -- where the number is looked up
    pub later_place : i * v + x < length table
    later_place = omega (arith, mul-add-lt i v x (k + 1) (omega (arith, h, size)) below, is.long)

    pub later_found : (y : ℕ) → y ≡ get_or table (i * v + x) 0 → later v (drop i b) ≡ y + later v (drop (i + 1) b)
    later_found y found =
        let entry = is.later i x (omega (arith, h, size)) below (omega (arith, above)) in
        later_more v b i x h at ∙ ap (λ n. n + later v (drop (i + 1) b)) (ap (λ n. binomial (v - 1 - x) (n - i)) size ∙ sym (found ∙ entry))

  pub later_few : later v b < all
  later_few = let e = rank_later v b block in let n = ap (binomial v) size in omega (arith, e, n, is.all_is)

  -- all points are counted
  pub later_whole : (count i : ℕ) → length b ≤ i → count + later v (drop i b) ≡ later v b → (count + 1 ≤ all) × (all - 1 - count ≡ rank v b)
  later_whole count i h e =
      let none : later v (drop i b) ≡ 0 = ap (later v) (drop_all i b h) in
      let r = rank_later v b block in
      let n = ap (binomial v) size in
      (omega (arith, none, r, n, e, is.all_is), omega (arith, none, r, n, e, is.all_is))

-- a table that was filled place by place
pub later_filled : (v k all : ℕ) (table : List ℕ) → v ≤ 128 → 1 ≤ k → k ≤ v → all ≡ binomial v k → all ≤ 8000000 → length table ≡ (k + 1) * v
    → ((n : ℕ) → n < length table → n / v ≤ n % v + 1 → get_or table n 0 ≡ binomial (v - 1 - n % v) (k - n / v)) → AreLater v k all table
later_filled v k all table small some within is few long filled = record {
  small = small;
  some = some;
  within = within;
  all_is = is;
  few = few;
  long = long;
  later = λ j p h l o.
      let place = mul-add-lt j v p (k + 1) (omega (arith, h)) l in
      let row = div-mul-add j v p l in
      let column = mod-mul-add j v p l in
      filled (j * v + p) (omega (arith, place, long)) (omega (arith, row, column, o)) ∙ ap₂ (λ q r. binomial (v - 1 - r) (k - q)) row column;
}
