use Rattle.std.proofs.Common.{◌≡◌, ℕ, ◌+◌, ◌-◌, ◌^◌, ◌<◌, ◌≤◌, ◌∷◌, List, ap, sym, subst, refl, ◌∙◌, arith, length, drop, get_or}
use Rattle.std.proofs.lemmas.List.{drop_more, drop_all, length-drop}
use Rattle.df_lists.specs.NumberSets.{IsSet}
use Rattle.df_subsets.specs.Subsets.{binomial, rank}
use Rattle.df_lists.proofs.RisingLists.{point_below}
use Rattle.df_subsets.proofs.Binomials.{binomial_fits}
use Rattle.df_subsets.proofs.Places.{later, rank_later, at_rank}
use Rattle.df_subsets.proofs.subsets.rank.Goals as goal

-- the blocks that come after, at one more point
counted : (v : ℕ) (b : List ℕ) (i x left : ℕ) → i < length b → x ≡ get_or b i x → left + i ≡ length b → later v (drop i b) ≡ binomial (v - 1 - x) left + later v (drop (i + 1) b)
counted v b i x left h at e =
    let split : drop i b ≡ x ∷ drop (i + 1) b = drop_more b i x h ∙ ap (λ y. y ∷ drop (i + 1) b) (sym at) in
    let long : length (x ∷ drop (i + 1) b) ≡ left = sym (ap length split) ∙ length-drop i b ∙ omega (arith, e) in
    ap (later v) split ∙ ap (λ n. binomial (v - 1 - x) n + later v (drop (i + 1) b)) long

few : (v : ℕ) (b : List ℕ) → v ≤ 128 → IsSet v b → later v b < 2 ^ 128
few v b h r = let a = rank_later v b r in let f = binomial_fits v (length b) h in omega (arith, a, f)

pub loop-p-init : goal.loop-p-init
loop-p-init c = record {
  items = c.as_slice-p-items.ensures.value ∙ c.points-points.ensures.list;
  counted = omega arith;
  left = omega (arith, c.len-size.ensures.value, ap length c.points-points.ensures.list);
  size = c.len-size.ensures.value ∙ ap length c.points-points.ensures.list;
}

pub overflow_sub-v-in-loop-p : goal.overflow_sub-v-in-loop-p
overflow_sub-v-in-loop-p c =
    let b = c.args.block.now in
    let i = c.loop-p.p-index in
    let inside : i < length b = omega (arith, c.loop-p-test.true, ap length c.loop-p.invariant.items) in
    let at = subst (λ l. c.p-item.result ≡ get_or l i c.p-item.result) c.loop-p.invariant.items c.p-item.is in
    omega (arith, at, c.p.view_is, point_below 0 c.args.v b i c.p-item.result c.requires.within inside)

pub overflow_add-later : goal.overflow_add-later
overflow_add-later c =
    let v = c.args.v in
    let b = c.args.block.now in
    let i = c.loop-p.p-index in
    let inside : i < length b = omega (arith, c.loop-p-test.true, ap length c.loop-p.invariant.items) in
    let at = subst (λ y. y ≡ get_or b i y) (sym c.p.view_is) (subst (λ l. c.p-item.result ≡ get_or l i c.p-item.result) c.loop-p.invariant.items c.p-item.is) in
    omega (arith, c.choices-later.ensures, c.loop-p.invariant.counted, counted v b i c.p.inside.0 c.loop-p.left inside at c.loop-p.invariant.left, few v b c.requires.small c.requires.within)

pub overflow_sub-left : goal.overflow_sub-left
overflow_sub-left c = omega (arith, c.loop-p-test.true, ap length c.loop-p.invariant.items, c.loop-p.invariant.left)

pub loop-p-preserved : goal.loop-p-preserved
loop-p-preserved c =
    let v = c.args.v in
    let b = c.args.block.now in
    let i = c.loop-p.p-index in
    let inside : i < length b = omega (arith, c.loop-p-test.true, ap length c.loop-p.invariant.items) in
    let at = subst (λ y. y ≡ get_or b i y) (sym c.p.view_is) (subst (λ l. c.p-item.result ≡ get_or l i c.p-item.result) c.loop-p.invariant.items c.p-item.is) in
    record {
      items = c.loop-p.invariant.items;
      counted = omega (arith, c.choices-later.ensures, c.loop-p.invariant.counted, counted v b i c.p.inside.0 c.loop-p.left inside at c.loop-p.invariant.left);
      left = omega (arith, inside, c.loop-p.invariant.left);
      size = c.loop-p.invariant.size;
    }

-- all points are counted
whole : (v later_count size i : ℕ) (b : List ℕ) → length b ≤ i → later_count + later v (drop i b) ≡ later v b → size ≡ length b → IsSet v b → rank v b + later_count + 1 ≡ binomial v size
whole v m size i b h e s r =
    let none : later v (drop i b) ≡ 0 = ap (later v) (drop_all i b h) in
    let a = rank_later v b r in
    let same = ap (binomial v) s in
    omega (arith, none, a, same, e)

pub overflow_sub-result : goal.overflow_sub-result
overflow_sub-result c =
    let all = whole c.args.v c.loop-p.later c.len-size.result c.loop-p.p-index c.args.block.now (omega (arith, c.loop-p-test.false, ap length c.loop-p.invariant.items)) c.loop-p.invariant.counted c.loop-p.invariant.size c.requires.within in
    omega (arith, all, c.choices.ensures)

pub overflow_sub-result-2 : goal.overflow_sub-result-2
overflow_sub-result-2 c =
    let all = whole c.args.v c.loop-p.later c.len-size.result c.loop-p.p-index c.args.block.now (omega (arith, c.loop-p-test.false, ap length c.loop-p.invariant.items)) c.loop-p.invariant.counted c.loop-p.invariant.size c.requires.within in
    omega (arith, all, c.choices.ensures)

pub returns : goal.returns
returns c =
    let v = c.args.v in
    let b = c.args.block.now in
    let all = whole v c.loop-p.later c.len-size.result c.loop-p.p-index b (omega (arith, c.loop-p-test.false, ap length c.loop-p.invariant.items)) c.loop-p.invariant.counted c.loop-p.invariant.size c.requires.within in
    let is : c.choices.result - 1 - c.loop-p.later ≡ rank v b = omega (arith, all, c.choices.ensures) in
    let same = rank_later v b c.requires.within in
    rw is record { rank = refl; place = at_rank v (length b) b c.requires.within refl; below = omega (arith, same) }
