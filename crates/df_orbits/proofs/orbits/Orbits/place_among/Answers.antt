use Rattle.std.proofs.Common.{◌≡◌, ◌<◌, ◌≤◌, ◌+◌, ◌-◌, ◌/◌, ◌∙◌, [], true, false, length, get_or, ap, sym, arith, slice_get}
use Rattle.std.proofs.lemmas.List.{length-map}
use Rattle.std.proofs.lemmas.Option.{get_or_from_slice_get}
use Rattle.df_subsets.specs.Blocks.{before}
use Rattle.df_subsets.proofs.BlockOrders.{before_is}
use Rattle.df_orbits.specs.Orbits.{listed_representatives}
use Rattle.df_orbits.proofs.OrbitLists.{shown, member_at}
use Rattle.df_orbits.proofs.OrbitNumbers.{half_below, half_above}
use Rattle.df_orbits.proofs.orbits.Orbits.place_among.Goals as goal

pub loop-low-preserved-then-lt : goal.loop-low-preserved-then-lt
loop-low-preserved-then-lt c =
    let now = c.args.self.now in
    let items = c.self.inside.found.items in
    let middle = c.loop-low.low + (c.loop-low.high - c.loop-low.low) / 2 in
    let x = c.index.result.now in
    let b = c.args.block.now in
    let long : length (listed_representatives now) ≡ length now = simp length-map in
    let listed : length items ≡ length now = sym (length-map items shown) ∙ ap length c.self.view_is in
    let low = c.loop-low-test.true in
    let within : middle < length items = omega (arith, listed, low, c.loop-low.invariant.end) in
    let at : get_or (listed_representatives now) middle [] ≡ x.block = get_or_from_slice_get (listed_representatives now) middle x.block [] (ap (λ l. slice_get (listed_representatives l) middle) (sym c.self.view_is) ∙ member_at items middle x within c.index.ensures) in
    let test : before (get_or (listed_representatives now) middle []) b ≡ true = ap (λ y. before y b) at ∙ before_is x.block b ∙ sym c.lt.ensures ∙ c.if-lt.true in
    record {
      order = omega (arith, low);
      end = c.loop-low.invariant.end;
      earlier = half_below (listed_representatives now) b middle c.requires (omega (arith, within, listed, long)) test;
      later = c.loop-low.invariant.later;
    }

pub loop-low-preserved : goal.loop-low-preserved
loop-low-preserved c =
    let now = c.args.self.now in
    let items = c.self.inside.found.items in
    let middle = c.loop-low.low + (c.loop-low.high - c.loop-low.low) / 2 in
    let x = c.index.result.now in
    let b = c.args.block.now in
    let long : length (listed_representatives now) ≡ length now = simp length-map in
    let listed : length items ≡ length now = sym (length-map items shown) ∙ ap length c.self.view_is in
    let low = c.loop-low-test.true in
    let within : middle < length items = omega (arith, listed, low, c.loop-low.invariant.end) in
    let at : get_or (listed_representatives now) middle [] ≡ x.block = get_or_from_slice_get (listed_representatives now) middle x.block [] (ap (λ l. slice_get (listed_representatives l) middle) (sym c.self.view_is) ∙ member_at items middle x within c.index.ensures) in
    let test : before (get_or (listed_representatives now) middle []) b ≡ false = ap (λ y. before y b) at ∙ before_is x.block b ∙ sym c.lt.ensures ∙ c.if-lt.false in
    record {
      order = omega (arith, low);
      end = omega (arith, within, listed);
      earlier = c.loop-low.invariant.earlier;
      later = λ i h k. half_above (listed_representatives now) b middle c.requires test i h (omega (arith, k, long));
    }
