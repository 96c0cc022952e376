use Rattle.std.proofs.Common.{◌≡◌, ◌+◌, ◌*◌, arith, ap, length}
use Rattle.df_orbits.proofs.LaterCounts.{later_filled}
use Rattle.df_orbits.proofs.places.Places.new.Goals as goal

pub invariant_of-result : goal.invariant_of-result
invariant_of-result c =
    let v = c.args.points in
    let k = c.args.size in
    let items = c.loop-place.later.items in
    let long : length items ≡ (k + 1) * v = omega (arith, c.loop-place.invariant.long, c.loop-place-test.false, ap (λ w. (k + 1) * w) c.from-width.ensures, ap (λ w. (w + 1) * c.from-width.result) c.from.ensures) in
    later_filled v k c.binomial.result items c.requires.small c.requires.some c.requires.within c.binomial.ensures.value (omega (arith, c.binomial.ensures.value, c.requires.few)) long
    (λ n h l. c.loop-place.invariant.later n (omega (arith, h, c.loop-place.invariant.long)) l)
