use Rattle.std.proofs.Common.{◌-◌, ◌*◌, ◌%◌, get_or, arith}
use Rattle.df_group.proofs.MultipleLaws.{are_multiples}
use Rattle.df_group.proofs.PlaceSums.{weight_more, weight_small, place_small, rest_before, multiple_small, multiple_before, multiple_end, times_high}
use Rattle.df_group.proofs.places.multiple.Goals as goal
use Rattle.df_group.proofs.places.multiple.Goals.{After-loop-i}

pub overflow_mul-multiple-in-loop-i : goal.overflow_mul-multiple-in-loop-i
overflow_mul-multiple-in-loop-i c =
    let f = get_or c.args.factors.now (c.loop-i.i - 1) 0 in
    omega (arith, place_small c.args.factors.now c.requires.shape c.loop-i.i c.loop-i.weight c.loop-i.invariant.at (c.args.m * (c.loop-i.rest % f)))

pub overflow_add-multiple : goal.overflow_add-multiple
overflow_add-multiple c =
    let inv = c.loop-i.invariant in
    let more = multiple_before c.args.factors.now c.requires.shape c.loop-i.i c.loop-i.weight inv.at c.args.m c.args.a c.loop-i.multiple c.loop-i.rest inv.done inv.rest in
    omega (arith, more, multiple_small c.args.factors.now c.requires.shape c.loop-i.i c.loop-i.weight c.loop-i.invariant.at c.args.m c.args.a)

pub overflow_mul-weight : goal.overflow_mul-weight
overflow_mul-weight c = omega (arith, weight_small c.args.factors.now c.requires.shape c.loop-i.i c.loop-i.weight c.loop-i.invariant.at)

pub loop-i-preserved : goal.loop-i-preserved
loop-i-preserved c =
    let fs = c.args.factors.now in
    let f = get_or fs (c.loop-i.i - 1) 0 in
    let inv = c.loop-i.invariant in
    record {
      at = record { product = weight_more fs c.requires.shape c.loop-i.i c.loop-i.weight c.loop-i.invariant.at; some = omega arith; within = let w = c.loop-i.invariant.at.within in omega arith };
      done = multiple_before fs c.requires.shape c.loop-i.i c.loop-i.weight inv.at c.args.m c.args.a c.loop-i.multiple c.loop-i.rest inv.done inv.rest;
      rest = rest_before c.loop-i.weight f c.args.a c.loop-i.rest c.loop-i.invariant.rest;
    }

pub overflow_add-result : goal.overflow_add-result
overflow_add-result c =
    let inv = c.loop-i.invariant in
    let all = multiple_end c.args.factors.now c.requires.shape c.loop-i.i c.loop-i.weight inv.at c.loop-i-test.false c.args.m c.args.a c.loop-i.multiple c.loop-i.rest c.requires.a inv.done inv.rest in
    omega (arith, all, times_high c.args.factors.now c.requires.shape c.args.m c.args.a)

pub overflow_cast-result : goal.overflow_cast-result
overflow_cast-result c =
    let inv = c.loop-i.invariant in
    let all = multiple_end c.args.factors.now c.requires.shape c.loop-i.i c.loop-i.weight inv.at c.loop-i-test.false c.args.m c.args.a c.loop-i.multiple c.loop-i.rest c.requires.a inv.done inv.rest in
    omega (arith, all, times_high c.args.factors.now c.requires.shape c.args.m c.args.a)

pub returns-clause-multiple : goal.returns-clause-multiple
returns-clause-multiple c =
    let inv = c.loop-i.invariant in
    multiple_end c.args.factors.now c.requires.shape c.loop-i.i c.loop-i.weight inv.at c.loop-i-test.false c.args.m c.args.a c.loop-i.multiple c.loop-i.rest c.requires.a inv.done inv.rest

pub returns-clause-below : goal.returns-clause-below
returns-clause-below c =
    let inv = c.loop-i.invariant in
    let all = multiple_end c.args.factors.now c.requires.shape c.loop-i.i c.loop-i.weight inv.at c.loop-i-test.false c.args.m c.args.a c.loop-i.multiple c.loop-i.rest c.requires.a inv.done inv.rest in
    let within = (are_multiples c.args.factors.now c.requires.shape).within c.args.m c.args.a in
    omega arith
