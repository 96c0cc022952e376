use Rattle.std.proofs.Common.{◌≡◌, ◌+◌, ◌-◌, ◌*◌, ◌%◌, get_or, drop, ap, ◌∙◌, arith}
use Rattle.df_group.specs.Elements.{group_of, minus}
use Rattle.df_group.proofs.ElementLaws.{is_group}
use Rattle.df_group.proofs.PlaceSums.{weight_more, weight_small, place_small, rest_before, sum_small, difference_before, difference_end, plus_high}
use Rattle.df_group.proofs.places.difference.Goals as goal
use Rattle.df_group.proofs.places.difference.Goals.{After-wrapped, After-wrapped-2}

-- one place more
more : (c : After-wrapped) → c.loop-i.difference + c.wrapped.result * c.loop-i.weight ≡ minus (group_of (drop (c.loop-i.i - 1) c.args.factors.now)) c.args.a c.args.b
more c =
    let fs = c.args.factors.now in
    let i = c.loop-i.i in
    let inv = c.loop-i.invariant in
    ap (λ n. c.loop-i.difference + n * c.loop-i.weight) c.wrapped.ensures ∙ difference_before fs c.requires.shape i c.loop-i.weight inv.at c.args.a c.args.b c.loop-i.difference c.loop-i.rest_a c.loop-i.rest_b inv.done inv.rest_a inv.rest_b

all : (c : After-wrapped-2) → c.loop-i.difference + c.wrapped-2.result * c.loop-i.weight ≡ minus (group_of c.args.factors.now) c.args.a c.args.b
all c =
    let fs = c.args.factors.now in
    let inv = c.loop-i.invariant in
    ap (λ n. c.loop-i.difference + n * c.loop-i.weight) c.wrapped-2.ensures ∙ difference_end fs c.requires.shape c.loop-i.i c.loop-i.weight inv.at c.loop-i-test.false c.args.a c.args.b c.loop-i.difference c.loop-i.rest_a c.loop-i.rest_b c.requires.a c.requires.b inv.done inv.rest_a inv.rest_b

pub overflow_mul-difference : goal.overflow_mul-difference
overflow_mul-difference c =
    let fs = c.args.factors.now in
    let f = get_or fs (c.loop-i.i - 1) 0 in
    omega (arith, place_small fs c.requires.shape c.loop-i.i c.loop-i.weight c.loop-i.invariant.at (c.loop-i.rest_a % f + (f - c.loop-i.rest_b % f)), ap (λ n. n * c.loop-i.weight) c.wrapped.ensures)

pub overflow_add-difference : goal.overflow_add-difference
overflow_add-difference c = omega (arith, more c, sum_small c.args.factors.now c.requires.shape c.loop-i.i c.loop-i.weight c.loop-i.invariant.at c.args.a ((group_of (drop (c.loop-i.i - 1) c.args.factors.now)).neg c.args.b))

pub overflow_mul-weight : goal.overflow_mul-weight
overflow_mul-weight c = omega (arith, weight_small c.args.factors.now c.requires.shape c.loop-i.i c.loop-i.weight c.loop-i.invariant.at)

pub loop-i-preserved : goal.loop-i-preserved
loop-i-preserved c =
    let fs = c.args.factors.now in
    let f = get_or fs (c.loop-i.i - 1) 0 in
    record {
      at = record { product = weight_more fs c.requires.shape c.loop-i.i c.loop-i.weight c.loop-i.invariant.at; some = omega arith; within = let w = c.loop-i.invariant.at.within in omega arith };
      done = more c;
      rest_a = rest_before c.loop-i.weight f c.args.a c.loop-i.rest_a c.loop-i.invariant.rest_a;
      rest_b = rest_before c.loop-i.weight f c.args.b c.loop-i.rest_b c.loop-i.invariant.rest_b;
    }

pub overflow_add-result : goal.overflow_add-result
overflow_add-result c = omega (arith, all c, plus_high c.args.factors.now c.requires.shape c.args.a ((group_of c.args.factors.now).neg c.args.b))

pub overflow_cast-result : goal.overflow_cast-result
overflow_cast-result c = omega (arith, all c, plus_high c.args.factors.now c.requires.shape c.args.a ((group_of c.args.factors.now).neg c.args.b))

pub returns-clause-difference : goal.returns-clause-difference
returns-clause-difference c = all c

pub returns-clause-below : goal.returns-clause-below
returns-clause-below c = omega (arith, all c, (is_group c.args.factors.now c.requires.shape).within c.args.a ((group_of c.args.factors.now).neg c.args.b))
