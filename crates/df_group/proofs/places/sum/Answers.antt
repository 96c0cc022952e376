use Rattle.std.proofs.Common.{◌≡◌, ◌+◌, ◌-◌, ◌*◌, ◌%◌, get_or, drop, ap, ◌∙◌, arith}
use Rattle.df_group.specs.Elements.{group_of}
use Rattle.df_group.proofs.ElementLaws.{is_group}
use Rattle.df_group.proofs.PlaceSums.{weight_more, weight_small, place_small, rest_before, sum_small, sum_before, sum_end, plus_high}
use Rattle.df_group.proofs.places.sum.Goals as goal
use Rattle.df_group.proofs.places.sum.Goals.{After-wrapped, After-wrapped-2}

-- one place more
more : (c : After-wrapped) → c.loop-i.sum + c.wrapped.result * c.loop-i.weight ≡ (group_of (drop (c.loop-i.i - 1) c.args.factors.now)).plus c.args.a c.args.b
more c =
    let fs = c.args.factors.now in
    let i = c.loop-i.i in
    let inv = c.loop-i.invariant in
    ap (λ n. c.loop-i.sum + n * c.loop-i.weight) c.wrapped.ensures ∙ sum_before fs c.requires.shape i c.loop-i.weight inv.at c.args.a c.args.b c.loop-i.sum c.loop-i.rest_a c.loop-i.rest_b inv.done inv.rest_a inv.rest_b

all : (c : After-wrapped-2) → c.loop-i.sum + c.wrapped-2.result * c.loop-i.weight ≡ (group_of c.args.factors.now).plus c.args.a c.args.b
all c =
    let fs = c.args.factors.now in
    let inv = c.loop-i.invariant in
    ap (λ n. c.loop-i.sum + n * c.loop-i.weight) c.wrapped-2.ensures ∙ sum_end fs c.requires.shape c.loop-i.i c.loop-i.weight inv.at c.loop-i-test.false c.args.a c.args.b c.loop-i.sum c.loop-i.rest_a c.loop-i.rest_b c.requires.a c.requires.b inv.done inv.rest_a inv.rest_b

pub overflow_mul-sum : goal.overflow_mul-sum
overflow_mul-sum c =
    let fs = c.args.factors.now in
    let f = get_or fs (c.loop-i.i - 1) 0 in
    omega (arith, place_small fs c.requires.shape c.loop-i.i c.loop-i.weight c.loop-i.invariant.at (c.loop-i.rest_a % f + c.loop-i.rest_b % f), ap (λ n. n * c.loop-i.weight) c.wrapped.ensures)

pub overflow_add-sum : goal.overflow_add-sum
overflow_add-sum c = omega (arith, more c, sum_small c.args.factors.now c.requires.shape c.loop-i.i c.loop-i.weight c.loop-i.invariant.at c.args.a c.args.b)

pub overflow_mul-weight : goal.overflow_mul-weight
overflow_mul-weight c = omega (arith, weight_small c.args.factors.now c.requires.shape c.loop-i.i c.loop-i.weight c.loop-i.invariant.at)

pub loop-i-preserved : goal.loop-i-preserved
loop-i-preserved c =
    let fs = c.args.factors.now in
    let f = get_or fs (c.loop-i.i - 1) 0 in
    record {
      at = record { product = weight_more fs c.requires.shape c.loop-i.i c.loop-i.weight c.loop-i.invariant.at; some = omega arith; within = let w = c.loop-i.invariant.at.within in omega arith };
      done = more c;
      rest_a = rest_before c.loop-i.weight f c.args.a c.loop-i.rest_a c.loop-i.invariant.rest_a;
      rest_b = rest_before c.loop-i.weight f c.args.b c.loop-i.rest_b c.loop-i.invariant.rest_b;
    }

pub overflow_add-result : goal.overflow_add-result
overflow_add-result c = omega (arith, all c, plus_high c.args.factors.now c.requires.shape c.args.a c.args.b)

pub overflow_cast-result : goal.overflow_cast-result
overflow_cast-result c = omega (arith, all c, plus_high c.args.factors.now c.requires.shape c.args.a c.args.b)

pub returns-clause-sum : goal.returns-clause-sum
returns-clause-sum c = all c

pub returns-clause-below : goal.returns-clause-below
returns-clause-below c = omega (arith, all c, (is_group c.args.factors.now c.requires.shape).within c.args.a c.args.b)
