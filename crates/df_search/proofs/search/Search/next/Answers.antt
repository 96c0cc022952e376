use Rattle.std.proofs.Common.{◌+◌, ◌-◌, ◌∙◌, length, arith, refl, ap}
use Rattle.df_search.proofs.PassedSteps.{passed_count, skips, finds_next, stops, stops_left, ends}
use Rattle.df_search.proofs.PassedLeaps.{pass_on, pass_leaf, cost_on}
use Rattle.df_search.proofs.search.Search.next.Goals as goal

pub loop-self-preserved-then-skip : goal.loop-self-preserved-then-skip
loop-self-preserved-then-skip g c =
    let i = c.loop-self.invariant in
    let come = c.if-not-come.ensures.some refl in
    let leaf = c.if-skip.ensures.leaf refl in
    let passes = pass_on c.come.new.self c.leap.new.self c.leap.new.self c.leap.new.budget i.passes come c.leap.ensures.passes refl in
    let skipped = pass_leaf c.skip.new.self passes leaf in
    record {
      passes = skipped.passes;
      rises = omega (arith, i.rises, c.come.ensures.rises, c.leap.ensures.rises);
      cost = cost_on c.come.new.self c.leap.new.self c.args.steps.now c.loop-self.steps c.come.new.steps c.leap.new.steps (length c.skip.new.self.path) (length c.args.self.now.rest - length c.skip.new.self.rest) i.passes come c.leap.ensures.passes c.leap.ensures.longer c.leap.ensures.count i.cost c.come.ensures.cost c.leap.ensures.cost (ap length leaf.path) (omega (arith, skipped.shorter, passed_count passes));
    }

pub loop-self-preserved : goal.loop-self-preserved
loop-self-preserved g c =
    let i = c.loop-self.invariant in
    let come = c.if-not-come.ensures.some refl in
    let kept = c.if-skip.ensures.kept refl in
    let passes = pass_on c.come.new.self c.leap.new.self c.skip.new.self c.leap.new.budget i.passes come c.leap.ensures.passes kept in
    let skipped = skips c.skip.new.self c.answer.new.self c.leap.new.budget c.answer.new.budget c.answer.result passes c.answer.ensures.entry c.in_default.not-Solution c.in_default.not-Spent c.in_default.not-Finished in
    record {
      passes = skipped.passes;
      rises = omega (arith, i.rises, c.come.ensures.rises, c.leap.ensures.rises);
      cost = cost_on c.come.new.self c.leap.new.self c.args.steps.now c.loop-self.steps c.come.new.steps c.leap.new.steps (length c.answer.new.self.path) (length c.args.self.now.rest - length c.answer.new.self.rest) i.passes come c.leap.ensures.passes c.leap.ensures.longer c.leap.ensures.count i.cost c.come.ensures.cost c.leap.ensures.cost (ap length c.answer.ensures.path ∙ ap (λ n. length n.path) kept) (omega (arith, skipped.shorter, ap (λ n. length n.rest) kept, passed_count passes));
    }

pub returns-in-Solution-clause-turn : goal.returns-in-Solution-clause-turn
returns-in-Solution-clause-turn g c =
    let i = c.loop-self.invariant in
    let come = c.if-not-come.ensures.some refl in
    let kept = c.if-skip.ensures.kept refl in
    let passes = pass_on c.come.new.self c.leap.new.self c.skip.new.self c.leap.new.budget i.passes come c.leap.ensures.passes kept in
    (finds_next c.skip.new.self c.answer.new.self c.leap.new.budget c.answer.new.budget passes c.in-Solution.ensures.entry).finds

pub returns-in-Solution-clause-cost : goal.returns-in-Solution-clause-cost
returns-in-Solution-clause-cost g c =
    let i = c.loop-self.invariant in
    let come = c.if-not-come.ensures.some refl in
    let kept = c.if-skip.ensures.kept refl in
    let passes = pass_on c.come.new.self c.leap.new.self c.skip.new.self c.leap.new.budget i.passes come c.leap.ensures.passes kept in
    let found = finds_next c.skip.new.self c.answer.new.self c.leap.new.budget c.answer.new.budget passes c.in-Solution.ensures.entry in
    cost_on c.come.new.self c.leap.new.self c.args.steps.now c.loop-self.steps c.come.new.steps c.leap.new.steps (length c.answer.new.self.path) (length c.args.self.now.rest - length c.answer.new.self.rest + 0) i.passes come c.leap.ensures.passes c.leap.ensures.longer c.leap.ensures.count i.cost c.come.ensures.cost c.leap.ensures.cost (ap length c.answer.ensures.path ∙ ap (λ n. length n.path) kept) (omega (arith, found.shorter, ap (λ n. length n.rest) kept, passed_count passes))

pub returns-in-Spent-clause-turn : goal.returns-in-Spent-clause-turn
returns-in-Spent-clause-turn g c =
    let i = c.loop-self.invariant in
    let come = c.if-not-come.ensures.some refl in
    let kept = c.if-skip.ensures.kept refl in
    let passes = pass_on c.come.new.self c.leap.new.self c.skip.new.self c.leap.new.budget i.passes come c.leap.ensures.passes kept in
    stops c.skip.new.self c.answer.new.self c.leap.new.budget c.answer.new.budget passes c.in-Spent.ensures.entry c.in-Spent.ensures.answer.stops.stands

pub returns-in-Spent-clause-cost : goal.returns-in-Spent-clause-cost
returns-in-Spent-clause-cost g c =
    let i = c.loop-self.invariant in
    let come = c.if-not-come.ensures.some refl in
    let kept = c.if-skip.ensures.kept refl in
    let passes = pass_on c.come.new.self c.leap.new.self c.skip.new.self c.leap.new.budget i.passes come c.leap.ensures.passes kept in
    let same = stops_left c.skip.new.self c.answer.new.self c.leap.new.budget c.answer.new.budget c.in-Spent.ensures.entry in
    cost_on c.come.new.self c.leap.new.self c.args.steps.now c.loop-self.steps c.come.new.steps c.leap.new.steps (length c.answer.new.self.path) (length c.args.self.now.rest - length c.answer.new.self.rest + 1) i.passes come c.leap.ensures.passes c.leap.ensures.longer c.leap.ensures.count i.cost c.come.ensures.cost c.leap.ensures.cost (ap length c.answer.ensures.path ∙ ap (λ n. length n.path) kept) (omega (arith, same, ap (λ n. length n.rest) kept))

pub returns-in-Finished-clause-turn : goal.returns-in-Finished-clause-turn
returns-in-Finished-clause-turn g c =
    let i = c.loop-self.invariant in
    let come = c.if-not-come.ensures.some refl in
    let kept = c.if-skip.ensures.kept refl in
    let passes = pass_on c.come.new.self c.leap.new.self c.skip.new.self c.leap.new.budget i.passes come c.leap.ensures.passes kept in
    (ends c.skip.new.self c.answer.new.self c.leap.new.budget c.answer.new.budget passes c.in-Finished.ensures.entry).0

pub returns-in-Finished-clause-cost : goal.returns-in-Finished-clause-cost
returns-in-Finished-clause-cost g c =
    let i = c.loop-self.invariant in
    let come = c.if-not-come.ensures.some refl in
    let kept = c.if-skip.ensures.kept refl in
    let passes = pass_on c.come.new.self c.leap.new.self c.skip.new.self c.leap.new.budget i.passes come c.leap.ensures.passes kept in
    let same = (ends c.skip.new.self c.answer.new.self c.leap.new.budget c.answer.new.budget passes c.in-Finished.ensures.entry).1 in
    cost_on c.come.new.self c.leap.new.self c.args.steps.now c.loop-self.steps c.come.new.steps c.leap.new.steps (length c.answer.new.self.path) (length c.args.self.now.rest - length c.answer.new.self.rest + 1) i.passes come c.leap.ensures.passes c.leap.ensures.longer c.leap.ensures.count i.cost c.come.ensures.cost c.leap.ensures.cost (ap length c.answer.ensures.path ∙ ap (λ n. length n.path) kept) (omega (arith, same, ap (λ n. length n.rest) kept))
