use Rattle.std.proofs.Common.{◌≡◌, ◌≤◌, ◌+◌, ◌-◌, ◌∙◌, sym, ap, arith, false, true, is_some, length, unsigned_abs, to_z, w64}
use Rattle.df_walk.specs.Cuts.{negatives, positives}
use Rattle.df_check.proofs.SignedSums.{least_column, greatest_column, same_column}
use Rattle.df_check.proofs.cuts.weight_range.Goals as goal

pub loop-column-preserved-then-is_none : goal.loop-column-preserved-then-is_none
loop-column-preserved-then-is_none g c =
    let i = c.loop-column.invariant in
    let s = c.args.system.now in
    let ds = c.args.partial.now.decisions in
    let ws = c.args.rows.now in
    let n = c.loop-column.column in
    let next : n ≡ (n - 1) + 1 = omega (arith, c.loop-column-test.true) in
    let none : is_some c.decided.result ≡ false = grind arith in
    let low = least_column s ds ws (n - 1) n (to_z w64 c.loop-column.least-bits) c.weight_of-weight.result c.below_zero-least.result c.decided.result next i.within c.requires.bounded.columns_few c.decided.ensures.value none i.least c.weight_of-weight.ensures.value c.weight_of-weight.ensures.small c.below_zero-least.ensures.value c.below_zero-least.ensures.small i.least_small in
    let high = greatest_column s ds ws (n - 1) n (to_z w64 c.loop-column.greatest-bits) c.weight_of-weight.result c.above_zero-greatest.result c.decided.result next i.within c.requires.bounded.columns_few c.decided.ensures.value none i.greatest c.weight_of-weight.ensures.value c.weight_of-weight.ensures.small c.above_zero-greatest.ensures.value c.above_zero-greatest.ensures.small i.greatest_small in
    record {
      within = omega (arith, i.within);
      least = low.0;
      greatest = high.0;
      least_small = low.1;
      greatest_small = high.1;
    }

pub loop-column-preserved : goal.loop-column-preserved
loop-column-preserved g c =
    let i = c.loop-column.invariant in
    let s = c.args.system.now in
    let ds = c.args.partial.now.decisions in
    let ws = c.args.rows.now in
    let n = c.loop-column.column in
    let next : n ≡ (n - 1) + 1 = omega (arith, c.loop-column-test.true) in
    let some : is_some c.decided.result ≡ true = grind arith in
    let same = same_column s ds ws (n - 1) n c.decided.result next i.within c.decided.ensures.value some in
    record {
      within = omega (arith, i.within);
      least = i.least ∙ ap negatives same;
      greatest = i.greatest ∙ ap positives same;
      least_small = omega (arith, i.least_small);
      greatest_small = omega (arith, i.greatest_small);
    }
