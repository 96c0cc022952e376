use Rattle.std.proofs.Common.{length, ap, arith}
use Rattle.std.proofs.lemmas.List.{length-map}
use Rattle.df_io.specs.Joined.{spaced}
use Rattle.df_lang.specs.Canonical.{canonical, statements_of}
use Rattle.df_lang.proofs.SectionsLeft.{counted_more, none_left}
use Rattle.df_lang.proofs.canonical.line_count.Goals as goal

pub loop-section-init : goal.loop-section-init
unfolding statements_of
loop-section-init c = record { counted = omega arith; small = omega arith }

pub loop-section-preserved : goal.loop-section-preserved
loop-section-preserved c = record {
  counted = counted_more c.args.problem.now c.loop-section.section-index c.loop-section-test.true _ c.loop-section.count c.statement_count-count.result c.statement_count-count.ensures.count c.loop-section.invariant.counted;
  small = omega (arith, c.loop-section.invariant.small, c.statement_count-count.ensures.small);
}

pub returns : goal.returns
unfolding canonical
returns c =
    let none = ap length (none_left c.args.problem.now c.loop-section.section-index c.loop-section-test.false) in
    omega (arith, c.loop-section.invariant.counted, none, length-map (statements_of c.args.problem.now) spaced)
