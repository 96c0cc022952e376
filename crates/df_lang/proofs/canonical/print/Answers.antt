use Rattle.std.proofs.Common.{◌-◌, [], Some, length, sym, ap, ◌∙◌, arith}
use Rattle.std.specs.Prelude.{slice_get}
use Rattle.std.specs.Option.{option_map}
use Rattle.std.proofs.lemmas.Option.{slice_get-map, slice_get_within, get_or_from_slice_get}
use Rattle.df_io.specs.Joined.{spaced}
use Rattle.df_lang.specs.Canonical.{canonical, statements_of}
use Rattle.df_lang.proofs.SectionsLeft.{left_more, left_found, none_left}
use Rattle.df_lang.proofs.canonical.print.Goals as goal

pub loop-section-init : goal.loop-section-init
unfolding statements_of
loop-section-init c = record { within = omega arith; empty = c.clear.ensures; left = ap (slice_get (statements_of c.args.problem.now)) (omega arith) }

pub loop-section-preserved : goal.loop-section-preserved
loop-section-preserved c = record {
  within = omega arith;
  empty = c.loop-section.invariant.empty;
  left = left_more c.args.problem.now c.loop-section.section-index c.loop-section-test.true _ c.statement_count-count.result c.args.line c.loop-section.before c.statement_count-count.ensures.count (omega arith) (omega arith) c.loop-section.invariant.left;
}

pub returns-then-line-before-clause-line : goal.returns-then-line-before-clause-line
unfolding canonical
returns-then-line-before-clause-line c =
    slice_get-map spaced (statements_of c.args.problem.now) c.args.line
    ∙ ap (option_map spaced) (left_found c.args.problem.now c.loop-section.section-index c.loop-section-test.true _ c.statement_count-count.result c.args.line c.loop-section.before c.statement_count-count.ensures.count (omega arith) c.loop-section.invariant.left)
    ∙ ap Some (sym c.put_statement.ensures)

pub returns-clause-line : goal.returns-clause-line
unfolding canonical
returns-clause-line c =
    slice_get-map spaced (statements_of c.args.problem.now) c.args.line
    ∙ ap (option_map spaced) (c.loop-section.invariant.left ∙ ap (λ l. slice_get l (c.args.line - c.loop-section.before)) (none_left c.args.problem.now c.loop-section.section-index c.loop-section-test.false))

pub returns-then-line-before-clause-room : goal.returns-then-line-before-clause-room
returns-then-line-before-clause-room c =
    let found = returns-then-line-before-clause-line c in
    let within = slice_get_within (canonical c.args.problem.now) c.args.line c.put_statement.new.buf.items found in
    let is = get_or_from_slice_get (canonical c.args.problem.now) c.args.line c.put_statement.new.buf.items [] found in
    omega (arith, c.canonical_lines_are_short.ensures c.args.line [] within, ap length is)
