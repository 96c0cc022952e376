use Rattle.std.proofs.Common.{◌≡◌, ◌<◌, length, get_or, drop, ap, ◌∙◌, arith}
use Rattle.df_kramer_mesner.specs.OrbitSystems.{entries_of, orbit_at}
use Rattle.df_tell.specs.Matrix.{entry_text}
use Rattle.df_tell.specs.Cells.{entry_ahead}
use Rattle.df_io.proofs.Writing.{writes_nothing, writes_line, writes_line_stopped, writes_lines}
use Rattle.df_tell.proofs.Cells.{entry_here, rest_after, next_after_most}
use Rattle.df_tell.proofs.matrix.write_entries.Goals as goal

pub loop-row-init : goal.loop-row-init
loop-row-init g c = record { written = writes_nothing; rest = c.orbit_cells-cells.ensures; few = omega arith }

pub after_entry-next-requires : goal.after_entry-next-requires
after_entry-next-requires g c = omega (arith, c.loop-row.invariant.few, c.loop-row-test.true)

pub loop-row-preserved : goal.loop-row-preserved
loop-row-preserved g c =
    let s = c.args.matrix.now in
    let entries = entries_of s (orbit_at s c.args.orbit) in
    let rows = c.rows_are_pairs_and_needed.ensures s (orbit_at s c.args.orbit) in
    let within : c.loop-row.row < length entries = omega (arith, rows.entries, rows.targets, ap (λ y. length y.targets) c.system.ensures) in
    let cells = c.orbit_cells-cells.result.items in
    let next = c.loop-row.next in
    let entry : c.entry_of_next-entry.result ≡ get_or entries c.loop-row.row 0 = c.entry_of_next-entry.ensures ∙ ap (λ l. entry_ahead (drop next l) c.loop-row.row) c.as_slice.ensures.value ∙ entry_here entries cells next c.loop-row.row within c.loop-row.invariant.rest in
    record {
      written = writes_line entry_text entries c.loop-row.row 0 c.loop-row.invariant.written c.in_ok-write_all.ensures (c.as_slice-in-loop-row.ensures.value ∙ c.fill_entry.ensures ∙ ap entry_text entry) within;
      rest = ap (λ n. drop n cells) c.after_entry-next.ensures ∙ rest_after entries cells next c.loop-row.row within c.loop-row.invariant.rest c.entry_of_next-entry.result entry;
      few = omega (arith, c.after_entry-next.ensures, next_after_most next c.entry_of_next-entry.result, c.loop-row.invariant.few);
    }

pub returns-in_err-write_all : goal.returns-in_err-write_all
returns-in_err-write_all g c =
    let s = c.args.matrix.now in
    let entries = entries_of s (orbit_at s c.args.orbit) in
    let rows = c.rows_are_pairs_and_needed.ensures s (orbit_at s c.args.orbit) in
    let within : c.loop-row.row < length entries = omega (arith, rows.entries, rows.targets, ap (λ y. length y.targets) c.system.ensures) in
    let cells = c.orbit_cells-cells.result.items in
    let next = c.loop-row.next in
    let entry = c.entry_of_next-entry.ensures ∙ ap (λ l. entry_ahead (drop next l) c.loop-row.row) c.as_slice.ensures.value ∙ entry_here entries cells next c.loop-row.row within c.loop-row.invariant.rest in
    writes_line_stopped entry_text entries c.loop-row.row 0 c.loop-row.invariant.written c.in_err-write_all.ensures (c.as_slice-in-loop-row.ensures.value ∙ c.fill_entry.ensures ∙ ap entry_text entry) within c.from_residual.ensures.0

pub returns : goal.returns
returns g c =
    let s = c.args.matrix.now in
    let rows = c.rows_are_pairs_and_needed.ensures s (orbit_at s c.args.orbit) in
    writes_lines entry_text (entries_of s (orbit_at s c.args.orbit)) c.loop-row.row c.loop-row.invariant.written (omega (arith, rows.entries, rows.targets, ap (λ y. length y.targets) c.system.ensures, c.loop-row-test.false))
