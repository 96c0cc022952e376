use Rattle.std.proofs.Common.{length, ap, ◌∙◌, arith}
use Rattle.df_kramer_mesner.specs.OrbitSystems.{targets_of}
use Rattle.df_tell.specs.Matrix.{row_at}
use Rattle.df_io.proofs.Writing.{writes_number, writes_number_stopped, writes_numbers}
use Rattle.df_tell.proofs.matrix.write_rows.Goals as goal

pub loop-row-preserved : goal.loop-row-preserved
loop-row-preserved g c =
    let s = c.args.matrix.now in
    writes_number (row_at s) (length (targets_of s)) c.loop-row.row c.loop-row.invariant c.in_ok-write_all.ensures (c.as_slice.ensures.value ∙ c.fill_row.ensures) (omega (arith, ap (λ y. length y.targets) c.system.ensures))

pub returns-in_err-write_all : goal.returns-in_err-write_all
returns-in_err-write_all g c =
    let s = c.args.matrix.now in
    writes_number_stopped (row_at s) (length (targets_of s)) c.loop-row.row c.loop-row.invariant c.in_err-write_all.ensures (c.as_slice.ensures.value ∙ c.fill_row.ensures) (omega (arith, ap (λ y. length y.targets) c.system.ensures)) c.from_residual.ensures.0

pub returns : goal.returns
returns g c =
    let s = c.args.matrix.now in
    writes_numbers (row_at s) (length (targets_of s)) c.loop-row.row c.loop-row.invariant (omega (arith, ap (λ y. length y.targets) c.system.ensures))
