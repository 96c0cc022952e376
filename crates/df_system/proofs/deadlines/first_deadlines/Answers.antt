use Rattle.std.proofs.Common.{◌≡◌, ◌+◌, ◌*◌, arith, rules, refl}
use Rattle.std.specs.Prelude.{replicate}
use Rattle.df_system.proofs.DeadlineTables.{first_none, first_more, first_all}
use Rattle.df_system.proofs.deadlines.first_deadlines.Goals as goal

pub loop-row-init : goal.loop-row-init
loop-row-init c =
    let items : c.in_ok-deadlines.deadlines.items ≡ replicate (c.args.rows * c.args.width) 0 = search rules in
    rw items (first_none c.args.rows c.args.width (c.args.columns + 1) (c.args.rows * c.args.width) refl)

pub loop-row-preserved : goal.loop-row-preserved
loop-row-preserved c = first_more c.requires.some (omega arith) c.loop-row.invariant

pub returns : goal.returns
returns c = first_all (omega arith) c.loop-row.invariant
