use Rattle.std.proofs.Common.{◌-◌, ◌+◌, arith}
use Rattle.df_family.specs.declared.table.Row.TheVariants.{Diff}
use Rattle.df_family.proofs.TableLaws.{entry_more}
use Rattle.df_family.proofs.table.push_differences.Goals as goal

pub loop-d-preserved : goal.loop-d-preserved
loop-d-preserved c =
    let d = c.loop-d.d in
    entry_more c.args.problem.now Diff c.args.entries.now.items c.loop-d.entries.items c.push_row.new.entries.items 1 (d - 1) d (d + 1 - 1) (omega arith) (omega arith) c.loop-d.invariant c.in_ok-push_row.ensures
