use Rattle.std.proofs.Common.{◌-◌, ◌+◌, arith}
use Rattle.df_family.specs.declared.table.Row.TheVariants.{WithFixed}
use Rattle.df_family.proofs.TableLaws.{entry_more}
use Rattle.df_family.proofs.table.push_singles.Goals as goal

pub loop-i-preserved : goal.loop-i-preserved
loop-i-preserved c =
    let i = c.loop-i.i in
    entry_more c.args.problem.now WithFixed c.args.entries.now.items c.loop-i.entries.items c.push_row.new.entries.items 1 (i - 1) i (i + 1 - 1) (omega arith) (omega arith) c.loop-i.invariant c.in_ok-push_row.ensures
