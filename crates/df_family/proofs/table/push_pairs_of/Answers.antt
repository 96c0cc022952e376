use Rattle.std.proofs.Common.{◌-◌, ◌+◌, arith}
use Rattle.df_family.specs.declared.table.Row.TheVariants.{TwoFixed}
use Rattle.df_family.proofs.TableLaws.{entry_more}
use Rattle.df_family.proofs.table.push_pairs_of.Goals as goal

pub loop-j-preserved : goal.loop-j-preserved
loop-j-preserved c =
    let i = c.args.i in
    let j = c.loop-j.j in
    entry_more c.args.problem.now (TwoFixed i) c.args.entries.now.items c.loop-j.entries.items c.push_row.new.entries.items (i + 1) (j - (i + 1)) j (j + 1 - (i + 1)) (omega arith) (omega arith) c.loop-j.invariant c.in_ok-push_row.ensures
