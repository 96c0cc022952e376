use Rattle.std.proofs.Common.{◌-◌, ◌+◌, arith}
use Rattle.df_family.specs.Tables.{pairs_of}
use Rattle.df_family.proofs.TableLaws.{entries_more}
use Rattle.df_family.proofs.table.push_pairs.Goals as goal

pub loop-i-preserved : goal.loop-i-preserved
loop-i-preserved c =
    let s = c.args.problem.now in
    let i = c.loop-i.i in
    entries_more s (pairs_of s) c.args.entries.now.items c.loop-i.entries.items c.push_pairs_of.new.entries.items 1 (i - 1) i (i + 1 - 1) (omega arith) (omega arith) c.loop-i.invariant c.in_ok-push_pairs_of.ensures
