use Rattle.std.proofs.Common.{◌∙◌, ◌++◌, map, filter, ap}
use Rattle.df_mixed.specs.PairOrbits.{shifts_of, is_row, pairs_from}
use Rattle.df_mixed.specs.MixedTables.{pair_entry}
use Rattle.df_mixed.proofs.TableLaws.{rows_more, entries_are}
use Rattle.df_mixed.proofs.table.pair_table.Goals as goal

pub loop-p-preserved : goal.loop-p-preserved
loop-p-preserved c =
    let s = c.args.problem.now in
    let p = c.loop-p.p in
    rows_more s (shifts_of s) c.loop-p.entries.items c.push_rows_from.new.entries.items p c.loop-p.invariant
    (c.in_ok-push_rows_from.ensures ∙ ap (λ l. c.loop-p.entries.items ++ map (pair_entry s l) (filter (is_row s l) (pairs_from s p))) c.stated_shifts-shifts.ensures.members)

pub returns-in_err-blocks-clause-rows : goal.returns-in_err-blocks-clause-rows
returns-in_err-blocks-clause-rows c = entries_are c.args.problem.now

pub returns-in_err-push_rows_from-clause-rows : goal.returns-in_err-push_rows_from-clause-rows
returns-in_err-push_rows_from-clause-rows c = entries_are c.args.problem.now

pub returns-clause-rows : goal.returns-clause-rows
returns-clause-rows c = entries_are c.args.problem.now
