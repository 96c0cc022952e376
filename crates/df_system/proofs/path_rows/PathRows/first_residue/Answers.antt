use Rattle.std.proofs.Common.{arith, ap, length}
use Rattle.df_walk.proofs.RowTests.{least_row_is, least_row_none}
use Rattle.df_system.specs.PathRows.{has_residue_from, is_over_in}
use Rattle.df_system.proofs.PathRowLaws.{none_passes}
use Rattle.df_system.proofs.path_rows.PathRows.first_residue.Goals as goal

pub residue-requires-clause-not_over : goal.residue-requires-clause-not_over
residue-requires-clause-not_over c = none_passes c.args.self.now.system (is_over_in c.args.self.now) c.loop-row.row c.requires.none_over (omega (arith, c.loop-row-test.true, c.rows-row-end.ensures.value, ap (λ v. length v.system.targets) c.self.view_is))

pub returns-in-Some-clause-row : goal.returns-in-Some-clause-row
returns-in-Some-clause-row c = least_row_is c.args.self.now.system (has_residue_from c.args.self.now c.args.from) c.loop-row.row (omega (arith, c.loop-row-test.true, c.rows-row-end.ensures.value, ap (λ v. length v.system.targets) c.self.view_is)) c.in-Some.ensures.some c.loop-row.invariant

pub returns-clause-none : goal.returns-clause-none
returns-clause-none c = λ _. least_row_none c.args.self.now.system (has_residue_from c.args.self.now c.args.from) c.loop-row.row (omega (arith, c.loop-row-test.false, c.rows-row-end.ensures.value, ap (λ v. length v.system.targets) c.self.view_is)) c.loop-row.invariant
