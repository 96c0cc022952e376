use Rattle.std.proofs.Common.{◌∙◌, []}
use Rattle.df_io.proofs.Writing.{writes_as}
use Rattle.df_tell.proofs.RunSteps.{stands_counted, err_written}
use Rattle.df_tell.proofs.RunStarts.{writes_err}
use Rattle.df_tell.proofs.Workloads.{own_system, line_is, end_is}
use Rattle.df_tell.proofs.workload.write_workload.Goals as goal

pub count_steps-ran-requires-clause-search : goal.count_steps-ran-requires-clause-search
count_steps-ran-requires-clause-search g c = own_system c.requires.search

pub count_steps-ran-requires-clause-counted : goal.count_steps-ran-requires-clause-counted
count_steps-ran-requires-clause-counted g c = stands_counted c.args.designs.now.search [] c.requires.begins

pub returns-in_err-write_all-clause-written : goal.returns-in_err-write_all-clause-written
returns-in_err-write_all-clause-written g c =
    writes_err (writes_as (c.as_slice.ensures.value ∙ c.fill_workload.ensures ∙ line_is c.args.matrix.now c.args.designs.now c.args.budget c.requires.search c.requires.begins c.count_steps-ran.new.designs.search c.count_steps-ran.result c.count_steps-ran.ensures c.args.number) c.in_err-write_all.ensures)
    (err_written c.from_residual.result c.from_residual.ensures.0)

pub returns-clause-written : goal.returns-clause-written
returns-clause-written g c =
    writes_as (c.as_slice.ensures.value ∙ c.fill_workload.ensures ∙ line_is c.args.matrix.now c.args.designs.now c.args.budget c.requires.search c.requires.begins c.count_steps-ran.new.designs.search c.count_steps-ran.result c.count_steps-ran.ensures c.args.number) c.in_ok-write_all.ensures

pub returns-clause-end : goal.returns-clause-end
returns-clause-end g c = end_is c.args.matrix.now c.args.designs.now c.args.budget c.requires.search c.requires.begins c.count_steps-ran.new.designs.search c.count_steps-ran.result c.count_steps-ran.ensures
