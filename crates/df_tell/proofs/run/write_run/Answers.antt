use Rattle.df_tell.proofs.RunSteps.{stands_counted, err_written}
use Rattle.df_tell.proofs.RunStarts.{writes_err, start_stopped, steps_stopped, all_written, run_ended}
use Rattle.df_tell.proofs.run.write_run.Goals as goal

pub returns-in_err-write_start-clause-written : goal.returns-in_err-write_start-clause-written
returns-in_err-write_start-clause-written g c = λ p here.
    start_stopped c.args.rules c.args.problem.now c.args.shown c.args.designs.now p c.place.result.decisions.now c.args.budget c.requires c.place.ensures.stands.search here
    c.in_err-write_start.ensures (err_written c.from_residual.result c.from_residual.ensures.0)

pub write_steps-requires-clause-counted : goal.write_steps-requires-clause-counted
write_steps-requires-clause-counted g c = stands_counted c.args.designs.now.search c.place.result.decisions.now c.place.ensures.stands.search

pub returns-in_err-ran-clause-written : goal.returns-in_err-ran-clause-written
returns-in_err-ran-clause-written g c = λ p here.
    steps_stopped c.args.rules c.args.problem.now c.args.shown c.args.designs.now p c.place.result.decisions.now c.args.budget c.requires c.place.ensures.stands.search here
    c.in_ok-write_start.ensures c.in_err-ran.ensures.written (err_written c.from_residual-in_err-ran.result c.from_residual-in_err-ran.ensures.0)

pub returns-in_err-write_end-clause-written : goal.returns-in_err-write_end-clause-written
returns-in_err-write_end-clause-written g c = λ p here.
    all_written c.args.rules c.args.problem.now c.args.shown c.args.designs.now p c.place.result.decisions.now c.args.budget c.requires c.place.ensures.stands.search here
    c.in_ok-write_start.ensures c.in_ok-ran.ensures.written c.in_ok-ran.ensures.ran (writes_err c.in_err-write_end.ensures (err_written c.from_residual-in_err-write_end.result c.from_residual-in_err-write_end.ensures.0))

pub returns-clause-written : goal.returns-clause-written
returns-clause-written g c = λ p here.
    all_written c.args.rules c.args.problem.now c.args.shown c.args.designs.now p c.place.result.decisions.now c.args.budget c.requires c.place.ensures.stands.search here
    c.in_ok-write_start.ensures c.in_ok-ran.ensures.written c.in_ok-ran.ensures.ran c.in_ok-write_end.ensures

pub returns-clause-end : goal.returns-clause-end
returns-clause-end g c = λ p here.
    run_ended c.args.rules c.args.problem.now c.args.shown c.args.designs.now p c.place.result.decisions.now c.args.budget c.requires c.place.ensures.stands.search here
    c.write_steps.new.designs.search c.in_ok-ran.ran c.in_ok-ran.ensures.ran
