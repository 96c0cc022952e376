use Rattle.std.proofs.Common.{refl, sym, ◌∙◌}
use Rattle.df_run.specs.Streams.{incoming, outgoing}
use Rattle.df_run.proofs.Workloads.{work_task}
use Rattle.df_run.proofs.runs.run_words.Goals as goal

pub returns-in-Work-clause-ends : goal.returns-in-Work-clause-ends
returns-in-Work-clause-ends g c =
    let i = incoming g.I.Source.left g.I.Source.faults c.args.input.now c.args.input.now in
    let o = outgoing g.O.Sink.written g.O.Sink.faults c.args.out.now c.answer_workload.new.out in
    work_task _ c.in-Ok.command c.in-Work.number i o c.answer_workload.result c.in-Ok.ensures.command (sym c.from.ensures ∙ c.in-Work.is) (refl, refl) c.answer_workload.ensures.reply
