use Rattle.std.proofs.Common.{◌≡◌, Ok}
use Rattle.df_dossier.specs.Spent.{spent}
use Rattle.df_run.specs.Streams.{incoming, outgoing}
use Rattle.df_run.proofs.StreamEndings.{all_read, resumed_answers}
use Rattle.df_run.proofs.resume.answer_resume.Goals as goal

pub returns-in-Ok-clause-answers : goal.returns-in-Ok-clause-answers
returns-in-Ok-clause-answers g c =
    let i = incoming g.I.Source.left g.I.Source.faults c.args.input.now c.read_spent_stream.new.input in
    let o = outgoing g.O.Sink.written g.O.Sink.faults c.args.out.now c.answer_spent.new.out in
    resumed_answers c.args.options c.in-Ok.spent i o (all_read i (λ bytes. spent bytes ≡ Ok c.in-Ok.spent) c.in-Ok.ensures.given) c.answer_spent.result c.answer_spent.ensures.reply
