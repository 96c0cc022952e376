use Rattle.std.proofs.Common.{refl, sym, subst}
use Rattle.df_run.specs.Answers.{within, solve_answer}
use Rattle.df_run.specs.Endings.{RepliesOr}
use Rattle.df_run.specs.Streams.{outgoing}
use Rattle.df_run.proofs.solve.answer_solve.Goals as goal

pub returns-in-Ok-clause-reply : goal.returns-in-Ok-clause-reply
returns-in-Ok-clause-reply g c =
    let s = c.args.problem.now in
    subst (λ limit. RepliesOr (within limit (solve_answer s c.args.options)) (outgoing g.O.Sink.written g.O.Sink.faults c.args.out.now c.answer_start.new.out) c.answer_start.result) (sym (c.in-Ok.ensures.within refl)) c.answer_start.ensures.reply
