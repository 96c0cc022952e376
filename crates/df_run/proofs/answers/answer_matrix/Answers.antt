use Rattle.std.proofs.Common.{refl, sym, ap, subst, inl}
use Rattle.df_run.specs.Answers.{done, within}
use Rattle.df_run.specs.Endings.{RepliesOr}
use Rattle.df_run.specs.Streams.{outgoing}
use Rattle.df_tell.specs.Matrix.{matrix_text}
use Rattle.df_run.specs.declared.statuses.Status.TheVariants as ends
use Rattle.df_run.proofs.Endings.{replied}
use Rattle.df_io.proofs.Writing.{writes_as}
use Rattle.df_run.proofs.answers.answer_matrix.Goals as goal

pub returns-in-Ok-clause-reply : goal.returns-in-Ok-clause-reply
returns-in-Ok-clause-reply g c =
    let s = c.args.problem.now in
    subst (λ limit. RepliesOr (within limit (done (matrix_text s))) (outgoing g.O.Sink.written g.O.Sink.faults c.args.out.now c.write_matrix.new.out) c.ended.result) (sym (c.in-Ok.ensures.within refl))
    (inl (replied ends.Done c.ended.ensures (writes_as (ap matrix_text c.in-Ok.ensures.value) c.write_matrix.ensures)))
