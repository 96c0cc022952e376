use Rattle.std.proofs.Common.{sym, subst, inl, ◌∙◌}
use Rattle.df_run.specs.Answers.{bad_input, limit_line}
use Rattle.df_run.specs.Endings.{RepliesOr}
use Rattle.df_run.specs.Limits.{limit_of}
use Rattle.df_run.specs.Streams.{outgoing}
use Rattle.df_run.specs.declared.statuses.Status.TheVariants as ends
use Rattle.df_run.proofs.Endings.{replied}
use Rattle.df_run.proofs.EntryLimits.{limit_told}
use Rattle.df_run.proofs.check.answer_limit.Goals as goal

pub returns-in-Above-clause-reply : goal.returns-in-Above-clause-reply
returns-in-Above-clause-reply g c =
    let is = limit_told (limit_of c.args.error) c.in-Above.limit (sym c.limited.ensures ∙ c.in-Above.is) in
    subst (λ o. RepliesOr (bad_input (limit_line o)) (outgoing g.O.Sink.written g.O.Sink.faults c.args.out.now c.write_limit.new.out) c.ended.result) (sym is)
    (inl (replied ends.BadInput c.ended.ensures c.write_limit.ensures))
