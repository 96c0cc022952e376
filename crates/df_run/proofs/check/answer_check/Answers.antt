use Rattle.std.proofs.Common.{Err, subst}
use Rattle.df_dossier.specs.declared.stream.StreamError.TheVariants.{Refused}
use Rattle.df_check.specs.Checks.{ReadsVerdict}
use Rattle.df_run.specs.Streams.{incoming}
use Rattle.df_run.proofs.StreamEndings.{above_countable}
use Rattle.df_run.proofs.check.answer_check.Goals as goal

pub answer_limit-requires : goal.answer_limit-requires
answer_limit-requires g c =
    let i = incoming g.I.Source.left g.I.Source.faults c.args.input.now c.check_stream.new.input in
    let told = subst (λ e. ReadsVerdict i.left i.left_after i.faults i.faults_after (Err e)) c.in-Err-Refused-Matrix.field-0-is c.in-Err-Refused-Matrix.ensures.given in
    let read = subst (λ e. ReadsVerdict i.left i.left_after i.faults i.faults_after (Err (Refused e))) c.in-Err-Refused-Matrix.field-0-0-is told in
    above_countable c.columns_are_sparse.ensures c.limits_are_of_problems.ensures i c.in-Err-Refused-Matrix.error read
