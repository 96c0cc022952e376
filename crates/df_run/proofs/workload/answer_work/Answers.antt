use Rattle.std.proofs.Common.{[], refl, sym, subst}
use Rattle.df_walk.specs.declared.Rules.TheVariants.{Divisor}
use Rattle.df_runs.specs.Runs.{run_of}
use Rattle.df_kramer_mesner.specs.OrbitSystems.{orbit_system}
use Rattle.df_words.specs.declared.table.TheConstants.{DEFAULT_BUDGET}
use Rattle.df_run.specs.Answers.{within, work_answer}
use Rattle.df_run.specs.Endings.{RepliesOr}
use Rattle.df_run.specs.Streams.{outgoing}
use Rattle.df_run.proofs.workload.answer_work.Goals as goal

pub returns-in-Ok-clause-reply : goal.returns-in-Ok-clause-reply
returns-in-Ok-clause-reply g c =
    let s = c.args.problem.now in
    subst (λ limit. RepliesOr (within limit (work_answer c.args.number s (run_of Divisor (orbit_system s) [] DEFAULT_BUDGET))) (outgoing g.O.Sink.written g.O.Sink.faults c.args.out.now c.search_through.new.out) c.search_through.result) (sym (c.in-Ok.ensures.within refl))
    (subst (λ t. RepliesOr (work_answer c.args.number t (run_of Divisor (orbit_system t) [] DEFAULT_BUDGET)) (outgoing g.O.Sink.written g.O.Sink.faults c.args.out.now c.search_through.new.out) c.search_through.result) c.in-Ok.ensures.value c.search_through.ensures.reply)
