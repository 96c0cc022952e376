use Rattle.std.proofs.Common.{refl, sym, subst}
use Rattle.df_kramer_mesner.specs.OrbitSystems.{orbit_system}
use Rattle.df_walk.specs.Paths.{path_of}
use Rattle.df_run.specs.Answers.{within, at_node, search_answer}
use Rattle.df_run.specs.Endings.{RepliesOr}
use Rattle.df_run.specs.Limits.{path_refusal}
use Rattle.df_run.specs.Streams.{outgoing}
use Rattle.df_run.proofs.resume.answer_spent.Goals as goal

pub returns-in-Ok-clause-reply : goal.returns-in-Ok-clause-reply
returns-in-Ok-clause-reply g c =
    let d = c.args.spent.now in
    subst (λ limit. RepliesOr (within limit (at_node (path_refusal d.rules (orbit_system d.problem) d.path) (search_answer d.rules d.problem c.args.options (path_of d.path)))) (outgoing g.O.Sink.written g.O.Sink.faults c.args.out.now c.answer_path.new.out) c.answer_path.result) (sym (c.in-Ok.ensures.within refl)) c.answer_path.ensures.reply
