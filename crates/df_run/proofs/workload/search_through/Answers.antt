use Rattle.std.proofs.Common.{◌≡◌, [], ap, subst, inl}
use Rattle.df_walk.specs.declared.Rules.TheVariants.{Divisor}
use Rattle.df_runs.specs.Runs.{run_of}
use Rattle.df_kramer_mesner.specs.OrbitSystems.{orbit_system}
use Rattle.df_words.specs.declared.table.TheConstants.{DEFAULT_BUDGET}
use Rattle.df_run.specs.Answers.{work_answer}
use Rattle.df_run.specs.Endings.{Replies}
use Rattle.df_run.specs.Streams.{outgoing}
use Rattle.df_run.proofs.Workloads.{work_replied}
use Rattle.df_run.proofs.workload.search_through.Goals as goal

pub write_workload-requires-clause-search : goal.write_workload-requires-clause-search
write_workload-requires-clause-search g c = let is = c.in-Ok.ensures.value in record { problem = ap (λ d. d.problem) is; system = ap (λ d. d.search.system) is }

pub write_workload-requires-clause-begins : goal.write_workload-requires-clause-begins
write_workload-requires-clause-begins g c = c.in-Ok.ensures.stands.search

pub returns-clause-reply : goal.returns-clause-reply
returns-clause-reply g c =
    let s = c.args.matrix.now in
    let rules : c.in-Ok.designs.search.rules ≡ Divisor = ap (λ d. d.search.rules) c.in-Ok.ensures.value in
    let o = outgoing g.O.Sink.written g.O.Sink.faults c.args.out.now c.write_workload.new.out in
    inl (subst (λ t. Replies (work_answer c.args.number s (run_of t (orbit_system s) [] DEFAULT_BUDGET)) o c.ran.result) rules
    (work_replied c.args.number s (run_of c.in-Ok.designs.search.rules (orbit_system s) [] DEFAULT_BUDGET) c.write_workload.result c.ran.result c.ran.ensures c.write_workload.ensures.written c.write_workload.ensures.end))
