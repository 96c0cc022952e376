use Rattle.df_runs.specs.Runs.{run_of}
use Rattle.df_kramer_mesner.specs.OrbitSystems.{orbit_system}
use Rattle.df_run.proofs.Endings.{run_replied, some_place}
use Rattle.df_run.proofs.search.answer_designs.Goals as goal

pub returns-clause-reply : goal.returns-clause-reply
returns-clause-reply g c = λ p place.
    let s = c.args.problem.now in
    run_replied c.args.rules s c.args.options p (run_of c.args.rules (orbit_system s) p c.args.options.budget) c.write_run.result c.ran.result c.ran.ensures (c.write_run.ensures.written p place) (c.write_run.ensures.end p place)

pub returns-clause-writes : goal.returns-clause-writes
returns-clause-writes g c =
    let place = some_place c.args.designs.now.search.place c.requires.place in
    (c.write_run.ensures.written place.0 place.1).later
