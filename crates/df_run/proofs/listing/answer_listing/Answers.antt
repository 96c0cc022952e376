use Rattle.std.proofs.Common.{[], inl, ◌∙◌}
use Rattle.df_runs.specs.Runs.{run_of}
use Rattle.df_kramer_mesner.specs.OrbitSystems.{orbit_system}
use Rattle.df_io.proofs.Writing.{writes_as}
use Rattle.df_run.proofs.Endings.{listing_replied}
use Rattle.df_run.proofs.listing.answer_listing.Goals as goal

pub returns-in-Ok-clause-reply : goal.returns-in-Ok-clause-reply
returns-in-Ok-clause-reply g c =
    let s = c.args.problem.now in
    inl (listing_replied s c.args.options (run_of c.args.designs.now.search.rules (orbit_system s) [] c.args.options.budget) _ c.ran-status.result c.in-Ok.ensures.end c.ran-status.ensures c.ended.ensures
    (writes_as (c.as_slice.ensures.value ∙ c.in-Ok.ensures.listed) c.write_all.ensures))
