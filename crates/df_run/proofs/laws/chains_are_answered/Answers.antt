use Rattle.df_run.proofs.Chains.{chains_answered}
use Rattle.df_run.proofs.laws.chains_are_answered.Goals as goal

pub returns : goal.returns
returns c =
    chains_answered c.sources_keep_their_rules.ensures c.spent_dossiers_keep_their_rules.ensures c.orbit_systems_are_systems.ensures c.runs_are_whole.ensures c.chains_are_runs.ensures c.paths_have_reasons.ensures c.paths_are_read.ensures c.spent_texts_are_read_back.ensures c.designs_are_solutions.ensures
