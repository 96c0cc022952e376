use Rattle.df_run.proofs.Headline.{headline, unread_by_work}
use Rattle.df_run.proofs.runs.run.Goals as goal

pub returns-clause-headline : goal.returns-clause-headline
returns-clause-headline g c =
    headline c.sources_keep_their_rules.ensures c.spent_dossiers_keep_their_rules.ensures c.commands_are_their_lines.ensures c.workloads_are_numbered.ensures c.table_tells_balance.ensures c.verdict_tells_balance.ensures c.orbit_systems_are_systems.ensures c.runs_are_whole.ensures c.paths_have_reasons.ensures c.designs_are_solutions.ensures c.chains_are_decided.ensures c.chains_keep_their_rules.ensures c.chains_list_all_designs.ensures c.bases_are_representatives.ensures _ _ _ _ c.run_words.ensures.ends

pub returns-clause-unread : goal.returns-clause-unread
returns-clause-unread g c = unread_by_work c.commands_are_their_lines.ensures _ _ _ _ c.run_words.ensures.ends
