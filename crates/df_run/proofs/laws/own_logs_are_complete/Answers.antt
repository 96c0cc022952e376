use Rattle.df_run.proofs.OwnLogs.{own_logs_complete}
use Rattle.df_run.proofs.laws.own_logs_are_complete.Goals as goal

pub returns : goal.returns
returns c =
    own_logs_complete c.chains_are_answered.ensures c.own_logs_are_chains.ensures c.chains_are_decided.ensures c.sources_keep_their_rules.ensures c.spent_dossiers_keep_their_rules.ensures
