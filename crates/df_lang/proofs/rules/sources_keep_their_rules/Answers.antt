use Rattle.df_lang.proofs.SourcesKept.{source_kept}
use Rattle.df_lang.proofs.rules.sources_keep_their_rules.Goals as goal

pub returns : goal.returns
returns c = source_kept
