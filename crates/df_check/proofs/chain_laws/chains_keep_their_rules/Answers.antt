use Rattle.df_check.proofs.DossierParts.{chain_kept}
use Rattle.df_check.proofs.chain_laws.chains_keep_their_rules.Goals as goal

pub returns : goal.returns
returns c = chain_kept
