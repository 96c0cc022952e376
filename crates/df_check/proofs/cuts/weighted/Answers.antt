use Rattle.df_check.proofs.SignedSums.{product_is, product_within}
use Rattle.df_check.proofs.cuts.weighted.Goals as goal

pub returns-clause-value : goal.returns-clause-value
returns-clause-value c = product_is c.args.weight c.args.value c.requires.weight c.requires.value

pub returns-clause-small : goal.returns-clause-small
returns-clause-small c = product_within c.args.weight c.args.value c.requires.weight c.requires.value
