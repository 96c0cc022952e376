use Rattle.df_group.proofs.MultipleLaws.{are_multiples}
use Rattle.df_group.proofs.laws.multiples_are_multiples.Goals as goal

pub returns : goal.returns
returns c = are_multiples
