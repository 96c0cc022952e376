use Rattle.df_maps.proofs.ProductLaws.{products_are}
use Rattle.df_maps.proofs.laws.products_are_all.Goals as goal

pub returns : goal.returns
returns c = products_are
