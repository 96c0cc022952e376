use Rattle.std.proofs.Common.{refl}
use Rattle.df_group.specs.Subgroups.{exponent_of}
use Rattle.df_maps.specs.Products.{products}
use Rattle.df_kramer_mesner.proofs.tests.seven_is_worked.Goals as goal

pub returns : goal.returns
unfolding exponent_of products
returns c = refl
