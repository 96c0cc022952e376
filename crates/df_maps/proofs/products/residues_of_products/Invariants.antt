use Rattle.std.proofs.Common.{◌≡◌, ◌++◌, length}
use Rattle.df_maps.specs.Products.{products}
use Rattle.df_maps.proofs.products.residues_of_products.Given as goal

abbrev pub invariant-loop-residue : goal.invariant-loop-residue
invariant-loop-residue l = l.residues.items ++ l.rest ≡ products l.exponent l.mults

abbrev pub decreases-loop-residue : goal.decreases-loop-residue
decreases-loop-residue l = length l.rest
