use Rattle.std.proofs.Common.{length, ap, arith, lit<, length-append}
use Rattle.df_lists.proofs.RisingLists.{length_fits}
use Rattle.df_maps.specs.Products.{products}
use Rattle.df_maps.proofs.ProductLaws.{products_are}
use Rattle.df_maps.proofs.products.residues_of_products.Goals as goal

pub push-requires : goal.push-requires
push-requires c =
    let ps = products c.args.exponent c.args.mults.now in
    let few = length_fits 0 c.args.exponent ps (omega arith) (products_are c.args.exponent c.args.mults.now c.requires.some).set in
    (lit< tt, omega (arith, few, c.requires.small, ap length c.loop-residue.invariant, length-append c.loop-residue.residues.items c.loop-residue.rest, ap length c.in-Some.ensures.first.0))
