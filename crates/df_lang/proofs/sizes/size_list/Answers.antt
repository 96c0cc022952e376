use Rattle.std.proofs.Common.{◌++◌, length, ap, arith, lit<, length-append}
use Rattle.df_lang.proofs.SizesRise.{rises_few}
use Rattle.df_lang.proofs.sizes.size_list.Goals as goal

pub loop-size-init : goal.loop-size-init
loop-size-init c = ap (λ l. l ++ c.args.set.now) c.new-sizes.ensures

pub push-requires : goal.push-requires
push-requires c =
    let few = rises_few 2 17 c.args.set.now (omega arith) c.requires in
    (lit< tt, omega (arith, few, ap length c.loop-size.invariant, length-append c.loop-size.sizes.items c.loop-size.rest, ap length c.in-Some.ensures.first.0))
