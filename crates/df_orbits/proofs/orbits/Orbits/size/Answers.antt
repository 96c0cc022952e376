use Rattle.std.proofs.Common.{◌<◌, ◌∙◌, length, ap, sym, arith, slice_get}
use Rattle.std.proofs.lemmas.List.{length-map}
use Rattle.std.proofs.lemmas.Option.{get_or_from_slice_get}
use Rattle.df_orbits.specs.Orbits.{orbit_sizes}
use Rattle.df_orbits.proofs.OrbitLists.{shown, size_at}
use Rattle.df_orbits.proofs.orbits.Orbits.size.Goals as goal

pub returns : goal.returns
returns c =
    let items = c.self.inside.found.items in
    let within : c.args.i < length items = omega (arith, c.requires, ap length c.self.view_is, length-map items shown) in
    let at = ap (λ l. slice_get (orbit_sizes l) c.args.i) (sym c.self.view_is) ∙ size_at items c.args.i c.index.result.now within c.index.ensures in
    sym (get_or_from_slice_get (orbit_sizes c.args.self.now) c.args.i c.index.result.now.size 0 at)
