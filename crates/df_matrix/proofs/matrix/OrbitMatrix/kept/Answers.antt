use Rattle.std.proofs.Common.{◌≡◌, ◌<◌, length, sym, ap, subst, arith, ◌∙◌}
use Rattle.std.specs.List.Sorted.{IsStrictlyIncreasing}
use Rattle.df_kramer_mesner.specs.OrbitSystems.{orbits_of, orbit_at, is_kept, column_number}
use Rattle.df_matrix.proofs.PlaceLists.{places_rise}
use Rattle.df_matrix.proofs.AllCells.{number_found}
use Rattle.df_matrix.proofs.matrix.OrbitMatrix.kept.Goals as goal

pub overflow_cast-orbit : goal.overflow_cast-orbit
overflow_cast-orbit c = omega (arith, c.requires, ap (λ s. length (orbits_of s)) c.self.view_is, c.orbit_count.ensures.count, c.orbit_count.ensures.few)

pub place_in-requires-clause-increasing : goal.place_in-requires-clause-increasing
place_in-requires-clause-increasing c =
    let s = c.self.inside.orbits in
    subst IsStrictlyIncreasing (sym (c.deref.ensures.value ∙ c.self.invariant.kept_are)) (places_rise (is_kept s) (orbits_of s))

pub returns : goal.returns
returns c =
    let s = c.self.inside.orbits in
    subst (λ s. c.place_in.result ≡ column_number s (orbit_at s c.args.orbit)) c.self.view_is
    (number_found s (c.orbits_are_numbered.ensures s c.orbit_count.ensures.stated) c.deref.result.now c.args.orbit c.place_in.result c.place_in.ensures.some c.place_in.ensures.none
    (c.deref.ensures.value ∙ c.self.invariant.kept_are) (subst (λ s. c.args.orbit < length (orbits_of s)) (sym c.self.view_is) c.requires))
