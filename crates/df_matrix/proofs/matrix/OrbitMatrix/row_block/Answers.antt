use Rattle.std.proofs.Common.{◌≡◌, ◌-◌, ◌<◌, length, sym, ap, subst, arith, ◌∙◌}
use Rattle.df_kramer_mesner.specs.OrbitSystems.{pairs_of, orbits_of, needed_of, needed_at, has_in_orbit}
use Rattle.df_matrix.proofs.PlaceLists.{read_place, read_block, places_long}
use Rattle.df_matrix.proofs.matrix.OrbitMatrix.row_block.Goals as goal

pub overflow_sub-place : goal.overflow_sub-place
overflow_sub-place c = omega (arith, c.requires.after, c.pair_count.ensures.count, ap (λ s. length (pairs_of s)) c.self.view_is)

pub index-requires : goal.index-requires
index-requires c =
    let s = c.self.inside.orbits in
    omega (arith, c.requires.after, c.requires.within, c.pair_count.ensures.count, ap (λ s. length (pairs_of s)) c.self.view_is, ap (λ s. length (needed_of s)) c.self.view_is, ap length c.self.invariant.needed_are, places_long (has_in_orbit s s.required) (orbits_of s), c.self.inside.needed_orbits.ok.0)

pub orbit-requires : goal.orbit-requires
orbit-requires c =
    let s = c.self.inside.orbits in
    let within : c.args.row - c.pair_count.result < length c.self.inside.needed_orbits.items = omega (arith, c.requires.after, c.requires.within, c.pair_count.ensures.count, ap (λ s. length (pairs_of s)) c.self.view_is, ap (λ s. length (needed_of s)) c.self.view_is, ap length c.self.invariant.needed_are, places_long (has_in_orbit s s.required) (orbits_of s)) in
    (read_place (has_in_orbit s s.required) (orbits_of s) c.self.inside.needed_orbits.items (c.args.row - c.pair_count.result) c.index.result.now c.self.invariant.needed_are within c.index.ensures).0

pub returns-clause-needed : goal.returns-clause-needed
returns-clause-needed c =
    let s = c.self.inside.orbits in
    let within : c.args.row - c.pair_count.result < length c.self.inside.needed_orbits.items = omega (arith, c.requires.after, c.requires.within, c.pair_count.ensures.count, ap (λ s. length (pairs_of s)) c.self.view_is, ap (λ s. length (needed_of s)) c.self.view_is, ap length c.self.invariant.needed_are, places_long (has_in_orbit s s.required) (orbits_of s)) in
    let at = read_block (has_in_orbit s s.required) (orbits_of s) c.self.inside.needed_orbits.items (c.args.row - c.pair_count.result) c.index.result.now c.self.invariant.needed_are within c.index.ensures in
    subst (λ s. c.orbit.result ≡ needed_at s (c.args.row - length (pairs_of s))) c.self.view_is (subst (λ n. c.orbit.result ≡ needed_at s (c.args.row - n)) c.pair_count.ensures.count (c.orbit.ensures.orbit ∙ sym at))
