use Rattle.std.proofs.Common.{◌≡◌, ◌<◌, length, sym, ap, subst, arith, ◌∙◌}
use Rattle.df_kramer_mesner.specs.OrbitSystems.{orbits_of, columns_of, column_at, is_kept}
use Rattle.df_matrix.proofs.PlaceLists.{read_place, read_block, places_long}
use Rattle.df_matrix.proofs.matrix.OrbitMatrix.column_block.Goals as goal

pub index-requires : goal.index-requires
index-requires c =
    let s = c.self.inside.orbits in
    omega (arith, c.requires, ap (λ s. length (columns_of s)) c.self.view_is, ap length c.self.invariant.kept_are, places_long (is_kept s) (orbits_of s), c.self.inside.kept_orbits.ok.0)

pub orbit-requires : goal.orbit-requires
orbit-requires c =
    let s = c.self.inside.orbits in
    let within : c.args.column < length c.self.inside.kept_orbits.items = omega (arith, c.requires, ap (λ s. length (columns_of s)) c.self.view_is, ap length c.self.invariant.kept_are, places_long (is_kept s) (orbits_of s)) in
    (read_place (is_kept s) (orbits_of s) c.self.inside.kept_orbits.items c.args.column c.index.result.now c.self.invariant.kept_are within c.index.ensures).0

pub returns-clause-column : goal.returns-clause-column
returns-clause-column c =
    let s = c.self.inside.orbits in
    let within : c.args.column < length c.self.inside.kept_orbits.items = omega (arith, c.requires, ap (λ s. length (columns_of s)) c.self.view_is, ap length c.self.invariant.kept_are, places_long (is_kept s) (orbits_of s)) in
    let at = read_block (is_kept s) (orbits_of s) c.self.inside.kept_orbits.items c.args.column c.index.result.now c.self.invariant.kept_are within c.index.ensures in
    subst (λ s. c.orbit.result ≡ column_at s c.args.column) c.self.view_is (c.orbit.ensures.orbit ∙ sym at)
