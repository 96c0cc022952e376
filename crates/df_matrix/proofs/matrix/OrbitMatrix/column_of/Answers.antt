use Rattle.std.proofs.Common.{◌<◌, [], length, ap, subst, ◌∙◌}
use Rattle.std.proofs.lemmas.Option.{get_or_from_slice_get}
use Rattle.df_lang.specs.Problems.{IsStated}
use Rattle.df_kramer_mesner.specs.OrbitSystems.{orbits_of, orbit_at, orbit_number, representative, column_number}
use Rattle.df_matrix.proofs.matrix.OrbitMatrix.column_of.Goals as goal

pub kept-requires : goal.kept-requires
kept-requires c = subst (λ s. c.orbit_of.result < length (orbits_of s)) c.self.view_is c.orbit_of.ensures.within

pub returns : goal.returns
returns c =
    let s = c.args.self.now in
    let block = c.args.block.now in
    let number = c.orbit_of.ensures.number ∙ ap (λ s. orbit_number s block) c.self.view_is in
    let place = (c.orbits_are_numbered.ensures s (subst IsStated c.self.view_is c.orbit_count.ensures.stated)).place block c.requires in
    c.kept.ensures ∙ ap (λ i. column_number s (orbit_at s i)) number ∙ ap (column_number s) (get_or_from_slice_get (orbits_of s) (orbit_number s block) (representative s block) [] place)
