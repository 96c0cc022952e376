use Rattle.std.proofs.Common.{[], take, length, get_or, sym, ap, subst, arith, ◌∙◌}
use Rattle.std.proofs.lemmas.List.{length-map}
use Rattle.std.proofs.lemmas.Option.{slice_get-get_or}
use Rattle.df_kramer_mesner.specs.OrbitSystems.{in_one_orbit, has_in_orbit, orbits_of}
use Rattle.df_lang.specs.Problems.{IsBlock, point_count}
use Rattle.df_matrix.proofs.MarkLists.{marks_none, marks_more}
use Rattle.df_matrix.proofs.columns.marked.Goals as goal

pub loop-block-init : goal.loop-block-init
loop-block-init c = c.in_ok-marks.ensures ∙ marks_none (λ b a. in_one_orbit c.args.orbits.now a b) (orbits_of c.args.orbits.now) c.orbit_count.result c.orbit_count.ensures.count

pub orbit_of-requires : goal.orbit_of-requires
orbit_of-requires c =
    subst (IsBlock (point_count c.args.orbits.now) c.args.orbits.now.sizes) (sym c.block-item.is) (c.requires c.loop-block.block-index c.block-item.result c.loop-block-test.true)

pub loop-block-preserved : goal.loop-block-preserved
loop-block-preserved c =
    let s = c.args.orbits.now in
    marks_more (λ b a. in_one_orbit s a b) (orbits_of s) c.args.blocks.now c.loop-block.block-index c.orbit_of.result [] c.block-item.result c.block-item.result c.loop-block.marks.items c.loop-block.invariant c.loop-block-test.true c.block-item.is c.orbit_of.ensures.within
    (λ i h. c.orbit_of.ensures.orbit i (get_or (orbits_of s) i []) (slice_get-get_or (orbits_of s) i [] h))

pub index_mut-requires : goal.index_mut-requires
index_mut-requires c = omega (arith, c.orbit_of.ensures.within, ap length c.loop-block.invariant, length-map (orbits_of c.args.orbits.now) (has_in_orbit c.args.orbits.now (take c.loop-block.block-index c.args.blocks.now)), c.loop-block.marks.ok.0)
