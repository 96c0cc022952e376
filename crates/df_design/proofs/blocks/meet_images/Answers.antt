use Rattle.std.proofs.Common.{◌≡◌, ◌+◌, ◌∙◌, List, ℕ, sym, ap, subst, arith}
use Rattle.df_maps.specs.FullMaps.{image, map_number}
use Rattle.df_design.specs.LeftBlocks.{AreMet}
use Rattle.df_design.proofs.MetImages.{met_more, met_same, met_all}
use Rattle.df_design.proofs.blocks.meet_images.Goals as goal
use Rattle.df_design.proofs.blocks.meet_images.Goals.{then-comes_after, else-comes_after}

pub loop-i-preserved : goal.loop-i-preserved
loop-i-preserved c =
    let M = c.args.images.now in
    let A = c.count-i-end.ensures.maps in
    let b = c.args.base.now in
    let last = c.args.last.now in
    let old = c.args.ready.now.items in
    let i = c.loop-i.i in
    let y = c.image_block-image.result in
    let same = c.image_block-image.ensures.image ∙ ap (image M (map_number M i)) (c.as_slice.ensures.value ∙ c.points-points.ensures.list) in
    elim c.if-comes_after.branch [
      | then-comes_after w ↦
          subst (λ (l : List (List ℕ)). AreMet M b last old l (i + 1)) (sym (ap (λ v. v.items) w.ready-is))
          (met_more M A b last old c.loop-i.ready.items w.meet.new.ready.items i y c.loop-i.invariant (omega (arith, c.loop-i-test.true, c.count-i-end.ensures.count)) same (sym c.comes_after.ensures ∙ w.if-comes_after.true) w.meet.ensures)
      | else-comes_after w ↦
          subst (λ (l : List (List ℕ)). AreMet M b last old l (i + 1)) (sym (ap (λ v. v.items) w.ready-is)) (met_same M A b last old c.loop-i.ready.items i y c.loop-i.invariant same (sym c.comes_after.ensures ∙ w.if-comes_after.false))
    ]

pub returns-clause-images : goal.returns-clause-images
returns-clause-images c =
    met_all c.args.images.now c.count-i-end.ensures.maps c.args.base.now c.args.last.now c.args.ready.now.items c.loop-i.ready.items c.loop-i.i c.loop-i.invariant (omega (arith, c.loop-i-test.false, c.count-i-end.ensures.count))
