use Rattle.std.proofs.Common.{◌≡◌, ◌∙◌, true, false, sym, length, arith}
use Rattle.df_maps.specs.FullMaps.{full_maps}
use Rattle.df_maps.proofs.FixingCounts.{fixing_more, fixing_some, size_is}
use Rattle.df_maps.proofs.maps.Maps.orbit_size.Goals as goal
use Rattle.df_maps.proofs.maps.Maps.orbit_size.Goals.{then-eq, else-eq}

pub loop-i-preserved : goal.loop-i-preserved
loop-i-preserved c =
    let M = c.args.self.now in
    let b = c.args.block.now in
    elim c.if-eq.branch [
      | then-eq w ↦ (fixing_more M b c.image_block.result c.loop-i.fixing c.if-eq.fixing c.loop-i.i true c.loop-i.invariant.0 c.image_block.ensures.image (sym c.eq.ensures ∙ w.if-eq.true) w.fixing-is, omega (arith, w.fixing-is, c.loop-i.invariant.1))
      | else-eq w ↦ (fixing_more M b c.image_block.result c.loop-i.fixing c.if-eq.fixing c.loop-i.i false c.loop-i.invariant.0 c.image_block.ensures.image (sym c.eq.ensures ∙ w.if-eq.false) (w.fixing-is ∙ omega arith), omega (arith, w.fixing-is, c.loop-i.invariant.1))
    ]

pub nonzero_div-result : goal.nonzero_div-result
nonzero_div-result c =
    let M = c.args.self.now in
    let end : length (full_maps M) ≡ c.loop-i.i = omega (arith, c.count-i-end.ensures.count) in
    fixing_some M c.count-i-end.ensures.maps c.args.block.now c.requires c.loop-i.fixing c.loop-i.i c.loop-i.invariant.0 end (omega (arith, c.count-i-end.ensures.count, c.count-i-end.ensures.some))

pub returns : goal.returns
returns c =
    let M = c.args.self.now in
    let end : length (full_maps M) ≡ c.loop-i.i = omega (arith, c.count-i-end.ensures.count) in
    size_is M c.count-i-end.ensures.maps c.args.block.now c.requires c.loop-i.fixing c.loop-i.i c.loop-i.invariant.0 end c.count.result c.count.ensures.count (omega (arith, c.count.ensures.some))
