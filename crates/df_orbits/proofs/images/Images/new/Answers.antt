use Rattle.std.proofs.Common.{◌≡◌, ◌*◌, ◌/◌, ◌%◌, ◌∙◌, ℕ, ap, sym, subst, arith, length}
use Rattle.df_maps.specs.FullMaps.{carried, map_number, point_count}
use Rattle.df_orbits.specs.LookupTables.{AreImages}
use Rattle.df_orbits.proofs.TableLooks.{table_more, table_longer, images_filled}
use Rattle.df_orbits.proofs.images.Images.new.Goals as goal

pub loop-place-preserved : goal.loop-place-preserved
loop-place-preserved c =
    let M = c.args.maps.now in
    let place = c.loop-place.place in
    let width = c.from-width.ensures ∙ c.points-points.ensures.points in
    let f = λ (k : ℕ). carried M (map_number M (k / point_count M)) (k % point_count M) in
    let here : c.push.inside.0 ≡ f place = c.push.view_is ∙ c.image_point.ensures.image ∙ ap (λ w. carried M (map_number M (place / w)) (place % w)) width in
    record {
      long = table_longer c.loop-place.table.items c.push-in-loop-place.new.self.items place c.push.inside.0 c.loop-place.invariant.long c.in_ok-push.ensures.items;
      images = table_more f c.loop-place.table.items c.push-in-loop-place.new.self.items place c.push.inside.0 c.loop-place.invariant.long c.loop-place.invariant.images c.in_ok-push.ensures.items here;
    }

pub invariant_of-result : goal.invariant_of-result
invariant_of-result c =
    let M = c.args.maps.now in
    let points = c.points-points.result in
    let count = c.count-count.result in
    let items = c.loop-place.table.items in
    let long : length items ≡ count * points = omega (arith, c.loop-place.invariant.long, c.loop-place-test.false, ap (λ w. count * w) c.from-width.ensures) in
    subst (λ N. AreImages N points count items) (sym c.copied.ensures)
    (images_filled M points count items c.points-points.ensures.maps c.points-points.ensures.points c.points-points.ensures.some c.points-points.ensures.small c.count-count.ensures.count c.count-count.ensures.some c.count-count.ensures.small long
    (λ k h. c.loop-place.invariant.images k (omega (arith, h, c.loop-place.invariant.long))))
