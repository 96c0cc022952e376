use Rattle.std.proofs.Common.{◌≡◌, ◌∙◌, ◌+◌, ℕ, List, Bool, cond, true, false, ap, sym, subst, length, map, arith}
use Rattle.std.specs.List.{range_with_len}
use Rattle.std.proofs.lemmas.Simd.{map-map}
use Rattle.df_lists.specs.NumberSets.{IsSet}
use Rattle.df_subsets.specs.Blocks.{before}
use Rattle.df_subsets.proofs.BlockOrders.{before_is}
use Rattle.df_acting.specs.Representatives.{earliest, representative_by}
use Rattle.df_maps.specs.FullMaps.{MapGroup, image, map_number, full_maps, point_count}
use Rattle.df_maps.specs.Laws.{AreGroup}
use Rattle.df_maps.proofs.LoopSteps.{earliest_more}
use Rattle.df_maps.proofs.maps.Maps.least_image.Goals as goal
use Rattle.df_maps.proofs.maps.Maps.least_image.Goals.{then-lt, else-lt}

-- by the maps' numbers
by_numbers : (M : MapGroup) (b : List ℕ) → AreGroup M → representative_by before (image M) (full_maps M) b ≡ earliest before b (map (λ j. image M (map_number M j) b) (range_with_len 0 (length (full_maps M))))
by_numbers M b is = ap (λ l. earliest before b (map (λ g. image M g b) l)) is.numbered ∙ ap (earliest before b) (map-map (λ g. image M g b) (map_number M) (range_with_len 0 (length (full_maps M))))

step : (M : MapGroup) (b old new x : List ℕ) (i : ℕ) (v : Bool) → old ≡ earliest before b (map (λ j. image M (map_number M j) b) (range_with_len 0 i)) → x ≡ image M (map_number M i) b → before x old ≡ v → new ≡ cond v x old → new ≡ earliest before b (map (λ j. image M (map_number M j) b) (range_with_len 0 (i + 1)))
step M b old new x i v is at test put =
    put ∙ sym (earliest_more before b (λ j. image M (map_number M j) b) i ∙ ap (λ e. cond (before (image M (map_number M i) b) e) (image M (map_number M i) b) e) (sym is) ∙ ap (λ y. cond (before y old) y old) (sym at) ∙ ap (λ w. cond w x old) test)

pub loop-i-preserved : goal.loop-i-preserved
loop-i-preserved c =
    let M = c.args.self.now in
    let b = c.args.block.now in
    let test = sym (c.lt.ensures ∙ sym (before_is c.image_block-image.result c.loop-i.least)) in
    elim c.if-lt.branch [
      | then-lt w ↦ record {
        image = step M b c.loop-i.least c.if-lt.least c.image_block-image.result c.loop-i.i true c.loop-i.invariant.image c.image_block-image.ensures.image (test ∙ w.if-lt.true) w.least-is;
        block = subst (IsSet (point_count M)) (sym w.least-is) c.image_block-image.ensures.block;
        size = ap length w.least-is ∙ c.image_block-image.ensures.size;
      }
      | else-lt w ↦ record {
        image = step M b c.loop-i.least c.if-lt.least c.image_block-image.result c.loop-i.i false c.loop-i.invariant.image c.image_block-image.ensures.image (test ∙ w.if-lt.false) w.least-is;
        block = subst (IsSet (point_count M)) (sym w.least-is) c.loop-i.invariant.block;
        size = ap length w.least-is ∙ c.loop-i.invariant.size;
      }
    ]

pub returns-clause-image : goal.returns-clause-image
returns-clause-image c =
    let M = c.args.self.now in
    let b = c.args.block.now in
    let end : length (full_maps M) ≡ c.loop-i.i = omega (arith, c.count-i-end.ensures.count) in
    c.loop-i.invariant.image ∙ sym (by_numbers M b c.count-i-end.ensures.maps ∙ ap (λ n. earliest before b (map (λ j. image M (map_number M j) b) (range_with_len 0 n))) end)
