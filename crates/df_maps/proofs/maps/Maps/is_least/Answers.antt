use Rattle.std.proofs.Common.{◌≡◌, ◌∙◌, ℕ, List, not, ap, sym, length, arith}
use Rattle.std.specs.List.{list_all, range_with_len}
use Rattle.df_subsets.specs.Blocks.{before}
use Rattle.df_subsets.proofs.BlockOrders.{before_is}
use Rattle.df_acting.specs.Representatives.{is_representative}
use Rattle.df_maps.specs.FullMaps.{MapGroup, image, map_number, full_maps}
use Rattle.df_maps.specs.Laws.{AreGroup}
use Rattle.df_maps.proofs.LoopSteps.{all_more, all_fails, all-map}
use Rattle.df_maps.proofs.maps.Maps.is_least.Goals as goal

-- by the maps' numbers
by_numbers : (M : MapGroup) (b : List ℕ) → AreGroup M → is_representative before (image M) (full_maps M) b ≡ list_all (λ j. not (before (image M (map_number M j) b) b)) (range_with_len 0 (length (full_maps M)))
by_numbers M b is = ap (list_all (λ g. not (before (image M g b) b))) is.numbered ∙ all-map (λ g. not (before (image M g b) b)) (map_number M) (range_with_len 0 (length (full_maps M)))

pub loop-i-preserved : goal.loop-i-preserved
loop-i-preserved c =
    let M = c.args.self.now in
    let b = c.args.block.now in
    let test = c.lt.ensures ∙ sym (before_is c.image_block.result b) ∙ ap (λ x. before x b) c.image_block.ensures.image in
    all_more (λ j. not (before (image M (map_number M j) b) b)) c.loop-i.i c.loop-i.invariant (ap not (sym test ∙ c.if-lt.false))

pub returns-then-lt : goal.returns-then-lt
returns-then-lt c =
    let M = c.args.self.now in
    let b = c.args.block.now in
    let test = c.lt.ensures ∙ sym (before_is c.image_block.result b) ∙ ap (λ x. before x b) c.image_block.ensures.image in
    sym (by_numbers M b c.count-i-end.ensures.maps ∙ all_fails (λ j. not (before (image M (map_number M j) b) b)) c.loop-i.i (length (full_maps M)) (omega (arith, c.count-i-end.ensures.count)) (ap not (sym test ∙ c.if-lt.true)))

pub returns : goal.returns
returns c =
    let M = c.args.self.now in
    let b = c.args.block.now in
    let end : length (full_maps M) ≡ c.loop-i.i = omega (arith, c.count-i-end.ensures.count) in
    sym (by_numbers M b c.count-i-end.ensures.maps ∙ ap (λ n. list_all (λ j. not (before (image M (map_number M j) b) b)) (range_with_len 0 n)) end ∙ c.loop-i.invariant)
