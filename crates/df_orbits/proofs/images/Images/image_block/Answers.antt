use Rattle.std.proofs.Common.{◌≡◌, ◌<◌, ◌∙◌, ap, ap₂, sym, subst, ◌||◌, eqb, ℕ, length, get_or}
use Rattle.std.proofs.lemmas.List.{take_all}
use Rattle.std.specs.List.{list_any}
use Rattle.std.proofs.Math.Bool.{or_comm}
use Rattle.df_lists.specs.NumberSets.{has_member}
use Rattle.df_lists.proofs.RisingLists.{point_below}
use Rattle.df_lists.proofs.TestLaws.{any_take_more}
use Rattle.df_acting.proofs.ImageLaws.{length-image, image_done}
use Rattle.df_maps.specs.FullMaps.{point_count, carried, map_number, image, full_maps}
use Rattle.df_maps.specs.Laws.{AreGroup}
use Rattle.df_orbits.proofs.TableLooks.{number_in}
use Rattle.df_orbits.proofs.images.Images.image_block.Goals as goal

pub image_point-requires-clause-point : goal.image_point-requires-clause-point
image_point-requires-clause-point c =
    let items = c.args.points.now in
    subst (λ p. p < point_count c.args.self.now) (sym c.p-item.is) (point_below 0 (point_count c.args.self.now) items c.loop-p.p-index c.p-item.result c.requires.block c.loop-p-test.true)

pub loop-p-preserved : goal.loop-p-preserved
loop-p-preserved c =
    let M = c.args.self.now in
    let items = c.args.points.now in
    let at = c.loop-p.p-index in
    let to = λ (p : ℕ). carried M (map_number M c.args.i) p in
    let here : to (get_or items at c.p-item.result) ≡ c.image_point.result = ap to (sym c.p-item.is) ∙ sym c.image_point.ensures.image in
    record {
      block = c.insert.ensures.within (point_count M) c.image_point.ensures.below c.loop-p.invariant.block;
      has = λ q.
          c.insert.ensures.points q ∙ or_comm (eqb c.image_point.result q) (has_member c.loop-p.image q)
          ∙ ap₂ (λ a b. a || b) (c.loop-p.invariant.has q) (ap (λ p. eqb p q) (sym here))
          ∙ sym (any_take_more (λ p. eqb (to p) q) items at c.p-item.result c.loop-p-test.true);
    }

pub returns : goal.returns
returns c =
    let M = c.args.self.now in
    let points = c.args.points.now in
    let A = subst AreGroup c.self.view_is c.self.invariant.maps in
    let g = map_number M c.args.i in
    let to = λ (p : ℕ). carried M g p in
    let whole = λ (q : ℕ). c.loop-p.invariant.has q ∙ ap (list_any (λ p. eqb (to p) q)) (take_all c.loop-p.p-index points c.loop-p-test.false) in
    let is : c.loop-p.image ≡ image M g points = image_done (point_count M) to points c.loop-p.image c.loop-p.invariant.block whole in
    record {
      image = is;
      block = c.loop-p.invariant.block;
      size = ap length is ∙ length-image (carried M) (point_count M) (full_maps M) A.group g points (number_in M A c.args.i c.requires.number) c.requires.block;
    }
