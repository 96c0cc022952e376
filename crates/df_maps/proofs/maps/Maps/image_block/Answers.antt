use Rattle.std.proofs.Common.{◌≡◌, ◌<◌, ◌∙◌, ap, ap₂, sym, subst, ◌||◌, eqb, ℕ, length, get_or, arith}
use Rattle.std.proofs.lemmas.List.{take_all}
use Rattle.std.specs.List.{list_any}
use Rattle.std.proofs.Math.Bool.{or_comm}
use Rattle.df_lists.specs.NumberSets.{has_member, IsSet}
use Rattle.df_lists.proofs.RisingLists.{point_below}
use Rattle.df_lists.proofs.TestLaws.{any_take_more}
use Rattle.df_acting.proofs.ImageLaws.{length-image, image_done}
use Rattle.df_maps.specs.FullMaps.{point_count, carried, image, full_maps}
use Rattle.df_maps.proofs.maps.Maps.image_block.Goals as goal

pub insert-requires : goal.insert-requires
insert-requires c = omega (arith, c.carry.ensures.below, c.numbered-m.ensures.small)

pub loop-p-init : goal.loop-p-init
loop-p-init c = record { block = subst (IsSet (point_count c.args.self.now)) (sym c.empty-image.ensures) tt; has = λ q. ap (λ l. has_member l q) c.empty-image.ensures }

pub carry-requires-clause-point : goal.carry-requires-clause-point
carry-requires-clause-point c =
    let items = c.as_slice-p-items.result.now in
    let same = c.as_slice-p-items.ensures.value ∙ c.points-points.ensures.list in
    subst (λ p. p < point_count c.args.self.now) (sym c.p-item.is) (point_below 0 (point_count c.args.self.now) items c.loop-p.p-index c.p-item.result (subst (IsSet (point_count c.args.self.now)) (sym same) c.requires.block) c.loop-p-test.true)

pub loop-p-preserved : goal.loop-p-preserved
loop-p-preserved c =
    let items = c.as_slice-p-items.result.now in
    let at = c.loop-p.p-index in
    let to = λ (p : ℕ). carried c.args.self.now c.numbered-m.result p in
    let here : to (get_or items at c.p-item.result) ≡ c.carry.result = ap to (sym c.p-item.is) ∙ sym c.carry.ensures.image in
    record {
      block = c.insert.ensures.within (point_count c.args.self.now) c.carry.ensures.below c.loop-p.invariant.block;
      has = λ q.
          c.insert.ensures.points q ∙ or_comm (eqb c.carry.result q) (has_member c.loop-p.image q)
          ∙ ap₂ (λ a b. a || b) (c.loop-p.invariant.has q) (ap (λ p. eqb p q) (sym here))
          ∙ sym (any_take_more (λ p. eqb (to p) q) items at c.p-item.result c.loop-p-test.true);
    }

pub returns : goal.returns
returns c =
    let M = c.args.self.now in
    let items = c.as_slice-p-items.result.now in
    let same = c.as_slice-p-items.ensures.value ∙ c.points-points.ensures.list in
    let to = λ (p : ℕ). carried M c.numbered-m.result p in
    let whole = λ (q : ℕ). c.loop-p.invariant.has q ∙ ap (list_any (λ p. eqb (to p) q)) (take_all c.loop-p.p-index items c.loop-p-test.false ∙ same) in
    let is : c.loop-p.image ≡ image M c.numbered-m.result c.args.block.now = image_done (point_count M) to c.args.block.now c.loop-p.image c.loop-p.invariant.block whole in
    record {
      image = is ∙ ap (λ g. image M g c.args.block.now) c.numbered-m.ensures.map;
      block = c.loop-p.invariant.block;
      size = ap length is ∙ length-image (carried M) (point_count M) (full_maps M) c.numbered-m.ensures.maps.group c.numbered-m.result c.args.block.now c.numbered-m.ensures.member c.requires.block;
    }
