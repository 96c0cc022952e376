use Rattle.std.proofs.Common.{◌≡◌, ◌<◌, length, get_or, map, take, ap, sym, ◌∙◌, arith}
use Rattle.df_group.specs.Elements.{shifted, group_of}
use Rattle.df_lists.specs.NumberSets.{set_of, with_member}
use Rattle.df_lang.specs.Problems.{point_count}
use Rattle.df_lists.proofs.SetLaws.{set_none}
use Rattle.df_family.proofs.SetLaws.{image_more}
use Rattle.df_family.proofs.translate.translated.Goals as goal

pub loop-p-init : goal.loop-p-init
loop-p-init c = c.empty-translated.ensures ∙ sym (set_none (point_count c.args.problem.now))

pub loop-p-preserved : goal.loop-p-preserved
loop-p-preserved c =
    let s = c.args.problem.now in
    let block = c.args.block.now in
    let i = c.loop-p.p-index in
    let x = c.p-item.result in
    let same = c.as_slice-p-items.ensures.value ∙ c.points-points.ensures.list in
    let long = ap length same in
    let within : i < length block = omega arith in
    let is : x ≡ get_or block i x = c.p-item.is ∙ ap (λ l. get_or l i x) same in
    let below : shifted (group_of s.group) c.args.g x < point_count s = omega (arith, c.shifted.ensures.point) in
    c.insert.ensures.list ∙ ap (with_member c.shifted.result) c.loop-p.invariant
    ∙ ap (λ y. with_member y (set_of (point_count s) (map (shifted (group_of s.group) c.args.g) (take i block)))) c.shifted.ensures.point
    ∙ image_more (point_count s) (shifted (group_of s.group) c.args.g) block i x within is below
