use Rattle.std.proofs.Common.{◌++◌, ◌-◌, ◌<◌, length, map, get_or, take, drop, sym, ap, ◌∙◌, arith, tests, append_assoc, length-append}
use Rattle.std.specs.List.{join_with_byte}
use Rattle.df_lang.specs.Canonical.{point_text, block_text}
use Rattle.df_lang.specs.Separated.{each_after}
use Rattle.df_lang.proofs.EachAfter.{join_first}
use Rattle.df_lang.proofs.print_points.put_block.Goals as goal

pub put_points_after-requires : goal.put_points_after-requires
put_points_after-requires c =
    let f = point_text c.args.problem.now.group in
    let ps = c.as_slice-points.result.now in
    let p = c.index-points-0.result in
    let some : 0 < length ps = grind (arith, tests) in
    let split = ap length (join_first 32 f ps p some) ∙ length-append (f (get_or ps 0 p)) (each_after 32 (map f (take (length ps - 1) (drop 1 ps)))) in
    let is = ap (λ l. length (join_with_byte 32 (map f l))) (c.as_slice-points.ensures.value ∙ c.points-points.ensures.list) in
    omega (arith, split, is, c.requires, ap (λ q. length (f q)) c.index-points-0.is, c.put_point.ensures.len)

pub returns-clause-text : goal.returns-clause-text
returns-clause-text c =
    let f = point_text c.args.problem.now.group in
    let ps = c.as_slice-points.result.now in
    let p = c.index-points-0.result in
    let some : 0 < length ps = grind (arith, tests) in
    let rest = each_after 32 (map f (take (length ps - 1) (drop 1 ps))) in
    c.put_points_after.ensures.text
    ∙ ap (λ l. l ++ rest) (c.put_point.ensures.text ∙ ap (λ q. c.args.buf.now.items ++ f q) c.index-points-0.is)
    ∙ append_assoc c.args.buf.now.items (f (get_or ps 0 p)) rest
    ∙ ap (λ l. c.args.buf.now.items ++ l) (sym (join_first 32 f ps p some) ∙ ap (λ l. join_with_byte 32 (map f l)) (c.as_slice-points.ensures.value ∙ c.points-points.ensures.list))

pub returns-clause-len : goal.returns-clause-len
returns-clause-len c = ap length (returns-clause-text c) ∙ length-append c.args.buf.now.items (block_text c.args.problem.now.group c.args.block.now)
