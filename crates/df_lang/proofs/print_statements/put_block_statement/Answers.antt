use Rattle.std.proofs.Common.{◌++◌, length, map, ap, ◌∙◌, arith}
use Rattle.df_lang.specs.Canonical.{point_text}
use Rattle.df_lang.specs.Separated.{each_after}
use Rattle.df_lang.proofs.EachAfter.{room_after, whole_after}
use Rattle.df_lang.proofs.print_statements.put_block_statement.Goals as goal

pub put_points_after-requires : goal.put_points_after-requires
put_points_after-requires c =
    let f = point_text c.args.problem.now.group in
    let points = ap (λ l. length (each_after 32 (map f l))) (c.as_slice.ensures.value ∙ c.points.ensures.list) in
    let room = room_after c.args.buf.now.items c.args.keyword.now (map f c.args.block.now) c.put_text.new.buf.items c.put_text.ensures.text c.requires in
    omega (arith, points, room)

pub returns : goal.returns
returns c =
    let f = point_text c.args.problem.now.group in
    let points = ap (λ l. c.put_text.new.buf.items ++ each_after 32 (map f l)) (c.as_slice.ensures.value ∙ c.points.ensures.list) in
    whole_after c.args.buf.now.items c.args.keyword.now (map f c.args.block.now) c.put_text.new.buf.items c.put_points_after.new.buf.items c.put_text.ensures.text (c.put_points_after.ensures.text ∙ points)
