use Rattle.std.proofs.Common.{length, ap, arith}
use Rattle.df_lang.specs.Canonical.{point_text}
use Rattle.df_lang.proofs.EachAfter.{room_next}
use Rattle.df_lang.proofs.print_points.put_points_after.Goals as goal

pub push-requires : goal.push-requires
push-requires c =
    let room = room_next 32 (point_text c.args.problem.now.group) c.args.points.now c.loop-p.p-index c.p-item.result c.loop-p-test.true c.loop-p.buf.items c.args.buf.now.items c.loop-p.invariant c.requires in
    (omega arith, omega (arith, room))

pub put_point-requires : goal.put_point-requires
put_point-requires c =
    let room = room_next 32 (point_text c.args.problem.now.group) c.args.points.now c.loop-p.p-index c.p-item.result c.loop-p-test.true c.loop-p.buf.items c.args.buf.now.items c.loop-p.invariant c.requires in
    omega (arith, room, c.push.ensures.len, ap (λ p. length (point_text c.args.problem.now.group p)) c.p-item.is)
