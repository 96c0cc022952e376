use Rattle.std.proofs.Common.{decimal, length, ap, arith}
use Rattle.df_lang.proofs.EachAfter.{room_next}
use Rattle.df_lang.proofs.print_points.put_numbers_after.Goals as goal

pub push-requires : goal.push-requires
push-requires c =
    let room = room_next c.args.byte decimal c.args.numbers.now c.loop-number.number-index 0 c.loop-number-test.true c.loop-number.buf.items c.args.buf.now.items c.loop-number.invariant c.requires in
    (omega arith, omega (arith, room))

pub put_number-requires : goal.put_number-requires
put_number-requires c =
    let room = room_next c.args.byte decimal c.args.numbers.now c.loop-number.number-index 0 c.loop-number-test.true c.loop-number.buf.items c.args.buf.now.items c.loop-number.invariant c.requires in
    omega (arith, room, c.push.ensures.len, ap (λ n. length (decimal n)) c.from.ensures)
