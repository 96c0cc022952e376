use Rattle.std.proofs.Common.{decimal, length, ap, arith}
use Rattle.df_lang.proofs.EachAfter.{room_next}
use Rattle.df_lang.proofs.print_statements.put_sizes_after.Goals as goal

pub push-requires : goal.push-requires
push-requires c =
    let room = room_next 32 decimal c.args.sizes.now c.loop-size.size-index 0 c.loop-size-test.true c.loop-size.buf.items c.args.buf.now.items c.loop-size.invariant c.requires in
    (omega arith, omega (arith, room))

pub put_number-requires : goal.put_number-requires
put_number-requires c =
    let room = room_next 32 decimal c.args.sizes.now c.loop-size.size-index 0 c.loop-size-test.true c.loop-size.buf.items c.args.buf.now.items c.loop-size.invariant c.requires in
    omega (arith, room, c.push.ensures.len, ap (λ n. length (decimal n)) c.from.ensures)
