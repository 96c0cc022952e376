use Rattle.std.proofs.Common.{length, ap, arith}
use Rattle.df_lang.specs.Canonical.{element_text}
use Rattle.df_lang.proofs.EachAfter.{room_next}
use Rattle.df_lang.proofs.print_statements.put_elements_after.Goals as goal

pub push-requires : goal.push-requires
push-requires c =
    let room = room_next 32 (element_text c.args.shape.now) c.args.elements.now c.loop-e.e-index c.e-item.result c.loop-e-test.true c.loop-e.buf.items c.args.buf.now.items c.loop-e.invariant c.requires.room in
    (omega arith, omega (arith, room))

pub put_element-requires-clause-room : goal.put_element-requires-clause-room
put_element-requires-clause-room c =
    let room = room_next 32 (element_text c.args.shape.now) c.args.elements.now c.loop-e.e-index c.e-item.result c.loop-e-test.true c.loop-e.buf.items c.args.buf.now.items c.loop-e.invariant c.requires.room in
    omega (arith, room, c.push.ensures.len, ap (λ e. length (element_text c.args.shape.now e)) c.e-item.is)
