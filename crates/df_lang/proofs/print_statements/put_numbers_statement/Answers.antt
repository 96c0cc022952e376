use Rattle.std.proofs.Common.{decimal, map}
use Rattle.df_lang.proofs.EachAfter.{room_after, whole_after}
use Rattle.df_lang.proofs.print_statements.put_numbers_statement.Goals as goal

pub put_numbers_after-requires : goal.put_numbers_after-requires
put_numbers_after-requires c =
    room_after c.args.buf.now.items c.args.keyword.now (map decimal c.args.numbers.now) c.put_text.new.buf.items c.put_text.ensures.text c.requires

pub returns : goal.returns
returns c =
    whole_after c.args.buf.now.items c.args.keyword.now (map decimal c.args.numbers.now) c.put_text.new.buf.items c.put_numbers_after.new.buf.items c.put_text.ensures.text c.put_numbers_after.ensures.text
