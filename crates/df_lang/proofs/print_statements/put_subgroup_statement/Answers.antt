use Rattle.std.proofs.Common.{◌++◌, ◌∷◌, codes, map, ap, ◌∙◌, arith, append_assoc}
use Rattle.df_io.specs.Joined.{spaced}
use Rattle.df_lang.specs.Canonical.{element_text}
use Rattle.df_lang.proofs.EachAfter.{room_after, whole_after}
use Rattle.df_lang.proofs.print_statements.put_subgroup_statement.Goals as goal

pub put_elements_after-requires-clause-room : goal.put_elements_after-requires-clause-room
put_elements_after-requires-clause-room c =
    let texts = map (element_text c.args.shape.now) c.args.elements.now in
    room_after c.put_text.new.buf.items c.args.name.now texts c.put_text-2.new.buf.items c.put_text-2.ensures.text (omega (arith, c.requires.room, c.put_text.ensures.len))

pub returns : goal.returns
returns c =
    let texts = map (element_text c.args.shape.now) c.args.elements.now in
    whole_after c.put_text.new.buf.items c.args.name.now texts c.put_text-2.new.buf.items c.put_elements_after.new.buf.items c.put_text-2.ensures.text c.put_elements_after.ensures
    ∙ ap (λ l. l ++ spaced (c.args.name.now ∷ texts)) c.put_text.ensures.text
    ∙ append_assoc c.args.buf.now.items (codes "subgroup ") (spaced (c.args.name.now ∷ texts))
