use Rattle.std.proofs.Common.{◌≡◌, ◌++◌, ◌-◌, ◌<◌, decimal, length, map, get_or, take, drop, sym, ap, ◌∙◌, arith, tests, append-nil, append_assoc, length-append}
use Rattle.std.specs.List.{join_with_byte}
use Rattle.std.proofs.lemmas.List.{nil_from_length}
use Rattle.df_lang.specs.Canonical.{element_text}
use Rattle.df_lang.specs.Separated.{each_after}
use Rattle.df_lang.proofs.EachAfter.{join_first}
use Rattle.df_lang.proofs.print_points.put_element.Goals as goal

whole : goal.returns-clause-text
unfolding element_text
whole c =
    let rs = c.as_slice-residues.result.now in
    let some : 0 < length rs = grind (arith, tests) in
    let split = join_first 44 decimal rs 0 some in
    c.put_numbers_after.ensures.text
    ∙ ap (λ l. l ++ each_after 44 (map decimal (take (length rs - 1) (drop 1 rs)))) (c.put_number.ensures.text ∙ ap (λ n. c.args.buf.now.items ++ decimal n) c.from.ensures)
    ∙ append_assoc c.args.buf.now.items (decimal (get_or rs 0 0)) (each_after 44 (map decimal (take (length rs - 1) (drop 1 rs))))
    ∙ ap (λ l. c.args.buf.now.items ++ l) (sym split ∙ ap (λ l. join_with_byte 44 (map decimal l)) (c.as_slice-residues.ensures.value ∙ c.coords-residues.ensures.residues))

pub returns-then-is_empty-clause-text : goal.returns-then-is_empty-clause-text
unfolding element_text
returns-then-is_empty-clause-text c =
    let none : length c.as_slice-residues.result.now ≡ 0 = grind (arith, tests) in
    let empty = sym (c.as_slice-residues.ensures.value ∙ c.coords-residues.ensures.residues) ∙ nil_from_length c.as_slice-residues.result.now none in
    sym (append-nil c.args.buf.now.items) ∙ ap (λ l. c.args.buf.now.items ++ join_with_byte 44 (map decimal l)) (sym empty)

pub returns-then-is_empty-clause-len : goal.returns-then-is_empty-clause-len
returns-then-is_empty-clause-len c =
    ap length (returns-then-is_empty-clause-text c) ∙ length-append c.args.buf.now.items (element_text c.args.shape.now c.args.e)

pub put_number-requires : goal.put_number-requires
unfolding element_text
put_number-requires c =
    let rs = c.as_slice-residues.result.now in
    let some : 0 < length rs = grind (arith, tests) in
    let split = ap length (join_first 44 decimal rs 0 some) ∙ length-append (decimal (get_or rs 0 0)) (each_after 44 (map decimal (take (length rs - 1) (drop 1 rs)))) in
    let is = ap (λ l. length (join_with_byte 44 (map decimal l))) (c.as_slice-residues.ensures.value ∙ c.coords-residues.ensures.residues) in
    omega (arith, split, is, c.requires.room, ap (λ n. length (decimal n)) c.from.ensures)

pub put_numbers_after-requires : goal.put_numbers_after-requires
unfolding element_text
put_numbers_after-requires c =
    let rs = c.as_slice-residues.result.now in
    let some : 0 < length rs = grind (arith, tests) in
    let split = ap length (join_first 44 decimal rs 0 some) ∙ length-append (decimal (get_or rs 0 0)) (each_after 44 (map decimal (take (length rs - 1) (drop 1 rs)))) in
    let is = ap (λ l. length (join_with_byte 44 (map decimal l))) (c.as_slice-residues.ensures.value ∙ c.coords-residues.ensures.residues) in
    omega (arith, split, is, c.requires.room, ap (λ n. length (decimal n)) c.from.ensures, c.put_number.ensures.len)

pub returns-clause-text : goal.returns-clause-text
returns-clause-text c = whole c

pub returns-clause-len : goal.returns-clause-len
returns-clause-len c = ap length (whole c) ∙ length-append c.args.buf.now.items (element_text c.args.shape.now c.args.e)
