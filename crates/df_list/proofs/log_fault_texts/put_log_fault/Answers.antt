use Rattle.std.proofs.Common.{◌≡◌, ◌++◌, ap, sym, ◌∙◌, codes, refl}
use Rattle.std.specs.Fmt.{decimal}
use Rattle.std.specs.List.{flat_map}
use Rattle.std.proofs.lemmas.Grind.{flat_map-append}
use Rattle.df_list.specs.LogFaultTexts.{numbers_of, number_text}
use Rattle.df_list.proofs.FaultLengths.{seven_joined}
use Rattle.df_list.proofs.log_fault_texts.put_log_fault.Goals as goal

pub returns-clause-text : goal.returns-clause-text
returns-clause-text c =
    let old = c.args.buf.now.items in
    let first = flat_map number_text (numbers_of c.args.fault.first) in
    let second = flat_map number_text (numbers_of c.args.fault.second) in
    let named = c.put_number.ensures.text ∙ ap (λ l. l ++ decimal c.args.line) c.put_text.ensures.text in
    let spaced = c.put_text-2.ensures.text ∙ ap (λ l. l ++ codes " ") named in
    let whole = c.put_text-3.ensures.text ∙ ap (λ l. l ++ c.as_bytes.result.now) spaced ∙ ap (λ n. (((old ++ codes "refused line ") ++ decimal c.args.line) ++ codes " ") ++ n) c.as_bytes.ensures.value in
    let one = c.put_field.ensures.text ∙ ap (λ l. l ++ first) whole in
    let two = c.put_field-2.ensures.text ∙ ap (λ l. l ++ second) one in
    two ∙ seven_joined old (codes "refused line ") (decimal c.args.line) (codes " ") c.args.fault.name.now first second
    ∙ ap (λ l. old ++ ((((codes "refused line " ++ decimal c.args.line) ++ codes " ") ++ c.args.fault.name.now) ++ l)) (sym (flat_map-append number_text (numbers_of c.args.fault.first) (numbers_of c.args.fault.second)))
