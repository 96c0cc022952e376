use Rattle.std.proofs.Common.{map, string_bytes, ◌+◌, ◌≡◌, [], Some, take, sym, ap, subst, ◌∙◌, arith}
use Rattle.std.proofs.lemmas.List.{get_or-map, length-map, take_all}
use Rattle.std.specs.Option.{option_and_then}
use Rattle.df_words.specs.Reading.{after, reading_from, ended}
use Rattle.df_words.specs.CommandLines.{IsFirstFault}
use Rattle.df_words.specs.declared.words.Reading.TheVariants.{Start}
use Rattle.df_words.proofs.CommandLines.{command_lines}
use Rattle.df_words.proofs.Faults.{fault_here, fault_past}
use Rattle.df_words.proofs.Readings.{one_more, ready}
use Rattle.df_words.proofs.words.read_words.Goals as goal

pub returns-in-None-clause-fault : goal.returns-in-None-clause-fault
returns-in-None-clause-fault c =
    let words = map string_bytes c.args.words.now in
    let long = length-map c.args.words.now string_bytes in
    let word = get_or-map string_bytes c.args.words.now c.loop-place.place c.index-words-place.result [] (omega arith) ∙ ap string_bytes (sym c.index-words-place.is) ∙ sym c.as_str.ensures.value in
    fault_here c.loop-place.reading words c.loop-place.place (omega (arith, long)) c.loop-place.invariant (ap (after c.loop-place.reading) word ∙ sym c.step.ensures ∙ c.in-None.is)

pub loop-place-preserved : goal.loop-place-preserved
loop-place-preserved c =
    let words = map string_bytes c.args.words.now in
    let long = length-map c.args.words.now string_bytes in
    let word = get_or-map string_bytes c.args.words.now c.loop-place.place c.index-words-place.result [] (omega arith) ∙ ap string_bytes (sym c.index-words-place.is) ∙ sym c.as_str.ensures.value in
    one_more Start c.loop-place.reading words c.loop-place.place (omega (arith, long)) c.loop-place.invariant ∙ ap (after c.loop-place.reading) word ∙ sym c.step.ensures ∙ c.in-Some.is

pub returns-in-None-end-clause-fault : goal.returns-in-None-end-clause-fault
returns-in-None-end-clause-fault c =
    let words = map string_bytes c.args.words.now in
    let long = length-map c.args.words.now string_bytes in
    let whole : reading_from Start words ≡ Some c.loop-place.reading = ap (reading_from Start) (sym (take_all c.loop-place.place words (omega (arith, long)))) ∙ c.loop-place.invariant in
    subst (λ n. IsFirstFault words (n + 1)) long (fault_past c.loop-place.reading words whole (sym c.end.ensures ∙ c.in-None-end.is))

pub returns-in-Some-end-clause-command : goal.returns-in-Some-end-clause-command
returns-in-Some-end-clause-command c =
    let words = map string_bytes c.args.words.now in
    let long = length-map c.args.words.now string_bytes in
    let whole : reading_from Start words ≡ Some c.loop-place.reading = ap (reading_from Start) (sym (take_all c.loop-place.place words (omega (arith, long)))) ∙ c.loop-place.invariant in
    (command_lines words c.in-Some-end.command).0 (ap (option_and_then ended) whole ∙ sym c.end.ensures ∙ c.in-Some-end.is)

pub end-requires : goal.end-requires
end-requires c =
    let words = map string_bytes c.args.words.now in
    ready Start (take c.loop-place.place words) c.loop-place.reading tt c.loop-place.invariant
