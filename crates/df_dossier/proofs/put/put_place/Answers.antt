use Rattle.std.proofs.Common.{◌+◌, ◌/◌, ◌%◌, ◌++◌, ◌∷◌, [], ◌∙◌, decimal, length, ap, sym, arith, length-append}
use Rattle.df_dossier.proofs.PutPlaces.{one_digit, two_digits, three_digits}
use Rattle.df_dossier.proofs.put.put_place.Goals as goal

pub put_text-requires : goal.put_text-requires
put_text-requires c = omega (arith, c.requires, ap length (one_digit c.args.number (omega arith)))

pub put_text-requires-then-number-lt100 : goal.put_text-requires-then-number-lt100
put_text-requires-then-number-lt100 c = omega (arith, c.requires, ap length (two_digits c.args.number (omega arith) (omega arith)))

pub put_text-requires-then-number-lt1000 : goal.put_text-requires-then-number-lt1000
put_text-requires-then-number-lt1000 c = omega (arith, c.requires, ap length (three_digits c.args.number (omega arith) (omega arith)))

pub returns-then-number-lt10-clause-text : goal.returns-then-number-lt10-clause-text
returns-then-number-lt10-clause-text c =
    let old = c.args.buf.now.items in
    c.put_text.ensures.text ∙ ap (λ d. old ++ d ∷ []) c.digit.ensures ∙ ap (λ l. old ++ l) (sym (one_digit c.args.number (omega arith)))

pub returns-then-number-lt10-clause-len : goal.returns-then-number-lt10-clause-len
returns-then-number-lt10-clause-len c = ap length (returns-then-number-lt10-clause-text c) ∙ length-append c.args.buf.now.items (decimal c.args.number)

pub returns-then-number-lt100-clause-text : goal.returns-then-number-lt100-clause-text
returns-then-number-lt100-clause-text c =
    let old = c.args.buf.now.items in
    let n = c.args.number in
    c.put_text-then-number-lt100.ensures.text
    ∙ ap (λ d. old ++ d ∷ c.digit-then-number-lt100-2.result ∷ []) c.digit-then-number-lt100.ensures
    ∙ ap (λ d. old ++ (48 + n / 10) ∷ d ∷ []) c.digit-then-number-lt100-2.ensures
    ∙ ap (λ l. old ++ l) (sym (two_digits n (omega arith) (omega arith)))

pub returns-then-number-lt100-clause-len : goal.returns-then-number-lt100-clause-len
returns-then-number-lt100-clause-len c = ap length (returns-then-number-lt100-clause-text c) ∙ length-append c.args.buf.now.items (decimal c.args.number)

pub returns-then-number-lt1000-clause-text : goal.returns-then-number-lt1000-clause-text
returns-then-number-lt1000-clause-text c =
    let old = c.args.buf.now.items in
    let n = c.args.number in
    c.put_text-then-number-lt1000.ensures.text
    ∙ ap (λ d. old ++ d ∷ c.digit-then-number-lt1000-2.result ∷ c.digit-then-number-lt1000-3.result ∷ []) c.digit-then-number-lt1000.ensures
    ∙ ap (λ d. old ++ (48 + n / 10 / 10) ∷ d ∷ c.digit-then-number-lt1000-3.result ∷ []) c.digit-then-number-lt1000-2.ensures
    ∙ ap (λ d. old ++ (48 + n / 10 / 10) ∷ (48 + n / 10 % 10) ∷ d ∷ []) c.digit-then-number-lt1000-3.ensures
    ∙ ap (λ l. old ++ l) (sym (three_digits n (omega arith) (omega arith)))

pub returns-then-number-lt1000-clause-len : goal.returns-then-number-lt1000-clause-len
returns-then-number-lt1000-clause-len c = ap length (returns-then-number-lt1000-clause-text c) ∙ length-append c.args.buf.now.items (decimal c.args.number)
