-- How long the line of a log's fault is, and how it is put together.
use Rattle.std.proofs.Common.{◌≡◌, ℕ, ◌^◌, ◌<◌, ◌≤◌, ◌+◌, ◌*◌, ◌++◌, Bool, true, List, [], ◌∷◌, length, length-append, append_assoc, sym, ap, ◌∙◌, arith}
use Rattle.std.specs.Prelude.{FitsSigned, Option, Some, None}
use Rattle.std.specs.Int.{w64}
use Rattle.std.proofs.lemmas.Grind.{flat_map-append}
use Rattle.std.proofs.lemmas.List.Folds.{list_all-append}
use Rattle.std.specs.List.{flat_map, list_all, AllByRecursion}
use Rattle.std.proofs.lemmas.Bool.{leb-true, and_parts}
use Rattle.df_io.proofs.NumbersBack.{decimal_short, signed_short}
use Rattle.df_list.specs.declared.log_fault_texts.LogField.{LogField}
use Rattle.df_list.specs.LogFaultTexts.{Numbered, Shown, numbers_of, number_text, is_short, are_names_short, log_fault_text}

number_short : (n : Numbered) → is_short n.name ≡ true → FitsSigned w64 n.value → length (number_text n) ≤ 38
number_short n named fits =
    let name = leb-true (length n.name) 16 named in
    let value = signed_short n.value fits in
    simp length-append (omega (arith, name, value))

numbers_short : (ns : List Numbered) → list_all (λ n. is_short n.name) ns ≡ true → AllByRecursion (λ n. FitsSigned w64 n.value) ns → length (flat_map number_text ns) ≤ 38 * length ns
numbers_short [] named fits = omega arith
numbers_short (n ∷ ns) named fits =
    let parts = and_parts (is_short n.name) (list_all (λ m. is_short m.name) ns) named in
    let first = number_short n parts.0 fits.0 in
    let others = numbers_short ns parts.1 fits.1 in
    omega (arith, first, others, length-append (number_text n) (flat_map number_text ns))

one_at_most : (field : Option LogField) → length (numbers_of field) ≤ 1
one_at_most None = omega arith
one_at_most (Some field) = omega arith

field_short : (field : Option LogField) → list_all (λ n. is_short n.name) (numbers_of field) ≡ true → AllByRecursion (λ n. FitsSigned w64 n.value) (numbers_of field) → length (flat_map number_text (numbers_of field)) ≤ 38
field_short field named fits = let few = one_at_most field in let short = numbers_short (numbers_of field) named fits in omega (arith, few, short)

-- a fault's name and two numbers at most
pub fault_short : (line : ℕ) (fault : Shown) (first second : Option LogField) → fault.numbers ≡ numbers_of first ++ numbers_of second → line < 2 ^ 64 → are_names_short fault ≡ true → AllByRecursion (λ n. FitsSigned w64 n.value) (numbers_of first) → AllByRecursion (λ n. FitsSigned w64 n.value) (numbers_of second) → length (log_fault_text line fault) ≤ 126
fault_short line fault first second are fits named a b =
    let parts = and_parts (is_short fault.name) (list_all (λ n. is_short n.name) fault.numbers) named in
    let name = leb-true (length fault.name) 16 parts.0 in
    let each = and_parts (list_all (λ n. is_short n.name) (numbers_of first)) (list_all (λ n. is_short n.name) (numbers_of second)) (sym (list_all-append (λ n. is_short n.name) (numbers_of first) (numbers_of second)) ∙ sym (ap (list_all (λ n. is_short n.name)) are) ∙ parts.1) in
    let one = field_short first each.0 a in
    let two = field_short second each.1 b in
    let number = decimal_short line fits in
    let joined : length (flat_map number_text fault.numbers) ≡ length (flat_map number_text (numbers_of first)) + length (flat_map number_text (numbers_of second)) = ap (λ ns. length (flat_map number_text ns)) are ∙ ap length (flat_map-append number_text (numbers_of first) (numbers_of second)) ∙ length-append (flat_map number_text (numbers_of first)) (flat_map number_text (numbers_of second)) in
    simp length-append (omega (arith, name, one, two, number, joined))

-- seven texts, one after another
pub seven_joined : (a b c d e f g : List ℕ) → (((((a ++ b) ++ c) ++ d) ++ e) ++ f) ++ g ≡ a ++ ((((b ++ c) ++ d) ++ e) ++ (f ++ g))
seven_joined a b c d e f g = simp append_assoc
