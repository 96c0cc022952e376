use Rattle.std.proofs.Common.{◌≡◌, ◌++◌, Some, sym, ap, subst, ◌∙◌}
use Rattle.std.proofs.lemmas.Bool.Decides.{Decides-eqb}
use Rattle.std.proofs.lemmas.Slice.Eq.{strip_prefix_is}
use Rattle.df_dossier.specs.declared.quick.QuickEntry.TheVariants.{Branch, Over, Under}
use Rattle.df_dossier.specs.Tokens.{place_of}
use Rattle.df_dossier.specs.QuickEntries.{IsQuick}
use Rattle.df_dossier.proofs.QuickLines.{branch_is, over_is, under_is}
use Rattle.df_dossier.proofs.quick.quick_entry.Goals as goal

pub returns-in-Some : goal.returns-in-Some
returns-in-Some c =
    let place : place_of c.in-Some.column.now ≡ Some c.in_ok-place.field-0 = sym c.place.ensures ∙ c.in_ok-place.was in
    let line = strip_prefix_is Decides-eqb c.args.line.now c.as_slice.result.now (Some c.in-Some.column) c.in-Some.ensures.cases ∙ ap (λ word. word ++ c.in-Some.column.now) c.as_slice.ensures in
    subst (λ l. IsQuick l (Branch c.in_ok-place.field-0)) (sym line) (branch_is c.in-Some.column.now c.in_ok-place.field-0 place)

pub returns-in-Some-strip_prefix : goal.returns-in-Some-strip_prefix
returns-in-Some-strip_prefix c =
    let place : place_of c.in-Some-strip_prefix.row.now ≡ Some c.in_ok-place-2.field-0 = sym c.place-in-Some-strip_prefix.ensures ∙ c.in_ok-place-2.was in
    let line = strip_prefix_is Decides-eqb c.args.line.now c.as_slice-2.result.now (Some c.in-Some-strip_prefix.row) c.in-Some-strip_prefix.ensures.cases ∙ ap (λ word. word ++ c.in-Some-strip_prefix.row.now) c.as_slice-2.ensures in
    subst (λ l. IsQuick l (Over c.in_ok-place-2.field-0)) (sym line) (over_is c.in-Some-strip_prefix.row.now c.in_ok-place-2.field-0 place)

pub returns-in-Some-strip_prefix-2 : goal.returns-in-Some-strip_prefix-2
returns-in-Some-strip_prefix-2 c =
    let place : place_of c.in-Some-strip_prefix-2.row.now ≡ Some c.in_ok-place-3.field-0 = sym c.place-in-Some-strip_prefix-2.ensures ∙ c.in_ok-place-3.was in
    let line = strip_prefix_is Decides-eqb c.args.line.now c.as_slice-3.result.now (Some c.in-Some-strip_prefix-2.row) c.in-Some-strip_prefix-2.ensures.cases ∙ ap (λ word. word ++ c.in-Some-strip_prefix-2.row.now) c.as_slice-3.ensures in
    subst (λ l. IsQuick l (Under c.in_ok-place-3.field-0)) (sym line) (under_is c.in-Some-strip_prefix-2.row.now c.in_ok-place-3.field-0 place)
