use Rattle.std.proofs.Common.{find, ap, sym, ◌∙◌}
use Rattle.df_family.specs.declared.table.Row.TheVariants.{Diff}
use Rattle.df_family.specs.declared.verdict.Verdict.TheVariants.{Accepted, Refused}
use Rattle.df_family.specs.Tables.{entry_at, is_wrong}
use Rattle.df_family.specs.Verdicts.{verdict_at}
use Rattle.df_family.proofs.VerdictLaws.{none_first, found_first}
use Rattle.df_family.proofs.verdict.verdict_by.Goals as goal

pub returns-in-None : goal.returns-in-None
returns-in-None c =
    let s = c.args.problem.now in
    let none = ap (find is_wrong) (sym c.requires.table) ∙ none_first is_wrong c.args.table.now (sym c.in-None.ensures) in
    ap Accepted c.requires.blocks ∙ sym (ap (verdict_at s) none)

pub returns-in-Some : goal.returns-in-Some
returns-in-Some c =
    let s = c.args.problem.now in
    let e = entry_at c.args.table.now c.in-Some.place in
    let first = found_first is_wrong c.args.table.now c.in-Some.place record { row = Diff 0; found = 0; stated = 0 } (sym c.in-Some.ensures) in
    let is = ap (find is_wrong) (sym c.requires.table) ∙ first.1 in
    ap (λ row. Refused row c.found.result c.stated.result) c.row.ensures ∙ ap (λ found. Refused e.row found c.stated.result) c.found.ensures
    ∙ ap (Refused e.row e.found) c.stated.ensures ∙ sym (ap (verdict_at s) is)
