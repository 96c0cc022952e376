use Rattle.std.proofs.Common.{◌≡◌, ◌↔◌, true, sym, subst}
use Rattle.df_lang.specs.Balance.{IsBalanced}
use Rattle.df_family.specs.declared.verdict.Verdict.{Verdict}
use Rattle.df_family.specs.Developments.{develop}
use Rattle.df_family.specs.Tables.{IsAsStated}
use Rattle.df_family.specs.Verdicts.{is_accepted, IsVerdictOn}
use Rattle.df_family.proofs.TableRows.{verdict_is}
use Rattle.df_family.proofs.VerdictLaws.{accepts_rows, verdict_law}
use Rattle.df_family.proofs.verdict.verify.Goals as goal

pub returns-clause-row : goal.returns-clause-row
returns-clause-row c =
    let s = c.args.problem.now in
    subst (λ (v : Verdict). IsVerdictOn s v) (sym c.verdict_by.ensures) (verdict_is s)

pub returns-clause-rows : goal.returns-clause-rows
returns-clause-rows c =
    let s = c.args.problem.now in
    subst (λ (v : Verdict). (is_accepted v ≡ true) ↔ IsAsStated s) (sym c.verdict_by.ensures) (accepts_rows s)

pub returns-clause-balance : goal.returns-clause-balance
returns-clause-balance c =
    let s = c.args.problem.now in
    subst (λ (v : Verdict). (is_accepted v ≡ true) ↔ IsBalanced s (develop s)) (sym c.verdict_by.ensures) (verdict_law s c.counted_table.ensures.rules)
