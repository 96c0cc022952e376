use Rattle.std.proofs.Common.{◌≡◌, ◌↔◌, true, sym, subst}
use Rattle.df_lang.specs.Balance.{IsBalanced}
use Rattle.df_mixed.specs.declared.verdict.MixedVerdict.{MixedVerdict}
use Rattle.df_mixed.specs.PairOrbits.{shifts_of}
use Rattle.df_mixed.specs.MixedTables.{mixed_development, AreFoundAsStated}
use Rattle.df_mixed.specs.MixedVerdicts.{is_accepted, IsMixedVerdictOn}
use Rattle.df_mixed.proofs.VerdictLaws.{accepts_rows, accepts_balance, verdict_is}
use Rattle.df_mixed.proofs.verdict.table_verdict.Goals as goal

pub returns-clause-balance : goal.returns-clause-balance
returns-clause-balance c =
    let s = c.args.problem.now in
    subst (λ (v : MixedVerdict). (is_accepted v ≡ true) ↔ IsBalanced s (mixed_development s)) (sym c.verdict_by.ensures) (accepts_balance s c.block_count-blocks.ensures.rules)

pub returns-clause-rows : goal.returns-clause-rows
returns-clause-rows c =
    let s = c.args.problem.now in
    subst (λ (v : MixedVerdict). (is_accepted v ≡ true) ↔ AreFoundAsStated s (shifts_of s)) (sym c.verdict_by.ensures) (accepts_rows s)

pub returns-clause-row : goal.returns-clause-row
returns-clause-row c = subst (λ (v : MixedVerdict). IsMixedVerdictOn c.args.problem.now v) (sym c.verdict_by.ensures) (verdict_is c.args.problem.now)
