use Rattle.std.proofs.Common.{◌≡◌, ◌∙◌, sym, ap, of_z, w64, arith}
use Rattle.df_check.proofs.EntryFaults.{settled_none}
use Rattle.df_check.proofs.RowFaults.{least_is, least_none}
use Rattle.df_check.proofs.judge.least_unmet.Goals as goal

pub returns-then-settled-clause-value : goal.returns-then-settled-clause-value
returns-then-settled-clause-value c = sym (settled_none c.args.partial.now.system c.args.partial.now.decisions (sym c.settled.ensures ∙ c.if-settled.true))

pub returns-then-need-ne0-clause-value : goal.returns-then-need-ne0-clause-value
returns-then-need-ne0-clause-value c = sym (least_is c.args.partial.now.system c.args.partial.now.decisions c.loop-row.row (omega (arith, c.requires)) (λ e. c.if-need-ne0.true (ap (of_z w64) (c.need.ensures ∙ e))) c.loop-row.invariant)

pub returns-clause-value : goal.returns-clause-value
returns-clause-value c = sym (least_none c.args.partial.now.system c.args.partial.now.decisions c.loop-row.row (omega (arith, c.requires)) c.loop-row.invariant)
