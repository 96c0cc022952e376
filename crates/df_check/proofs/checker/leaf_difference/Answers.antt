use Rattle.std.proofs.Common.{◌≡◌, ◌∙◌, ℕ, Some, sym, arith, true, nat_eq, None}
use Rattle.df_check.specs.Leaves.{stands_at}
use Rattle.df_check.proofs.LeafLists.{agree_first, agree_past, agree_on, differ_at, differ_last, agree_last, as_columns, stands_within}
use Rattle.df_check.proofs.checker.leaf_difference.Goals as goal
use Rattle.df_check.proofs.checker.leaf_difference.Goals.{then-is_yes+else-not-stands_at, else-is_yes}

pub loop-column-init : goal.loop-column-init
loop-column-init c = record { within = omega arith; few = omega arith; agree = agree_first nat_eq (λ (column : ℕ). column) c.args.columns.now c.args.partial.now.decisions }

pub returns-then-not-stands_at : goal.returns-then-not-stands_at
returns-then-not-stands_at c =
    as_columns c.args.columns.now c.args.partial.now.decisions (Some c.loop-column.place)
    (differ_at nat_eq (λ (column : ℕ). column) c.args.columns.now c.args.partial.now.decisions c.loop-column.place c.loop-column.column c.decided.result c.decided.ensures.value (sym c.is_yes.ensures ∙ c.if-is_yes.true) (sym c.stands_at.ensures ∙ c.if-not-stands_at.true) c.loop-column.invariant.agree)

pub loop-column-preserved : goal.loop-column-preserved
loop-column-preserved c =
    let i = c.loop-column.invariant in
    elim c.if-is_yes.branch [
      | then-is_yes+else-not-stands_at w ↦
          let stands : stands_at nat_eq c.args.columns.now c.loop-column.place c.loop-column.column ≡ true = sym w.stands_at.ensures ∙ w.if-not-stands_at.false in
          let within = stands_within nat_eq c.args.columns.now c.loop-column.place c.loop-column.column stands in
          rw w.place-is (record {
            within = omega (arith, within);
            few = omega (arith, i.few);
            agree = agree_on nat_eq (λ (column : ℕ). column) c.args.columns.now c.args.partial.now.decisions c.loop-column.place c.loop-column.column c.decided.result c.decided.ensures.value (sym c.is_yes.ensures ∙ w.if-is_yes.true) stands i.agree;
          })
      | else-is_yes w ↦
          rw w.place-is (record {
            within = i.within;
            few = omega (arith, i.few);
            agree = agree_past nat_eq (λ (column : ℕ). column) c.args.columns.now c.args.partial.now.decisions c.loop-column.place c.loop-column.column c.decided.result c.decided.ensures.value (sym c.is_yes.ensures ∙ w.if-is_yes.false) i.agree;
          })
    ]

pub returns-then-place-columns : goal.returns-then-place-columns
returns-then-place-columns c =
    as_columns c.args.columns.now c.args.partial.now.decisions (Some c.loop-column.place)
    (differ_last nat_eq (λ (column : ℕ). column) c.args.columns.now c.args.partial.now.decisions c.loop-column.place c.loop-column.column (omega (arith, c.requires.long)) c.if-place-columns.true c.loop-column.invariant.agree)

pub returns-else-place-columns : goal.returns-else-place-columns
returns-else-place-columns c =
    as_columns c.args.columns.now c.args.partial.now.decisions None
    (agree_last nat_eq (λ (column : ℕ). column) c.args.columns.now c.args.partial.now.decisions c.loop-column.place c.loop-column.column (omega (arith, c.requires.long)) c.if-place-columns.false c.loop-column.invariant.agree)
