use Rattle.std.proofs.Common.{◌≡◌, ◌∙◌, ap, arith, rules}
use Rattle.std.specs.Prelude.{replicate}
use Rattle.df_system.specs.BarredColumns.{Barring}
use Rattle.df_system.proofs.PathRowLaws.{stack_none}
use Rattle.df_system.proofs.BarredRows.{barring_first}
use Rattle.df_system.proofs.path_rows.PathRows.new.Goals as goal

pub invariant_of-result : goal.invariant_of-result
invariant_of-result c =
    let items : c.in_ok-trail.trail.items ≡ replicate c.columns.result 0 = search rules in
    record {
      system = c.columns.ensures.system;
      few_rows = search rules;
      few_columns = omega (arith, c.columns.ensures.value, c.columns.ensures.few);
      deadlines_are = c.in_ok-deadlines.ensures;
      stacked = rw items (stack_none c.args.system.now c.columns.result c.columns.ensures.value);
      rows_are = c.in_ok-rows.ensures;
      barring_are = barring_first c.bar_first.new.barred c.in_ok-rows.ensures (c.bar_first.ensures.same ∙ ap (λ (b : Barring). b.system) c.in_ok-barred.ensures) c.bar_first.ensures.depth c.bar_first.ensures.bar;
    }
