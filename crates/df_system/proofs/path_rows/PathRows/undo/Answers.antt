use Rattle.std.proofs.Common.{◌≡◌, ◌<◌, ◌-◌, ◌∙◌, ◌∷◌, length, arith, take, reverse, ap, sym}
use Rattle.std.proofs.lemmas.List.{get_or_read}
use Rattle.df_system.proofs.DecisionTrails.{reverse_less}
use Rattle.df_system.proofs.PathRowLaws.{have_targets, can_give_back, stack_less, rows_given_back}
use Rattle.df_system.proofs.BarredRows.{barring_less}
use Rattle.df_system.proofs.path_rows.PathRows.undo.Goals as goal

pub give_back_along-requires-clause-taken : goal.give_back_along-requires-clause-taken
give_back_along-requires-clause-taken g c =
    let i = c.self.invariant in
    let trail = c.self.inside.trail.items in
    let count = c.self.inside.count in
    let column = c.index-column.result.now in
    let last : reverse (take count trail) ≡ column ∷ reverse (take (count - 1) trail) = reverse_less trail count column (omega (arith, c.if-self-eq0.false)) (omega (arith, i.stacked.places, i.stacked.within)) ∙ ap (λ n. n ∷ reverse (take (count - 1) trail)) (sym c.index-column.ensures) in
    can_give_back column (rw last at i.rows_are)

pub give_back_along-requires-clause-targets : goal.give_back_along-requires-clause-targets
give_back_along-requires-clause-targets g c = have_targets c.self.invariant.rows_are

pub invariant_of-self : goal.invariant_of-self
invariant_of-self g c =
    let i = c.self.invariant in
    let trail = c.self.inside.trail.items in
    let count = c.self.inside.count in
    let column = c.index-column.result.now in
    let last : reverse (take count trail) ≡ column ∷ reverse (take (count - 1) trail) = reverse_less trail count column (omega (arith, c.if-self-eq0.false)) (omega (arith, i.stacked.places, i.stacked.within)) ∙ ap (λ n. n ∷ reverse (take (count - 1) trail)) (sym c.index-column.ensures) in
    record {
      system = i.system;
      few_rows = i.few_rows;
      few_columns = i.few_columns;
      deadlines_are = i.deadlines_are;
      stacked = stack_less i.stacked (omega arith);
      barring_are = barring_less c.self.inside.barred c.pop.new.self column (rw last at i.barring_are) c.pop.ensures;
      rows_are = rows_given_back column (rw last at i.rows_are) c.give_back_along.ensures.along c.give_back_along.ensures.due;
    }

pub returns-clause-within : goal.returns-clause-within
returns-clause-within g c =
    let i = c.self.invariant in
    let trail = c.self.inside.trail.items in
    let count = c.self.inside.count in
    let short : count - 1 < length trail = omega (arith, c.if-self-eq0.false, i.stacked.places, i.stacked.within) in
    rw (← c.self.view_is) (omega (arith, get_or_read trail (count - 1) c.index-column.result.now short c.index-column.ensures 0, i.stacked.columns (count - 1) (omega (arith, c.if-self-eq0.false))))
