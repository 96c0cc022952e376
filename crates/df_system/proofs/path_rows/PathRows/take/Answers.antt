use Rattle.std.proofs.Common.{◌<◌, length, arith, ap, subst, sym}
use Rattle.df_system.proofs.DecisionTrails.{reverse_more}
use Rattle.df_system.proofs.PathRowLaws.{have_targets, can_take, stack_room, stack_more, rows_taken}
use Rattle.df_system.specs.BarredColumns.{Barring}
use Rattle.df_system.specs.CountedRows.{BarFullRows}
use Rattle.df_system.proofs.BarredRows.{full_rows, barring_more}
use Rattle.df_system.proofs.path_rows.PathRows.take.Goals as goal

pub take_along-requires-clause-small : goal.take_along-requires-clause-small
take_along-requires-clause-small g c = can_take c.self.invariant.few_columns c.self.invariant.stacked c.self.invariant.rows_are

pub take_along-requires-clause-bar : goal.take_along-requires-clause-bar
take_along-requires-clause-bar g c =
    let i = c.self.invariant in
    subst (λ (b : Barring). BarFullRows b.levels c.self.inside.rows) (sym c.push.ensures) (full_rows c.self.inside.barred i.rows_are i.barring_are)

pub take_along-requires-clause-targets : goal.take_along-requires-clause-targets
take_along-requires-clause-targets g c = have_targets c.self.invariant.rows_are

pub invariant_of-self : goal.invariant_of-self
invariant_of-self g c =
    let i = c.self.invariant in
    let room = stack_room i.stacked (rw (← c.self.view_is) at c.requires.room) in
    let within : c.args.column < length c.self.inside.system.now.columns = omega (arith, c.requires.column, ap (λ v. length v.system.columns) c.self.view_is) in
    let rows = rows_taken c.args.column i.rows_are c.take_along.ensures.along c.take_along.ensures.due in
    let along = c.take_along.ensures in
    let trail = reverse_more c.self.inside.trail.items c.self.inside.count c.args.column room in
    record {
      system = i.system;
      few_rows = i.few_rows;
      few_columns = i.few_columns;
      deadlines_are = i.deadlines_are;
      stacked = stack_more c.args.column i.stacked room within c.take_along.ensures.small;
      rows_are = rw trail rows;
      barring_are = rw trail (barring_more c.self.inside.barred c.push.new.self c.take_along.new.barred c.args.column i.barring_are rows c.push.ensures along.same along.lower along.depth along.bar);
    }
