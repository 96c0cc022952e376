use Rattle.std.proofs.Common.{◌+◌, ◌≤◌, ◌++◌, ◌∷◌, [], length, ap, sym, subst, ◌∙◌, arith, length-append}
use Rattle.df_system.specs.Storage.{cell_count, columns_of, positive_cells}
use Rattle.df_system.proofs.PositiveCells.{length-positive_cells}
use Rattle.df_system.proofs.MadeColumns.{IsPushed, pushed, cells_counted}
use Rattle.df_system.proofs.columns.Columns.push_entries.Goals as goal

pub overflow_cast-end : goal.overflow_cast-end
overflow_cast-end c =
    let made = c.self.invariant in
    let count = cells_counted c.self.inside.starts.items c.self.inside.cells.items made.starts_are in
    let few : cell_count (columns_of c.self.inside.starts.items c.self.inside.cells.items) + length c.args.entries.now ≤ 16777216 = subst (λ l. cell_count l + length c.args.entries.now ≤ 16777216) (sym c.self.view_is) c.requires.few in
    omega (arith, few, count, c.len-end.ensures, c.push_positive.new.cells.ok.0, ap length c.in_default.ensures.all, length-append c.self.inside.cells.items (positive_cells 0 c.args.entries.now), length-positive_cells 0 c.args.entries.now)

is_pushed : (c : goal.In_ok-push) → IsPushed c.self.inside.starts.items c.self.inside.cells.items (positive_cells 0 c.args.entries.now) c.push.new.self.items c.push_positive.new.cells.items
is_pushed c =
    let new = positive_cells 0 c.args.entries.now in
    let few : cell_count _ + length c.args.entries.now ≤ 16777216 = subst (λ l. cell_count l + length c.args.entries.now ≤ 16777216) (sym c.self.view_is) c.requires.few in
    pushed c.self.inside.starts.items c.self.inside.cells.items new c.len-end.result c.push.new.self.items c.push_positive.new.cells.items c.self.invariant (omega (arith, few, length-positive_cells 0 c.args.entries.now)) c.in_default.ensures.all (c.len-end.ensures ∙ c.push_positive.new.cells.ok.0) (c.in_ok-push.ensures.items ∙ ap (λ l. l ++ c.len-end.result ∷ []) c.in_ok-reserve.ensures.items)

pub invariant_of-self-2 : goal.invariant_of-self-2
invariant_of-self-2 c = (is_pushed c).made

pub returns-clause-pushed : goal.returns-clause-pushed
returns-clause-pushed c = (is_pushed c).columns ∙ ap (λ l. l ++ positive_cells 0 c.args.entries.now ∷ []) c.self.view_is
