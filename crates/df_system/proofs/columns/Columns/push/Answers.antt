use Rattle.std.proofs.Common.{◌+◌, ◌≤◌, ◌++◌, ◌∷◌, [], length, ap, sym, subst, ◌∙◌}
use Rattle.df_system.specs.Storage.{cell_count}
use Rattle.df_system.proofs.MadeColumns.{IsPushed, pushed}
use Rattle.df_system.proofs.columns.Columns.push.Goals as goal

is_pushed : (c : goal.In_ok-push) → IsPushed c.self.inside.starts.items c.self.inside.cells.items c.args.column.now c.push.new.self.items c.extend_from_slice.new.self.items
is_pushed c =
    let few : cell_count _ + length c.args.column.now ≤ 16777216 = subst (λ l. cell_count l + length c.args.column.now ≤ 16777216) (sym c.self.view_is) c.requires.few in
    pushed c.self.inside.starts.items c.self.inside.cells.items c.args.column.now c.len-end.result c.push.new.self.items c.extend_from_slice.new.self.items c.self.invariant few c.in_ok-extend_from_slice.ensures.items (c.len-end.ensures ∙ c.extend_from_slice.new.self.ok.0) (c.in_ok-push.ensures.items ∙ ap (λ l. l ++ c.len-end.result ∷ []) c.in_ok-reserve.ensures.items)

pub invariant_of-self-2 : goal.invariant_of-self-2
invariant_of-self-2 c = (is_pushed c).made

pub returns-clause-pushed : goal.returns-clause-pushed
returns-clause-pushed c = (is_pushed c).columns ∙ ap (λ l. l ++ c.args.column.now ∷ []) c.self.view_is
