use Rattle.std.proofs.Common.{◌≡◌, ◌∙◌, ◌∷◌, ◌++◌, [], ℕ, true, List, Bool, Option, None, Some, length, take, sym, ap, arith, refl, append-nil}
use Rattle.std.specs.Prelude.{IfSome}
use Rattle.df_walk.specs.declared.Entry.TheVariants.{Over}
use Rattle.df_walk.specs.Assignments.{least_row}
use Rattle.df_walk.specs.Walks.{entry_at}
use Rattle.df_walk.proofs.ColumnWidths.{cells_within}
use Rattle.df_walk.proofs.WalkSteps.{branch_leaves}
use Rattle.df_system.specs.PathRows.{Yeses, is_over_in}
use Rattle.df_search.specs.HeldPaths.{IsTrail}
use Rattle.df_search.proofs.HeldSteps.{held_length}
use Rattle.df_search.proofs.JudgedPaths.{judged_over}
use Rattle.df_search.proofs.LeapPaths.{alive, branches_early}
use Rattle.df_search.proofs.SearchSteps.{is_branch_is}
use Rattle.df_search.proofs.YesColumns.{held_over}
use Rattle.df_search.proofs.held_path.HeldPath.over_with_yes.Goals as goal

pub over_with-requires-clause-column : goal.over_with-requires-clause-column
over_with-requires-clause-column g c =
    let i = c.self.invariant in
    let y = c.self.inside.rows in
    let q = take c.self.inside.length c.self.inside.values.items in
    let branch = rw (← c.self.view_is) at c.requires in
    let is = is_branch_is (entry_at y.rules y.system q) branch in
    omega (arith, (branch_leaves y.rules y.system q is.0 is.1).0, held_length i)

pub over_with-requires-clause-none_over : goal.over_with-requires-clause-none_over
over_with-requires-clause-none_over g c =
    let i = c.self.invariant in
    let y = c.self.inside.rows in
    let q = take c.self.inside.length c.self.inside.values.items in
    let branch = rw (← c.self.view_is) at c.requires in
    let early = branches_early y q i.at.trail c.self.inside.limit i.limit_is i.at.within branch in
    held_over y q i.at.trail ∙ (alive y q i.at.trail c.self.inside.limit i.limit_is early).over

-- the yes for the next column, and the row that is over with it
over_told : (y : Yeses) (q : List Bool) (n : ℕ) → length q ≡ n → IsTrail y.chosen q → (o : Option ℕ) → o ≡ least_row y.system (is_over_in (record y { chosen = n ∷ y.chosen })) → IfSome o (λ row. entry_at y.rules y.system (q ++ true ∷ []) ≡ Over row)
over_told y q n long trail None is = tt
over_told y q n long trail (Some row) is =
    let z : Yeses = record y { chosen = n ∷ y.chosen } in
    let t : IsTrail z.chosen (q ++ true ∷ []) = (q, 0, sym (append-nil (q ++ true ∷ [])), long, trail) in
    sym (judged_over z (q ++ true ∷ []) t (length (q ++ true ∷ [])) refl row is)

pub returns-clause-over : goal.returns-clause-over
returns-clause-over g c =
    let i = c.self.invariant in
    let y = c.self.inside.rows in
    let q = take c.self.inside.length c.self.inside.values.items in
    rw (← c.self.view_is) (over_told y q c.self.inside.length (held_length i) i.at.trail c.over_with.result c.over_with.ensures.row)

pub returns-clause-cost : goal.returns-clause-cost
returns-clause-cost g c =
    let same = ap (λ v. v.system) c.self.view_is in
    rw (← c.self.view_is) (omega (arith, c.over_with.ensures.cost, cells_within c.self.inside.rows.system c.self.inside.length))
