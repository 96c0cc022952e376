-- The entry of a path, by what its rows answer.
use Rattle.std.proofs.Common.{◌≡◌, ℕ, Bool, true, false, List, length, Option, Some, None, refl, sym, ap, ◌∙◌}
use Rattle.std.specs.List.{list_all}
use Rattle.std.proofs.lemmas.Bool.{true≢false}
use Rattle.df_walk.specs.declared.Entry.TheVariants as entry
use Rattle.df_walk.specs.Systems.{rows_of, entries}
use Rattle.df_walk.specs.Assignments.{divisor, is_settled, least_row, least_over, least_under, least_residue}
use Rattle.df_walk.specs.Walks.{decided, entry_at, entry_from}
use Rattle.df_system.specs.PathRows.{Yeses, is_over_in, is_met_in, is_short_from, divisor_from, least_residue_by}
use Rattle.df_search.specs.HeldPaths.{IsTrail}
use Rattle.df_search.specs.Leaps.{is_leaf}
use Rattle.df_search.proofs.YesColumns.{same_divisor, held_over, held_short, held_residue, held_settled}

settled_from : (o u r : Option ℕ) (d : ℕ → ℕ) (met : Bool) (column : ℕ) → is_leaf (entry_from o u r d met column) ≡ false → met ≡ true → entry.Settled ≡ entry_from o u r d met column
settled_from (Some x) u r d met column live is = absurd (true≢false live)
settled_from None (Some x) r d met column live is = absurd (true≢false live)
settled_from None None (Some x) d met column live is = absurd (true≢false live)
settled_from None None None d met column live is = rw is refl

branch_from : (o u r : Option ℕ) (d : ℕ → ℕ) (met : Bool) (column : ℕ) → is_leaf (entry_from o u r d met column) ≡ false → met ≡ false → entry.Branch column ≡ entry_from o u r d met column
branch_from (Some x) u r d met column live is = absurd (true≢false live)
branch_from None (Some x) r d met column live is = absurd (true≢false live)
branch_from None None (Some x) d met column live is = absurd (true≢false live)
branch_from None None None d met column live is = rw is refl

no_leaf_from : (o u r : Option ℕ) (d : ℕ → ℕ) (met : Bool) (column : ℕ) → o ≡ None → u ≡ None → r ≡ None → is_leaf (entry_from o u r d met column) ≡ false
no_leaf_from o u r d true column a b c = rw (a, b, c) refl
no_leaf_from o u r d false column a b c = rw (a, b, c) refl

module _ (y : Yeses) (q : List Bool) (t : IsTrail y.chosen q) (from : ℕ) (at : length q ≡ from) where
  over_is : (o : Option ℕ) → o ≡ least_row y.system (is_over_in y) → least_over y.system (decided q) ≡ o
  over_is o h = sym (held_over y q t) ∙ sym h

  under_is : (o : Option ℕ) → o ≡ least_row y.system (is_short_from y from) → least_under y.system (decided q) ≡ o
  under_is o h = sym (held_short y q t) ∙ ap (λ n. least_row y.system (is_short_from y n)) at ∙ sym h

  residue_is : (o : Option ℕ) → least_residue_by y.rules y from ≡ o → least_residue y.rules y.system (decided q) ≡ o
  residue_is o h = sym (held_residue y q t) ∙ ap (λ n. least_residue_by y.rules y n) at ∙ h

  entry_by : (o u r : Option ℕ) → least_over y.system (decided q) ≡ o → least_under y.system (decided q) ≡ u → least_residue y.rules y.system (decided q) ≡ r → entry_from o u r (λ row. divisor (entries y.system row) (decided q)) (is_settled y.system (decided q)) (length q) ≡ entry_at y.rules y.system q
  entry_by o u r a b c = rw (a, b, c) refl

  pub judged_over : (row : ℕ) → Some row ≡ least_row y.system (is_over_in y) → entry.Over row ≡ entry_at y.rules y.system q
  judged_over row o = entry_by (Some row) (least_under y.system (decided q)) (least_residue y.rules y.system (decided q)) (over_is (Some row) o) refl refl

  pub judged_under : (row : ℕ) → None ≡ least_row y.system (is_over_in y) → Some row ≡ least_row y.system (is_short_from y from) → entry.Under row ≡ entry_at y.rules y.system q
  judged_under row o u = entry_by None (Some row) (least_residue y.rules y.system (decided q)) (over_is None o) (under_is (Some row) u) refl

  pub judged_residue : (row m : ℕ) → None ≡ least_row y.system (is_over_in y) → None ≡ least_row y.system (is_short_from y from) → least_residue_by y.rules y from ≡ Some row → m ≡ divisor_from y.system from row → entry.Residue row m ≡ entry_at y.rules y.system q
  judged_residue row m o u r is =
      let d : m ≡ divisor (entries y.system row) (decided q) = is ∙ ap (λ n. divisor_from y.system n row) (sym at) ∙ same_divisor y q t row in
      ap (λ n. entry.Residue row n) d ∙ entry_by None None (Some row) (over_is None o) (under_is None u) (residue_is (Some row) r)

  pub judged_none : None ≡ least_row y.system (is_over_in y) → None ≡ least_row y.system (is_short_from y from) → least_residue_by y.rules y from ≡ None → is_leaf (entry_at y.rules y.system q) ≡ false
  judged_none o u r = no_leaf_from (least_over y.system (decided q)) (least_under y.system (decided q)) (least_residue y.rules y.system (decided q)) _ (is_settled y.system (decided q)) (length q) (over_is None o) (under_is None u) (residue_is None r)

  pub judged_settled : is_leaf (entry_at y.rules y.system q) ≡ false → true ≡ list_all (is_met_in y) (rows_of y.system) → entry.Settled ≡ entry_at y.rules y.system q
  judged_settled live met = settled_from (least_over y.system (decided q)) (least_under y.system (decided q)) (least_residue y.rules y.system (decided q)) _ (is_settled y.system (decided q)) (length q) live (sym (held_settled y q t) ∙ sym met)

  pub judged_branch : is_leaf (entry_at y.rules y.system q) ≡ false → false ≡ list_all (is_met_in y) (rows_of y.system) → entry.Branch (length q) ≡ entry_at y.rules y.system q
  judged_branch live met = branch_from (least_over y.system (decided q)) (least_under y.system (decided q)) (least_residue y.rules y.system (decided q)) _ (is_settled y.system (decided q)) (length q) live (sym (held_settled y q t) ∙ sym met)
