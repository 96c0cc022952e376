-- A system whose entries were all looked at is bounded: past the rows there are none.
use Rattle.std.proofs.Common.{◌≡◌, ℕ, suc, ◌+◌, ◌<◌, ◌≤◌, true, false, cond, List, [], ◌∷◌, length, get_or, refl, sym, ap, ◌∙◌, arith, inl, inr}
use Rattle.std.proofs.lemmas.Bool.{ne_eqb, cases_lt}
use Rattle.df_walk.specs.declared.Cell.{Cell}
use Rattle.df_walk.specs.Systems.{System, IsSystem, entry, entry_of, target, cells}
use Rattle.df_walk.proofs.EntryLaws.{entry_is, column_of}
use Rattle.df_runs.specs.WeightedSums.{IsBounded}

past_rows : (n row : ℕ) (column : List Cell) → n ≤ row → ((k : ℕ) (d : Cell) → k < length column → (get_or column k d).row < n) → entry_of column row ≡ 0
past_rows n row [] after h = refl
past_rows n row (cell ∷ column) after h =
    let other = ne_eqb cell.row row (λ e. let low = h 0 cell (omega arith) in absurd (omega arith)) in
    let rest = past_rows n row column after (λ k d l. h (suc k) d (omega arith)) in
    rw other (omega (arith, rest))

pub bounded : (s : System) (columns most : ℕ) → IsSystem s → length s.columns ≤ columns → ((row : ℕ) → row < length s.targets → target s row ≤ most) → ((row column : ℕ) → column < length s.columns → row < length s.targets → entry s row column ≤ most) → IsBounded s columns most most
bounded s columns most ok few targets entries_low = record {
  columns_few = few;
  entries_low = λ row column within. elim (cases_lt row (length s.targets)) [
    | inl there ↦ entries_low row column within there
    | inr after ↦ let none = past_rows (length s.targets) row (cells s column) after (λ k d l. (column_of s column ok within).cells.in_range k d l) in omega (arith, entry_is s row column)
  ];
  targets_low = targets;
}
