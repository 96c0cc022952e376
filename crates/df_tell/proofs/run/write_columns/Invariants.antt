use Rattle.std.proofs.Common.{◌≡◌, ◌++◌, List, ℕ, Some, map, drop, Ok}
use Rattle.df_io.specs.Writing.{Writes}
use Rattle.df_walk.specs.Solutions.{yes_columns_from, chosen_columns}
use Rattle.df_tell.specs.RunSteps.{columns_text}
use Rattle.df_tell.proofs.run.write_columns.Given as goal

-- what is written and the yes columns that are left are all
abbrev pub invariant-loop-column : goal.invariant-loop-column
invariant-loop-column g l = record {
  written : (done : List ℕ) × (done ++ columns_text (yes_columns_from l.column (map Some (drop l.column l.decisions))) ≡ columns_text (chosen_columns l.decisions)) × Writes g.K.Sink.written g.K.Sink.faults l.fn.out l.out done (Ok tt);
}
