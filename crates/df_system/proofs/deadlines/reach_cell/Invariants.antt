use Rattle.std.proofs.Common.{◌≡◌, ◌+◌, ◌*◌, length}
use Rattle.df_system.specs.Deadlines.{IsFilled}
use Rattle.df_system.proofs.deadlines.reach_cell.Given as goal

abbrev pub invariant-loop-need : goal.invariant-loop-need
invariant-loop-need l = record {
  filled : IsFilled l.initial.deadlines.items l.deadlines.items (l.row * l.width + l.start) (l.row * l.width + l.need) (l.column + 1);
  long : length l.deadlines.items ≡ length l.initial.deadlines.items;
}
