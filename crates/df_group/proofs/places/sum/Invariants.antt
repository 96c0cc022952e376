use Rattle.std.proofs.Common.{◌≡◌, ◌/◌, drop}
use Rattle.df_group.specs.Elements.{group_of}
use Rattle.df_group.proofs.PlaceSums.{AreBefore}
use Rattle.df_group.proofs.places.sum.Given as goal

abbrev pub invariant-loop-i : goal.invariant-loop-i
invariant-loop-i l = record {
  at : AreBefore l.factors l.i l.weight;
  done : l.sum ≡ (group_of (drop l.i l.factors)).plus l.a l.b;
  rest_a : l.rest_a ≡ l.a / l.weight;
  rest_b : l.rest_b ≡ l.b / l.weight;
}
