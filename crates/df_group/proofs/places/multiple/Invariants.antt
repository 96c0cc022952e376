use Rattle.std.proofs.Common.{◌≡◌, ◌/◌, drop}
use Rattle.df_group.specs.Elements.{group_of}
use Rattle.df_group.proofs.PlaceSums.{AreBefore}
use Rattle.df_group.proofs.places.multiple.Given as goal

abbrev pub invariant-loop-i : goal.invariant-loop-i
invariant-loop-i l = record {
  at : AreBefore l.factors l.i l.weight;
  done : l.multiple ≡ (group_of (drop l.i l.factors)).times l.m l.a;
  rest : l.rest ≡ l.a / l.weight;
}
