use Rattle.std.proofs.Common.{◌≡◌, ◌≤◌, ◌*◌, length, take, sum_by}
use Rattle.std.specs.List.{flat_map}
use Rattle.df_family.specs.declared.table.Row.{Row}
use Rattle.df_family.specs.Developments.{translates}
use Rattle.df_family.specs.Tables.{summand}
use Rattle.df_family.specs.Tallies.{number_at, HasNumber}
use Rattle.df_family.proofs.table.count_family.Given as goal

abbrev pub invariant-loop-member : goal.invariant-loop-member
invariant-loop-member l = record {
  found : (row : Row) → HasNumber l.problem row → number_at l.tally row ≡ sum_by (summand l.problem row) (take l.member-index l.problem.family);
  small : (row : Row) → HasNumber l.problem row → number_at l.tally row ≤ 16384 * l.member-index;
  blocks : l.blocks ≡ length (flat_map (translates l.problem) (take l.member-index l.problem.family));
  few : l.blocks ≤ 128 * l.member-index;
}
