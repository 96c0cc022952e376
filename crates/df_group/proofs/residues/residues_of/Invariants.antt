use Rattle.std.proofs.Common.{◌≡◌, ◌<◌, ◌++◌, length, drop}
use Rattle.df_group.specs.Elements.{order_of, residues}
use Rattle.df_group.proofs.residues.residues_of.Given as goal

abbrev pub invariant-loop-i : goal.invariant-loop-i
invariant-loop-i l = record {
  whole : l.residues.items ++ residues (drop l.i l.factors) l.rest ≡ residues l.factors l.number;
  below : l.below ≡ order_of (drop l.i l.factors);
  rest : l.rest < l.below;
  places : length l.residues.items ≡ l.i;
}
