use Rattle.std.proofs.Common.{◌≡◌, ◌+◌, ◌*◌, drop}
use Rattle.df_group.specs.Elements.{order_of, number}
use Rattle.df_group.proofs.residues.number_of.Given as goal

abbrev pub invariant-loop-i : goal.invariant-loop-i
invariant-loop-i l = l.place * order_of (drop l.i l.factors) + number (drop l.i l.factors) (drop l.i l.residues) ≡ number l.factors l.residues
