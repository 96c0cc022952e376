use Rattle.df_walk.specs.Systems.{entries}
use Rattle.df_system.proofs.RowNeeds.{residue_first, short_first}
use Rattle.df_system.proofs.deadlines.ruled_deadline.Goals as goal

pub returns-then-residue-short : goal.returns-then-residue-short
returns-then-residue-short c = rw c.in-Divisor.is (residue_first (entries c.args.system.now c.args.row) c.args.need c.args.short c.first_residue-residue.result c.requires.short c.first_residue-residue.ensures c.if-residue-short.true)

pub returns-else-residue-short : goal.returns-else-residue-short
returns-else-residue-short c = rw c.in-Divisor.is (short_first (entries c.args.system.now c.args.row) c.args.need c.args.short c.first_residue-residue.result c.requires.short c.first_residue-residue.ensures c.if-residue-short.false)
