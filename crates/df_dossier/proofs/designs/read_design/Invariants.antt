use Rattle.std.proofs.Common.{◌≡◌, length}
use Rattle.df_io.specs.Lines.{left}
use Rattle.df_dossier.specs.Designs.{design_of}
use Rattle.df_dossier.specs.DesignSteps.{drafted}
use Rattle.df_dossier.proofs.designs.read_design.Given as goal

abbrev pub invariant-loop-token : goal.invariant-loop-token
invariant-loop-token l = drafted l.problem l.draft (left l.tokens) ≡ design_of l.problem l.line

abbrev pub decreases-loop-token : goal.decreases-loop-token
decreases-loop-token l = length (left l.tokens)
