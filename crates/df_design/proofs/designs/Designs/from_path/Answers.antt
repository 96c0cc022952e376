use Rattle.std.proofs.Common.{◌≤◌, length, subst}
use Rattle.df_design.proofs.RemainingLaws.{node_short}
use Rattle.df_design.proofs.designs.Designs.from_path.Goals as goal

pub returns-in_default-clause-refusal : goal.returns-in_default-clause-refusal
returns-in_default-clause-refusal g c = subst (λ s. c.args.path.now.size ≤ length s.columns) c.system.ensures (node_short c.args.rules c.system.result.now c.args.path.now c.in_ok-search.ensures.ok.node)
