use Rattle.std.proofs.Common.{sym, ap, ◌∙◌}
use Rattle.df_check.specs.Checkers.{is_leaf_wanted}
use Rattle.df_check.specs.DesignLines.{DesignChecking, blocks_differ}
use Rattle.df_check.proofs.LeafFaults.{leaf_is_wanted}
use Rattle.df_check.proofs.design_checker.Checker.feed_design.Goals as goal

pub end_leaf-requires : goal.end_leaf-requires
end_leaf-requires c = λ none.
    let now = c.args.self.now in
    ap (λ (k : DesignChecking). is_leaf_wanted k.wants) c.self.view_is ∙ leaf_is_wanted (blocks_differ now.problem c.args.blocks.now) now.wants (sym c.design_fault-fault.ensures ∙ none)
