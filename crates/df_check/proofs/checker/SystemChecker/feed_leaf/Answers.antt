use Rattle.std.proofs.Common.{sym, ◌∙◌}
use Rattle.df_check.specs.Checkers.{columns_differ}
use Rattle.df_check.proofs.LeafFaults.{leaf_is_wanted}
use Rattle.df_check.proofs.checker.SystemChecker.feed_leaf.Goals as goal

pub end_leaf-requires : goal.end_leaf-requires
end_leaf-requires c = λ none. leaf_is_wanted (columns_differ c.args.columns.now) c.args.self.now.wants (sym c.leaf_fault-fault.ensures ∙ none)
