use Rattle.df_check.proofs.checker.SystemChecker.end_leaf.Given as goal

abbrev pub ghosts-end_leaf_counted : goal.ghosts-end_leaf_counted
ghosts-end_leaf_counted a = record { name = a.blank.name; parts = a.blank.parts }
