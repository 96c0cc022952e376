use Rattle.df_search.proofs.tests.long_leaps.budgets_end_at_each_node_of_a_leap.Given as goal

abbrev pub ghosts-cross_bridge : goal.ghosts-cross_bridge
ghosts-cross_bridge g a = record { name = a.blank.name; parts = a.blank.parts }
