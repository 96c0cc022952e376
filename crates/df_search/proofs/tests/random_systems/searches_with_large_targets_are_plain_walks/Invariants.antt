use Rattle.df_search.proofs.tests.random_systems.searches_with_large_targets_are_plain_walks.Given as goal

abbrev pub ghosts-compare_once : goal.ghosts-compare_once
ghosts-compare_once g a = record { name = a.blank.name; parts = a.blank.parts }
