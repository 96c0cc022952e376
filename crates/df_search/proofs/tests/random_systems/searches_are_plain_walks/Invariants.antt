use Rattle.df_search.proofs.tests.random_systems.searches_are_plain_walks.Given as goal

abbrev pub ghosts-compare : goal.ghosts-compare
ghosts-compare g a = record { name = a.blank.name; parts = a.blank.parts }
