use Rattle.df_search.proofs.tests.worked_walks.two_equal_columns_are_walked.Given as goal

abbrev pub ghosts-walks : goal.ghosts-walks
ghosts-walks g a = record { name = a.blank.name; parts = a.blank.parts }
