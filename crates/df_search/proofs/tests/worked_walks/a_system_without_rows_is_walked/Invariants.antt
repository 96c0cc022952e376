use Rattle.df_search.proofs.tests.worked_walks.a_system_without_rows_is_walked.Given as goal

abbrev pub ghosts-walks : goal.ghosts-walks
ghosts-walks g a = record { name = a.blank.name; parts = a.blank.parts }
