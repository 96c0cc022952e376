use Rattle.df_search.proofs.tests.long_leaps.many_rows_are_searched.Given as goal

abbrev pub ghosts-turns : goal.ghosts-turns
ghosts-turns g a = record { name = a.blank.name; parts = a.blank.parts }
