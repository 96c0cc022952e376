use Rattle.df_search.proofs.tests.long_leaps.divisors_count_from_the_first_column_on.Given as goal

abbrev pub ghosts-events : goal.ghosts-events
ghosts-events g a = record { name = a.blank.name; parts = a.blank.parts }

abbrev pub ghosts-turns : goal.ghosts-turns
ghosts-turns g a = record { name = a.blank.name; parts = a.blank.parts }
