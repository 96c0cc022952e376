use Rattle.df_search.proofs.tests.worked_walks.sixty_columns_are_resumed_at_the_thirtieth.Given as goal

abbrev pub ghosts-ends_from_the_middle : goal.ghosts-ends_from_the_middle
ghosts-ends_from_the_middle g a = record { name = a.blank.name; parts = a.blank.parts }
