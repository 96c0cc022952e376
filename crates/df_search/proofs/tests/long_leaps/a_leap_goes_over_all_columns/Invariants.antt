use Rattle.df_search.proofs.tests.long_leaps.a_leap_goes_over_all_columns.Given as goal

abbrev pub ghosts-cross_bridge : goal.ghosts-cross_bridge
ghosts-cross_bridge g a = record { name = a.blank.name; parts = a.blank.parts }
