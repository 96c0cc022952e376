use Rattle.df_search.proofs.tests.long_leaps.an_odd_need_is_a_residue_at_once.Given as goal

abbrev pub ghosts-events : goal.ghosts-events
ghosts-events g a = record { name = a.blank.name; parts = a.blank.parts }

abbrev pub ghosts-turns : goal.ghosts-turns
ghosts-turns g a = record { name = a.blank.name; parts = a.blank.parts }
