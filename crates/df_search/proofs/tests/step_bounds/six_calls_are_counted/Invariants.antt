use Rattle.df_search.proofs.tests.step_bounds.six_calls_are_counted.Given as goal

abbrev pub ghosts-six_calls : goal.ghosts-six_calls
ghosts-six_calls g a = record { name = a.blank.name; parts = a.blank.parts }
