use Rattle.df_design.proofs.tests.comparisons.designs_are_those_of_a_plain_trial.Given as goal

abbrev pub ghosts-compare : goal.ghosts-compare
ghosts-compare g a = record { name = a.blank.name; parts = a.blank.parts }
