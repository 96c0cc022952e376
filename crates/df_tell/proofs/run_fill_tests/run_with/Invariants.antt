use Rattle.df_tell.proofs.run_fill_tests.run_with.Given as goal

abbrev pub ghosts-run_into : goal.ghosts-run_into
ghosts-run_into g a = record { name = a.blank.name; parts = a.blank.parts }
