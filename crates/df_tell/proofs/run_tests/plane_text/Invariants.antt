use Rattle.df_tell.proofs.run_tests.plane_text.Given as goal

abbrev pub ghosts-text_of : goal.ghosts-text_of
ghosts-text_of g a = record { name = a.blank.name; parts = a.blank.parts }
