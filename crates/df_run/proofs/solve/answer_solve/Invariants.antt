use Rattle.df_run.proofs.solve.answer_solve.Given as goal

abbrev pub ghosts-answer_start : goal.ghosts-answer_start
ghosts-answer_start g a = record { name = a.blank.name; parts = a.blank.parts }
