use Rattle.df_run.proofs.resume.answer_spent.Given as goal

abbrev pub ghosts-answer_path : goal.ghosts-answer_path
ghosts-answer_path g a = record { name = a.blank.name; parts = a.blank.parts }
