use Rattle.df_run.proofs.workload.answer_work.Given as goal

abbrev pub ghosts-search_through : goal.ghosts-search_through
ghosts-search_through g a = record { name = a.blank.name; parts = a.blank.parts }
