use Rattle.df_search.proofs.tests.worked_walks.paths_are_refused.Given as goal

abbrev pub ghosts-refusal : goal.ghosts-refusal
ghosts-refusal g a = record { name = a.blank.name; parts = a.blank.parts }
