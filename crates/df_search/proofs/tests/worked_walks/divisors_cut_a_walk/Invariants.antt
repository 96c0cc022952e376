use Rattle.df_search.proofs.tests.worked_walks.divisors_cut_a_walk.Given as goal

abbrev pub ghosts-walks : goal.ghosts-walks
ghosts-walks g a = record { name = a.blank.name; parts = a.blank.parts }

abbrev pub ghosts-refusal : goal.ghosts-refusal
ghosts-refusal g a = record { name = a.blank.name; parts = a.blank.parts }

abbrev pub ghosts-ends : goal.ghosts-ends
ghosts-ends g a = record { name = a.blank.name; parts = a.blank.parts }
