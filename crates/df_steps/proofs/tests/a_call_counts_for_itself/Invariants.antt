use Rattle.df_steps.proofs.tests.a_call_counts_for_itself.Given as goal

abbrev pub ghosts-count_bytes : goal.ghosts-count_bytes
ghosts-count_bytes a = record { name = a.blank.name; parts = a.blank.parts }
