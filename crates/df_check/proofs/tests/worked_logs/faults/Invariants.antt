use Rattle.df_check.proofs.tests.worked_logs.faults.Given as goal

abbrev pub ghosts-ends : goal.ghosts-ends
ghosts-ends g a = record { name = a.blank.name; parts = a.blank.parts }
