use Rattle.df_check.proofs.tests.worked_logs.stays_open.Given as goal

abbrev pub ghosts-ends : goal.ghosts-ends
ghosts-ends g a = record { name = a.blank.name; parts = a.blank.parts }
