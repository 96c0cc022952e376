use Rattle.df_check.proofs.tests.random_logs.logs_are_judged_by_the_definitions.Given as goal

abbrev pub ghosts-run_log : goal.ghosts-run_log
ghosts-run_log g a = record { name = a.blank.name; parts = a.blank.parts }
