use Rattle.df_system.proofs.path_rows.tests.try_mask.Given as goal

abbrev pub ghosts-take_all : goal.ghosts-take_all
ghosts-take_all g a = record { name = a.blank.name; parts = a.blank.parts }
