use Rattle.df_design.proofs.tests.worked_designs.nine_points_have_840_planes.Given as goal

abbrev pub ghosts-count_planes : goal.ghosts-count_planes
ghosts-count_planes g a = record { name = a.blank.name; parts = a.blank.parts }
