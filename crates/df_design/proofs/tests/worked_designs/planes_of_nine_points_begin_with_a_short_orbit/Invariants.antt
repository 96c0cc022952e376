use Rattle.df_design.proofs.tests.worked_designs.planes_of_nine_points_begin_with_a_short_orbit.Given as goal

abbrev pub ghosts-assert_planes : goal.ghosts-assert_planes
ghosts-assert_planes g a = record { name = a.blank.name; parts = a.blank.parts }
