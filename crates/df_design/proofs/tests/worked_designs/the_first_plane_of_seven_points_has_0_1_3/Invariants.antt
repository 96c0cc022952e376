use Rattle.df_design.proofs.tests.worked_designs.the_first_plane_of_seven_points_has_0_1_3.Given as goal

abbrev pub ghosts-assert_first : goal.ghosts-assert_first
ghosts-assert_first g a = record { name = a.blank.name; parts = a.blank.parts }
