use Rattle.df_lists.proofs.SortedLists.{sorted-filter}
use Rattle.df_subsets.specs.Blocks.{before}
use Rattle.df_kramer_mesner.specs.OrbitSystems.{maps_of_problem, orbits_of, columns_of, is_kept}
use Rattle.df_kramer_mesner.proofs.ProblemMaps.{problem_group}
use Rattle.df_check.proofs.DesignLeaves.{all_designs}
use Rattle.df_check.proofs.design_laws.closed_designs_are_asked.Goals as goal

pub returns : goal.returns
returns c = λ s is.
    let group = problem_group c.maps_are_made.ensures c.maps_are_groups.ensures s is in
    let sorted = sorted-filter before (is_kept s) (orbits_of s) (c.representatives_tell_orbits.ensures (maps_of_problem s) group s.sizes).sorted in
    let pick = c.vectors_pick.ensures before c.blocks_are_ordered.ensures.order (columns_of s) sorted in
    all_designs c.blocks_are_ordered.ensures.equality s (c.orbit_systems_are_systems.ensures s is) pick (c.base_is_chosen.ensures s is) (c.designs_are_solutions.ensures s is) c.closed_lines_are_whole.ensures
