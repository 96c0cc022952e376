use Rattle.df_lists.proofs.SortedLists.{sorted-filter}
use Rattle.df_subsets.specs.Blocks.{before}
use Rattle.df_kramer_mesner.specs.OrbitSystems.{maps_of_problem, orbits_of, columns_of, is_kept}
use Rattle.df_kramer_mesner.proofs.ProblemMaps.{problem_group}
use Rattle.df_tell.proofs.OwnLogs.{own_logs_chains}
use Rattle.df_tell.proofs.laws.own_logs_are_chains.Goals as goal

pub returns : goal.returns
returns c =
    own_logs_chains c.runs_are_whole.ensures c.runs_stop_first.ensures c.orbit_systems_are_systems.ensures c.rows_are_pairs_and_needed.ensures c.orbits_are_kept.ensures c.columns_are_sparse.ensures c.entries_are_counts.ensures
    c.blocks_are_sets.ensures c.subsets_are_all.ensures c.candidates_are_all.ensures c.canonical_lines_are_read_back.ensures c.canonical_lines_are_lines.ensures c.points_are_read_back.ensures c.designs_are_read_back.ensures
    c.dossiers_are_read_back.ensures c.paths_may_stand.ensures c.chains_are_logs.ensures c.chains_are_whole.ensures c.blocks_are_ordered.ensures.equality
    (λ s is.
    let group = problem_group c.maps_are_made.ensures c.maps_are_groups.ensures s is in
    let sorted = sorted-filter before (is_kept s) (orbits_of s) (c.representatives_tell_orbits.ensures (maps_of_problem s) group s.sizes).sorted in
    c.vectors_pick.ensures before c.blocks_are_ordered.ensures.order (columns_of s) sorted)
    c.base_is_chosen.ensures c.designs_are_solutions.ensures
