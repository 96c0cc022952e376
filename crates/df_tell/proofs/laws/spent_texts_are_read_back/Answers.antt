use Rattle.df_tell.proofs.RunBack.{spent_texts_back}
use Rattle.df_tell.proofs.laws.spent_texts_are_read_back.Goals as goal

pub returns : goal.returns
returns c =
    spent_texts_back c.runs_are_whole.ensures c.runs_stop_first.ensures c.orbit_systems_are_systems.ensures c.rows_are_pairs_and_needed.ensures c.orbits_are_kept.ensures c.columns_are_sparse.ensures c.entries_are_counts.ensures
    c.blocks_are_sets.ensures c.subsets_are_all.ensures c.candidates_are_all.ensures c.canonical_lines_are_read_back.ensures c.canonical_lines_are_lines.ensures c.points_are_read_back.ensures c.designs_are_read_back.ensures
    c.texts_are_read_back.ensures c.paths_may_stand.ensures
