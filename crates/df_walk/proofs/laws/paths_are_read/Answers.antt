use Rattle.df_walk.proofs.WrittenPaths.{path_of-written_path, written_path-path_of}
use Rattle.df_walk.proofs.laws.paths_are_read.Goals as goal

pub returns : goal.returns
returns c = record { read_back = path_of-written_path; written_back = written_path-path_of }
