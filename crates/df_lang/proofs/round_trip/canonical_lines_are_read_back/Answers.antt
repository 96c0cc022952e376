use Rattle.df_lang.proofs.SourceBack.{source_back}
use Rattle.df_lang.proofs.round_trip.canonical_lines_are_read_back.Goals as goal

pub returns : goal.returns
returns c = source_back
