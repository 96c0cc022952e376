use Rattle.df_lang.proofs.SourceBack.{lines_clean}
use Rattle.df_lang.proofs.round_trip.canonical_lines_are_lines.Goals as goal

pub returns : goal.returns
returns c = lines_clean
