use Rattle.df_lang.proofs.BlocksBack.{blocks_back}
use Rattle.df_lang.proofs.round_trip.points_are_read_back.Goals as goal

pub returns : goal.returns
returns c = blocks_back
