use Rattle.df_tell.proofs.GatheredTexts.{gathers_nothing}
use Rattle.df_tell.proofs.gathered.make_room.Goals as goal

pub returns-else-remaining_capacity-lt-PIECE_BYTES-clause-same : goal.returns-else-remaining_capacity-lt-PIECE_BYTES-clause-same
returns-else-remaining_capacity-lt-PIECE_BYTES-clause-same g c = gathers_nothing
