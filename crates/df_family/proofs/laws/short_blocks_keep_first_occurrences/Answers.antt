use Rattle.df_family.proofs.OccurrenceLaws.{occurrences}
use Rattle.df_family.proofs.laws.short_blocks_keep_first_occurrences.Goals as goal

pub returns : goal.returns
returns c = occurrences
