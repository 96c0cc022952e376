use Rattle.std.proofs.Common.{arith}
use Rattle.df_list.specs.PairTexts.{pair_name}
use Rattle.df_list.proofs.Lengths.{line_is_short}
use Rattle.df_list.proofs.pair_texts.pair_row_text_is_short.Goals as goal

pub returns : goal.returns
returns c = line_is_short (pair_name c.args.problem.now c.args.p c.args.q) c.args.found c.args.stated c.pair_name_is_short.ensures (omega arith) (omega arith)
