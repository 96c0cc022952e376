use Rattle.std.proofs.Common.{arith}
use Rattle.df_list.specs.TableTexts.{row_name}
use Rattle.df_list.proofs.Lengths.{line_is_short}
use Rattle.df_list.proofs.table_texts.row_text_is_short.Goals as goal

pub returns : goal.returns
returns c = line_is_short (row_name c.args.problem.now c.args.row) c.args.found c.args.stated c.row_name_is_short.ensures (omega arith) (omega arith)
