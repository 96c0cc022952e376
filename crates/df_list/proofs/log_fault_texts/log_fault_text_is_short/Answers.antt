use Rattle.std.proofs.Common.{refl, arith}
use Rattle.df_list.specs.LogFaultTexts.{fault_shown}
use Rattle.df_list.proofs.FaultLengths.{fault_short}
use Rattle.df_list.proofs.log_fault_texts.log_fault_text_is_short.Goals as goal

pub returns : goal.returns
returns c = fault_short c.args.line (fault_shown c.args.fault) c.args.fault.first c.args.fault.second refl (omega arith) c.requires c.number_fits.ensures c.number_fits-2.ensures
