use Rattle.std.proofs.Common.{sym, ◌∙◌}
use Rattle.df_lang.proofs.Factors.{refusal_none}
use Rattle.df_lang.proofs.groups.shape.Goals as goal

pub unreachable-requires : goal.unreachable-requires
unreachable-requires c = let none = sym (refusal_none c.args.factors.now c.requires) ∙ c.in-Err.ensures in cc
