use Rattle.std.proofs.Common.{sym, ◌∙◌, arith}
use Rattle.df_subsets.proofs.Binomials.{binomial_some}
use Rattle.df_subsets.proofs.SubsetLists.{subsets_long}
use Rattle.df_subsets.proofs.subsets.binomial.Goals as goal

pub returns-clause-length : goal.returns-clause-length
returns-clause-length c = c.choices.ensures ∙ sym (subsets_long c.args.v c.args.k)

pub returns-clause-positive : goal.returns-clause-positive
returns-clause-positive c = omega (arith, c.choices.ensures, binomial_some c.args.v c.args.k c.requires.some)
