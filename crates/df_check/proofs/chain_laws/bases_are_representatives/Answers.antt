use Rattle.std.proofs.Common.{◌∷◌}
use Rattle.df_check.specs.Chains.{log_of}
use Rattle.df_check.proofs.chain_laws.bases_are_representatives.Goals as goal

pub returns : goal.returns
returns c = λ lines chain stated.
    let all = log_of (chain.first ∷ chain.later) in
    (c.closed_designs_are_asked.ensures chain.first.problem stated all ((c.design_lines_close_proofs.ensures chain.first.problem all).1 chain.proof)).bases
