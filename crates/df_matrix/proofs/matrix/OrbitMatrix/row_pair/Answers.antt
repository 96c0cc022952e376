use Rattle.std.proofs.Common.{◌≡◌, ◌<◌, [], ◌∷◌, length, sym, subst}
use Rattle.df_lang.specs.Problems.{point_count}
use Rattle.df_kramer_mesner.specs.OrbitSystems.{pairs_of, pair_at}
use Rattle.df_matrix.proofs.matrix.OrbitMatrix.row_pair.Goals as goal

pub pair-requires : goal.pair-requires
pair-requires c = subst (λ s. c.args.row < length (pairs_of s)) (sym c.self.view_is) c.requires

pub returns-clause-pair : goal.returns-clause-pair
returns-clause-pair c = subst (λ s. (c.pair.result.0 ∷ c.pair.result.1 ∷ []) ≡ pair_at s c.args.row) c.self.view_is c.pair.ensures.pair

pub returns-clause-within : goal.returns-clause-within
returns-clause-within c = subst (λ s. c.pair.result.1 < point_count s) c.self.view_is c.pair.ensures.within
