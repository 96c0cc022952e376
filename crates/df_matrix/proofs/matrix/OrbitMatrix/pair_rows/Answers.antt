use Rattle.std.proofs.Common.{length, ap, ◌∙◌}
use Rattle.df_kramer_mesner.specs.OrbitSystems.{pairs_of}
use Rattle.df_matrix.proofs.matrix.OrbitMatrix.pair_rows.Goals as goal

pub returns : goal.returns
returns c = c.pair_count.ensures.count ∙ ap (λ s. length (pairs_of s)) c.self.view_is
