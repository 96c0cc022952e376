use Rattle.std.proofs.Common.{◌∙◌, ap}
use Rattle.df_walk.specs.Assignments.{need}
use Rattle.df_check.proofs.CutSums.{need_small}
use Rattle.df_check.proofs.SignedSums.{back_within}
use Rattle.df_check.proofs.cuts.small_need.Goals as goal

pub returns-clause-small : goal.returns-clause-small
returns-clause-small c =
    let s = c.args.system.now in
    let ds = c.args.partial.now.decisions in
    back_within c.need.result (need s ds c.args.row) (c.need.ensures ∙ ap (λ v. need v ds c.args.row) c.requires.system) (need_small s ds c.args.row c.requires.bounded c.requires.row)
