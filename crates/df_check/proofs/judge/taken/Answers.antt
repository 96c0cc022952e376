use Rattle.std.proofs.Common.{◌∙◌, ◌≤◌, ap, unsigned_abs, subst, sym}
use Rattle.df_walk.specs.Systems.{entries, target}
use Rattle.df_walk.specs.Assignments.{need, taken}
use Rattle.df_check.proofs.CutSums.{need_small}
use Rattle.df_check.proofs.RowFaults.{taken_is, not_far}
use Rattle.df_check.proofs.judge.taken.Goals as goal

pub returns : goal.returns
returns c =
    let s = c.args.system.now in
    let ds = c.args.partial.now.decisions in
    let is = c.need.ensures ∙ ap (λ v. need v ds c.args.row) c.requires.system in
    let small = subst (λ z. unsigned_abs z ≤ 524296000000) (sym is) (need_small s ds c.args.row c.requires.bounded c.requires.row) in
    taken_is c.target_less.result c.target.result (target s c.args.row) (taken (entries s c.args.row) ds) c.need.result c.target_less.ensures small is c.target.ensures

pub target_less-requires-clause-high : goal.target_less-requires-clause-high
target_less-requires-clause-high c =
    let s = c.args.system.now in
    let ds = c.args.partial.now.decisions in
    let is = c.need.ensures ∙ ap (λ v. need v ds c.args.row) c.requires.system in
    let small = subst (λ z. unsigned_abs z ≤ 524296000000) (sym is) (need_small s ds c.args.row c.requires.bounded c.requires.row) in
    not_far c.target.result c.need.result c.target.type_inv small
