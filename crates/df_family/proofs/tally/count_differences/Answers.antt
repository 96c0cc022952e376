use Rattle.std.proofs.Common.{ℕ, ◌≤◌, take, length, count_by, eqb, ap, arith}
use Rattle.std.proofs.lemmas.List.Sums.{sum_by_more}
use Rattle.std.proofs.lemmas.List.{length-take}
use Rattle.df_group.specs.Elements.{group_of, minus}
use Rattle.df_family.proofs.TallyLaws.{differences_small}
use Rattle.df_family.proofs.tally.count_differences.Goals as goal

pub count_from-requires-clause-room : goal.count_from-requires-clause-room
count_from-requires-clause-room c = λ d h.
    let s = c.args.problem.now in
    let finite = c.args.finite.now in
    let front = take c.loop-b.b-index finite in
    let short : length front ≤ 128 = omega (arith, length-take c.loop-b.b-index finite) in
    omega (arith, c.loop-b.invariant d h, c.requires.room d h, differences_small s d finite front c.requires.few short)

pub loop-b-preserved : goal.loop-b-preserved
loop-b-preserved c = λ d h.
    let finite = c.args.finite.now in
    let i = c.loop-b.b-index in
    let F = λ (b : ℕ). count_by (λ a. eqb (minus (group_of c.args.problem.now.group) a b) d) finite in
    let b = c.b-item.result in
    omega (arith, c.count_from.ensures d h, c.loop-b.invariant d h, sum_by_more F finite i b (omega arith), ap F c.b-item.is)
