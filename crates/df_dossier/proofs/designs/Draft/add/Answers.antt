use Rattle.std.proofs.Common.{◌+◌, ◌<◌, ◌≤◌, Some, sym, ap, ◌∙◌, arith}
use Rattle.df_dossier.specs.Designs.{rises_from}
use Rattle.df_dossier.specs.DesignSteps.{Drafted, least_after, with_point}
use Rattle.df_dossier.proofs.Rising.{added_rises, added_least}
use Rattle.df_dossier.proofs.Drafts.{added, too_low}
use Rattle.df_dossier.proofs.designs.Draft.add.Goals as goal

pub returns-then-p-self-clause-point : goal.returns-then-p-self-clause-point
returns-then-p-self-clause-point c =
    let points = ap (λ (d : Drafted). d.points) c.self.view_is in
    let least = ap (least_after 0) (sym points) ∙ c.self.invariant.1 in
    let low : c.in_ok-p.p < least_after 0 c.args.self.now.points = omega (arith, c.if-p-self.true, c.p.view_is, least) in
    too_low c.args.problem.now c.args.self.now.points c.args.token.now c.in_ok-p.p (sym c.in_ok-p.ensures.point) low

pub invariant_of-self : goal.invariant_of-self
invariant_of-self c =
    let high : least_after 0 c.self.inside.points ≤ c.in_ok-p.p = omega (arith, c.if-p-self.false, c.p.view_is, c.self.invariant.1) in (
      ap (rises_from 0) c.insert.ensures.list ∙ added_rises c.in_ok-p.p c.self.inside.points c.self.invariant.0 high,
      ap (least_after 0) c.insert.ensures.list ∙ added_least c.in_ok-p.p c.self.inside.points c.self.invariant.0 high ∙ ap (λ n. n + 1) (sym c.p-2.view_is),
    )

pub returns-clause-point : goal.returns-clause-point
returns-clause-point c =
    let points = ap (λ (d : Drafted). d.points) c.self.view_is in
    let high : least_after 0 c.self.inside.points ≤ c.in_ok-p.p = omega (arith, c.if-p-self.false, c.p.view_is, c.self.invariant.1) in
    ap (λ l. with_point c.args.problem.now l c.args.token.now) (sym points)
    ∙ added c.args.problem.now c.self.inside.points c.args.token.now c.in_ok-p.p (sym c.in_ok-p.ensures.point) c.self.invariant.0 high
    ∙ ap Some (sym c.insert.ensures.list)
