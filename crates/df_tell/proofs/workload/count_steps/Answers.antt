use Rattle.std.proofs.Common.{refl, sym, ap, subst, arith, ◌∙◌, ◌-◌}
use Rattle.df_kramer_mesner.specs.OrbitSystems.{orbit_system}
use Rattle.df_tell.specs.RunSteps.{Pays, IsOver, EndsOrGoesOn}
use Rattle.df_tell.proofs.RunSteps.{paid_nothing, paid_then, over_ran}
use Rattle.df_tell.proofs.workload.count_steps.Goals as goal

pub loop-end-init : goal.loop-end-init
loop-end-init g c = record { pays = paid_nothing }

pub count_step-requires-clause-search : goal.count_step-requires-clause-search
count_step-requires-clause-search g c =
    let pays = c.loop-end.invariant.pays in
    record { problem = refl; system = pays.system ∙ c.requires.search.system ∙ ap orbit_system (sym pays.problem) }

pub loop-end-preserved : goal.loop-end-preserved
loop-end-preserved g c =
    let pays = c.loop-end.invariant.pays in
    record { pays = paid_then pays (subst (λ s. Pays s c.loop-end.designs c.count_step.new.designs c.loop-end.counts c.count_step.new.counts) pays.problem c.count_step.ensures.pays) }

pub returns-in-Some : goal.returns-in-Some
returns-in-Some g c =
    let pays = c.loop-end.invariant.pays in
    let new = c.count_step.new.designs.search in
    let left = c.count_step.new.counts.left in
    let over : IsOver new left c.in-Some.end = subst (EndsOrGoesOn c.loop-end.designs.search new left) c.in-Some.is c.count_step.ensures.ends in
    let all = paid_then pays (subst (λ s. Pays s c.loop-end.designs c.count_step.new.designs c.loop-end.counts c.count_step.new.counts) pays.problem c.count_step.ensures.pays) in
    over_ran (c.args.budget - left) c.requires.counted all over refl (omega (arith, all.nodes))
