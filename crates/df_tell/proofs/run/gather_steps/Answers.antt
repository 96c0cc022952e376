use Rattle.std.proofs.Common.{subst, refl, arith, ◌-◌}
use Rattle.df_tell.specs.RunSteps.{IsOver, EndsOrGoesOn}
use Rattle.df_tell.proofs.RunSteps.{paid_then, tells_nothing, tells_then, stopped_text, over_text, over_ran, err_written}
use Rattle.df_tell.proofs.run.gather_steps.Goals as goal

pub returns-in_err-end-clause-gathers : goal.returns-in_err-end-clause-gathers
returns-in_err-end-clause-gathers g c =
    stopped_text c.requires.counted (tells_then c.loop-end.invariant.tells c.in_err-end.ensures.tells) (err_written c.from_residual.result c.from_residual.ensures.0)

pub returns-in-Some-clause-gathers : goal.returns-in-Some-clause-gathers
returns-in-Some-clause-gathers g c =
    let new = c.gather_step.new.designs.search in
    let left = c.gather_step.new.counts.left in
    let over : IsOver new left c.in-Some.end = subst (EndsOrGoesOn c.loop-end.designs.search new left) c.in-Some.is c.in_ok-end.ensures.ends in
    over_text c.requires.counted (tells_then c.loop-end.invariant.tells c.in_ok-end.ensures.tells) over

pub returns-in-Some-clause-ran : goal.returns-in-Some-clause-ran
returns-in-Some-clause-ran g c =
    let new = c.gather_step.new.designs.search in
    let left = c.gather_step.new.counts.left in
    let over : IsOver new left c.in-Some.end = subst (EndsOrGoesOn c.loop-end.designs.search new left) c.in-Some.is c.in_ok-end.ensures.ends in
    over_ran (c.args.budget - left) c.requires.counted (paid_then c.loop-end.invariant.tells.pays c.in_ok-end.ensures.tells.pays) over refl
    (omega (arith, c.loop-end.invariant.tells.pays.nodes, c.in_ok-end.ensures.tells.pays.nodes))

pub loop-end-preserved : goal.loop-end-preserved
loop-end-preserved g c = record { tells = tells_then c.loop-end.invariant.tells c.in_ok-end.ensures.tells }

pub loop-end-init : goal.loop-end-init
loop-end-init g c = record { tells = tells_nothing }
