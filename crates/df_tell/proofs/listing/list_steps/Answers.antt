use Rattle.std.proofs.Common.{refl, sym, ap, subst, arith, ◌∙◌, ◌-◌}
use Rattle.df_kramer_mesner.specs.OrbitSystems.{orbit_system}
use Rattle.df_list.specs.Listings.{Listed}
use Rattle.df_tell.specs.Listing.{Lists}
use Rattle.df_tell.specs.RunSteps.{IsOver, EndsOrGoesOn}
use Rattle.df_tell.proofs.RunSteps.{over_ran}
use Rattle.df_tell.proofs.Listings.{listed_nothing, listed_then, over_listed}
use Rattle.df_tell.proofs.listing.list_steps.Goals as goal

pub loop-end-init : goal.loop-end-init
loop-end-init g c = record { lists = listed_nothing }

pub list_step-requires-clause-search : goal.list_step-requires-clause-search
list_step-requires-clause-search g c =
    let pays = c.loop-end.invariant.lists.pays in
    record { problem = refl; system = pays.system ∙ c.requires.search.system ∙ ap orbit_system (sym pays.problem) }

pub loop-end-preserved : goal.loop-end-preserved
loop-end-preserved g c =
    let lists = c.loop-end.invariant.lists in
    record { lists = listed_then lists (subst (λ s. Lists c.args.blocks s c.loop-end.designs c.list_step.new.designs c.loop-end.counts c.list_step.new.counts c.loop-end.listing c.list_step.new.listing) lists.pays.problem c.in_ok-end.ensures.lists) }

pub list_step-requires-clause-shown : goal.list_step-requires-clause-shown
list_step-requires-clause-shown g c = ap (λ (l : Listed). l.blocks) c.loop-end.invariant.lists.listed ∙ c.requires.shown

pub returns-in-Some-clause-ran : goal.returns-in-Some-clause-ran
returns-in-Some-clause-ran g c =
    let lists = c.loop-end.invariant.lists in
    let new = c.list_step.new.designs.search in
    let left = c.list_step.new.counts.left in
    let over : IsOver new left c.in-Some.end = subst (EndsOrGoesOn c.loop-end.designs.search new left) c.in-Some.is c.in_ok-end.ensures.ends in
    let all = listed_then lists (subst (λ s. Lists c.args.blocks s c.loop-end.designs c.list_step.new.designs c.loop-end.counts c.list_step.new.counts c.loop-end.listing c.list_step.new.listing) lists.pays.problem c.in_ok-end.ensures.lists) in
    over_ran (c.args.budget - left) c.requires.counted all.pays over refl (omega (arith, all.pays.nodes))

pub returns-in-Some-clause-listed : goal.returns-in-Some-clause-listed
returns-in-Some-clause-listed g c =
    let lists = c.loop-end.invariant.lists in
    let new = c.list_step.new.designs.search in
    let left = c.list_step.new.counts.left in
    let over : IsOver new left c.in-Some.end = subst (EndsOrGoesOn c.loop-end.designs.search new left) c.in-Some.is c.in_ok-end.ensures.ends in
    over_listed c.requires.counted (listed_then lists (subst (λ s. Lists c.args.blocks s c.loop-end.designs c.list_step.new.designs c.loop-end.counts c.list_step.new.counts c.loop-end.listing c.list_step.new.listing) lists.pays.problem c.in_ok-end.ensures.lists)) over
