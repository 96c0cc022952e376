use Rattle.std.proofs.Common.{[], ap, ◌∙◌}
use Rattle.df_list.specs.Listings.{Listed}
use Rattle.df_tell.specs.Listing.{with_designs, designs_of}
use Rattle.df_tell.specs.RunSteps.{run_left}
use Rattle.df_tell.proofs.RunSteps.{stands_counted}
use Rattle.df_tell.proofs.Workloads.{own_system, end_is}
use Rattle.df_tell.proofs.Listings.{listing_is}
use Rattle.df_tell.proofs.listing.list_run.Goals as goal

pub list_steps-requires-clause-search : goal.list_steps-requires-clause-search
list_steps-requires-clause-search g c = own_system c.requires.search

pub list_steps-requires-clause-counted : goal.list_steps-requires-clause-counted
list_steps-requires-clause-counted g c = stands_counted c.args.designs.now.search [] c.requires.begins

pub list_steps-requires-clause-shown : goal.list_steps-requires-clause-shown
list_steps-requires-clause-shown g c = ap (λ (l : Listed). l.blocks) c.in_ok-listing.ensures.empty

pub next_path-requires : goal.next_path-requires
next_path-requires g c = c.in_ok-ran.ensures.ran.place

pub returns-clause-listed : goal.returns-clause-listed
returns-clause-listed g c =
    let r = c.args.designs.now in
    let more : Listed → Listed = λ l. with_designs l c.args.blocks r.problem (designs_of r.problem (run_left r.search c.args.budget).taken) in
    c.in_ok-text.ensures
    ∙ listing_is c.args.blocks c.args.problem.now r c.args.budget c.requires.search c.requires.begins c.list_steps.new.designs.search c.in_ok-ran.ran c.in_ok-ran.ensures.ran
    _ c.in_ok-next.next (c.in_ok-ran.ensures.listed ∙ ap more c.in_ok-listing.ensures.empty) c.in_ok-next.ensures

pub returns-clause-end : goal.returns-clause-end
returns-clause-end g c = end_is c.args.problem.now c.args.designs.now c.args.budget c.requires.search c.requires.begins c.list_steps.new.designs.search c.in_ok-ran.ran c.in_ok-ran.ensures.ran
