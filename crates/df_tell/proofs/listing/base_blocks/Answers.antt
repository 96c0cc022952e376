use Rattle.std.proofs.Common.{◌≡◌, ◌∙◌}
use Rattle.std.proofs.lemmas.Result.{IfOk-weaker}
use Rattle.df_correspondence.specs.Designs.{base}
use Rattle.df_design.specs.RemainingDesigns.{last_design}
use Rattle.df_tell.proofs.Listings.{reps_are}
use Rattle.df_tell.proofs.listing.base_blocks.Goals as goal

pub returns : goal.returns
returns c = λ design is.
    let r = c.args.designs.now in
    IfOk-weaker c.collect_reps.result (λ list. list.items ≡ c.reps-reps.result) (λ list. list.items ≡ base r.problem design) (λ list same. same ∙ reps_are r.problem (last_design r) design c.reps-reps.result is c.reps-reps.ensures) c.collect_reps.ensures
