use Rattle.std.proofs.Common.{List, ℕ, sym, ◌∙◌}
use Rattle.std.proofs.lemmas.Result.{on_ok_weaker}
use Rattle.df_tell.proofs.Listings.{listed_alike}
use Rattle.df_tell.proofs.listing.list_design.Goals as goal

pub add-requires : goal.add-requires
add-requires c = c.in_ok-all.ensures.shown ∙ sym c.requires.shown

pub returns : goal.returns
returns c = λ (design : List (List ℕ)) is. on_ok_weaker c.add.result (λ same. same ∙ listed_alike c.args.listing.now (c.in_ok-base.ensures design is) (c.in_ok-all.ensures.value design is)) c.add.ensures.added
