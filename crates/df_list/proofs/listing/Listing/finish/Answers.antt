use Rattle.std.proofs.Common.{◌++◌, ◌∷◌, [], ap, ◌∙◌}
use Rattle.df_list.specs.Listings.{listing_text}
use Rattle.df_list.proofs.listing.Listing.finish.Goals as goal

pub returns : goal.returns
unfolding listing_text
returns c = c.in_ok-push.ensures.items ∙ ap (λ l. l ++ 10 ∷ []) c.in_ok-text.ensures
