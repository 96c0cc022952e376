use Rattle.df_tell.proofs.Listings.{next_is}
use Rattle.df_tell.proofs.listing.next_path.Goals as goal

pub returns-in_ok-path-in-Spent : goal.returns-in_ok-path-in-Spent
returns-in_ok-path-in-Spent c = next_is c.args.end c.args.designs.now.search c.place-place.result.decisions.now c.in_ok-path-in-Spent.path c.in-Spent.is c.place-place.ensures.stands.search.place c.in_ok-path-in-Spent.ensures
