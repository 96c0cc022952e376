use Rattle.df_list.specs.Listings.{listing_data}
use Rattle.df_list.proofs.ListingEvents.{listing_whole}
use Rattle.serde_json.proofs.FreeTexts.{text_of_value}
use Rattle.df_list.proofs.listing.json_of.Goals as goal

pub returns-in-Ok : goal.returns-in-Ok
returns-in-Ok c =
    let ended = c.args.ended.now in
    let sent = c.in-Ok.ensures.events in
    text_of_value (listing_data ended.listing ended.next ended.nodes) sent.0 c.in-Ok.text.items sent.1 sent.2 (listing_whole ended.listing ended.next ended.nodes)
