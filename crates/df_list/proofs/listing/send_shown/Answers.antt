use Rattle.std.proofs.Common.{◌≡◌, ℕ, true, List, sym, ap, ◌∙◌, subst}
use Rattle.std.proofs.lemmas.Result.{on_ok_weaker}
use Rattle.serde_json.specs.Events.{SendsValue}
use Rattle.df_list.specs.Listings.{Listed, ListedDesign, all_data}
use Rattle.df_list.proofs.ListingEvents.{blocks_ahead}
use Rattle.df_list.proofs.listing.send_shown.Goals as goal

pub returns-in_ok-key : goal.returns-in_ok-key
returns-in_ok-key g c =
    let l = c.args.listing.now in
    let shown : l.blocks ≡ true = sym (ap (λ (x : Listed). x.blocks) c.listing.view_is) ∙ c.if-listing.true in
    let same = c.deref.ensures.value ∙ ap (λ (x : Listed). x.designs) c.listing.view_is in
    let sends : List ℕ → List ListedDesign → Type 0 = λ fs designs. SendsValue (all_data fs designs) (g.S.Serializer.written c.key.new.self) (g.S.Serializer.written c.send_all.new.out) in
    on_ok_weaker c.send_all.result (λ sent. blocks_ahead l _ _ _ shown c.in_ok-key.ensures (subst (λ fs. sends fs l.designs) (ap (λ (x : Listed). x.problem.group) c.listing.view_is) (subst (sends _) same sent))) c.send_all.ensures
