use Rattle.std.proofs.Common.{◌≡◌, ℕ, ◌+◌, List, OnOk, Some, if◌then◌else◌, ap, ◌∙◌, subst}
use Rattle.std.proofs.lemmas.Result.{on_ok_weaker}
use Rattle.serde.specs.Event.{Logs, map_begins}
use Rattle.serde_json.specs.Events.{members_len, SendsValue, SendsMembers}
use Rattle.df_list.specs.Listings.{Listed, ListedDesign, bases_data, last_members, listing_members}
use Rattle.df_list.proofs.ListingEvents.{members_many}
use Rattle.df_list.proofs.listing.EndedListingSerialize.serialize.Goals as goal

pub returns : goal.returns
returns g c =
    let l = c.args.self.now.listing in
    let next = c.args.self.now.next in
    let nodes = c.args.self.now.nodes in
    let shown = ap (λ (x : Listed). x.blocks) c.listing.view_is in
    let many : c.member_count.result ≡ members_len (listing_members l next nodes) =
    c.member_count.ensures
    ∙ ap (λ b. (if b then 1 else 0) + (if c.is_some.result then 1 else 0) + 4) shown
    ∙ ap (λ b. (if l.blocks then 1 else 0) + (if b then 1 else 0) + 4) c.is_some.ensures
    ∙ members_many l next nodes in
    let begins = subst (λ n. Logs (g.S.Serializer.written c.args.out.now) (g.S.Serializer.written c.begin_map.new.self) (map_begins (Some n))) many c.in_ok-begin_map.ensures in
    let same = c.deref.ensures.value ∙ ap (λ (x : Listed). x.designs) c.listing.view_is in
    let sends : List ℕ → List ListedDesign → Type 0 = λ fs designs. SendsValue (bases_data fs designs) (g.S.Serializer.written c.key.new.self) (g.S.Serializer.written c.send_bases.new.out) in
    let bases = subst (λ fs. sends fs l.designs) (ap (λ (x : Listed). x.problem.group) c.listing.view_is) (subst (sends _) same c.in_ok-send_bases.ensures) in
    let last = subst (λ s. OnOk c.send_rest.result (SendsMembers (last_members s nodes) (g.S.Serializer.written c.send_ended.new.out) (g.S.Serializer.written c.send_rest.new.out))) (ap (λ (x : Listed). x.problem) c.listing.view_is) c.send_rest.ensures in
    on_ok_weaker c.send_rest.result (λ rest. (_, begins, c.in_ok-send_shown.ensures _ _ (_, _, c.in_ok-key.ensures, bases, c.in_ok-send_ended.ensures _ _ rest))) last
