use Rattle.std.proofs.Common.{ap, ◌∙◌, subst, arith}
use Rattle.std.proofs.lemmas.Result.{on_ok_weaker}
use Rattle.serde_json.specs.Data.{Data}
use Rattle.serde_json.specs.Events.{SendsValue}
use Rattle.df_list.specs.Listings.{ListedDesign, blocks_data}
use Rattle.df_list.proofs.ListingEvents.{sends_next, sends_end, sends_array}
use Rattle.df_list.proofs.listing.send_all.Goals as goal

pub loop-design-preserved : goal.loop-design-preserved
loop-design-preserved g c =
    let data_of : ListedDesign → Data = λ d. blocks_data c.args.problem.now.group d.all in
    let same = c.deref.ensures.value ∙ ap (λ (d : ListedDesign). d.all) (c.design.view_is ∙ c.design-item.is) in
    let sent = subst (λ blocks. SendsValue (blocks_data c.args.problem.now.group blocks) (g.S.Serializer.written c.loop-design.out) (g.S.Serializer.written c.send_blocks.new.out)) same c.in_ok-send_blocks.ensures in
    sends_next data_of c.args.designs.now c.loop-design.design-index c.design-item.result _ _ _ c.loop-design-test.true c.loop-design.invariant sent

pub returns : goal.returns
returns g c =
    let data_of : ListedDesign → Data = λ d. blocks_data c.args.problem.now.group d.all in
    let xs = c.args.designs.now in
    let past = c.loop-design-test.false in
    on_ok_weaker c.end_seq.result (λ ended. sends_array data_of xs _ _ _ c.in_ok-begin_seq.ensures (sends_end data_of xs c.loop-design.design-index _ _ _ (omega (arith, past)) c.loop-design.invariant ended)) c.end_seq.ensures
