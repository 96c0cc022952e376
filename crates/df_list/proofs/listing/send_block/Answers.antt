use Rattle.std.proofs.Common.{List, ℕ, subst, arith, ◌∙◌}
use Rattle.std.proofs.lemmas.Result.{on_ok_weaker}
use Rattle.serde_json.specs.Data.{Data, string}
use Rattle.serde_json.specs.Events.{SendsValue}
use Rattle.df_lang.specs.Canonical.{point_text}
use Rattle.df_list.specs.Listings.{array_of}
use Rattle.df_list.proofs.ListingEvents.{sends_next, sends_end, sends_array}
use Rattle.df_list.proofs.listing.send_block.Goals as goal

pub loop-point-preserved : goal.loop-point-preserved
loop-point-preserved g c =
    let data_of : ℕ → Data = λ p. string (point_text c.args.problem.now.group p) in
    let sent = subst (λ p. SendsValue (data_of p) (g.S.Serializer.written c.loop-point.out) (g.S.Serializer.written c.send_point.new.out)) c.point-item.is c.in_ok-send_point.ensures in
    sends_next data_of c.as_slice-points.result.now c.loop-point.point-index c.point-item.result _ _ _ c.loop-point-test.true c.loop-point.invariant sent

pub returns : goal.returns
returns g c =
    let data_of : ℕ → Data = λ p. string (point_text c.args.problem.now.group p) in
    let xs = c.as_slice-points.result.now in
    let past = c.loop-point-test.false in
    on_ok_weaker c.end_seq.result (λ ended. subst (λ l. SendsValue (array_of data_of l) (g.S.Serializer.written c.args.out.now) (g.S.Serializer.written c.end_seq.new.self)) (c.as_slice-points.ensures.value ∙ c.points-points.ensures.list)
    (sends_array data_of xs _ _ _ c.in_ok-begin_seq.ensures (sends_end data_of xs c.loop-point.point-index _ _ _ (omega (arith, past)) c.loop-point.invariant ended))) c.end_seq.ensures
