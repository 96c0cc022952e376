use Rattle.std.proofs.Common.{◌≡◌, ◌+◌, ℕ, suc, ◌∷◌, length, Some, subst, arith, ◌∙◌}
use Rattle.std.proofs.lemmas.Result.{on_ok_weaker}
use Rattle.serde.specs.Event.{Logs, seq_begins, unsigned as sends_unsigned}
use Rattle.serde_json.specs.Data.{Data, number, unsigned}
use Rattle.serde_json.specs.Events.{SendsValue}
use Rattle.df_list.specs.Listings.{array_of}
use Rattle.df_list.proofs.ListingEvents.{sends_end, sends_array}
use Rattle.df_list.proofs.listing.send_path.Goals as goal

pub returns : goal.returns
returns g c =
    let data_of : ℕ → Data = λ n. number (unsigned n) in
    let size = c.args.path.now.size in
    let xs = c.chosen-chosen.result.now in
    let sent = subst (λ n. Logs (g.S.Serializer.written c.begin_seq.new.self) (g.S.Serializer.written c.u64.new.self) (sends_unsigned n)) (c.from.ensures ∙ c.length.ensures.value) c.in_ok-u64.ensures in
    let one_more : length xs + 1 ≡ suc (length xs) = omega arith in
    let begins = subst (λ n. Logs (g.S.Serializer.written c.args.out.now) (g.S.Serializer.written c.begin_seq.new.self) (seq_begins (Some n))) one_more c.in_ok-begin_seq.ensures in
    let past = c.loop-column-test.false in
    on_ok_weaker c.end_seq.result (λ ended. subst (λ l. SendsValue (array_of data_of (size ∷ l)) (g.S.Serializer.written c.args.out.now) (g.S.Serializer.written c.end_seq.new.self)) c.chosen-chosen.ensures.value
    (sends_array data_of (size ∷ xs) _ _ _ begins (_, sent, sends_end data_of xs c.loop-column.column-index _ _ _ (omega (arith, past)) c.loop-column.invariant ended))) c.end_seq.ensures
