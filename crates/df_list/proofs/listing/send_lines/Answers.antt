use Rattle.std.proofs.Common.{Some, subst, arith}
use Rattle.std.proofs.lemmas.Result.{on_ok_weaker}
use Rattle.serde.specs.Event.{Logs, seq_begins}
use Rattle.serde_json.specs.Data.{string}
use Rattle.df_lang.specs.Canonical.{canonical}
use Rattle.df_list.proofs.ListingEvents.{sends_end, sends_array}
use Rattle.df_list.proofs.listing.send_lines.Goals as goal

pub returns : goal.returns
returns g c =
    let xs = canonical c.args.problem.now in
    let many = c.line_count-count.ensures in
    let begins = subst (λ n. Logs (g.S.Serializer.written c.args.out.now) (g.S.Serializer.written c.begin_seq.new.self) (seq_begins (Some n))) many c.in_ok-begin_seq.ensures in
    let past = c.loop-number-test.false in
    on_ok_weaker c.end_seq.result (λ ended. sends_array string xs _ _ _ begins (sends_end string xs c.loop-number.number _ _ _ (omega (arith, past, many)) c.loop-number.invariant ended)) c.end_seq.ensures
