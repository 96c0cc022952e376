use Rattle.std.proofs.Common.{OnOk, sym, subst}
use Rattle.std.proofs.lemmas.Result.{on_ok_weaker}
use Rattle.df_list.specs.Listings.{with_end, ComesAhead}
use Rattle.df_list.proofs.listing.send_ended.Goals as goal

pub returns-in-None : goal.returns-in-None
returns-in-None g c =
    subst (λ o. OnOk c.str.result (ComesAhead (with_end o) (g.S.Serializer.written c.args.out.now) (g.S.Serializer.written c.str.new.self))) (sym c.in-None.is)
    (on_ok_weaker c.str.result (λ said. λ members last more. (_, _, c.in_ok-key.ensures, said, more)) c.str.ensures)

pub returns-in_ok-key-in-Some : goal.returns-in_ok-key-in-Some
returns-in_ok-key-in-Some g c =
    subst (λ o. OnOk c.send_path.result (ComesAhead (with_end o) (g.S.Serializer.written c.args.out.now) (g.S.Serializer.written c.send_path.new.out))) (sym c.in-Some.is)
    (on_ok_weaker c.send_path.result (λ sent. λ members last more. (_, _, c.in_ok-key.ensures, c.in_ok-str-in-Some.ensures, (_, _, c.in_ok-key-in-Some.ensures, sent, more))) c.send_path.ensures)
