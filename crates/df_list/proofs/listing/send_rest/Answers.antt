use Rattle.std.proofs.lemmas.Result.{on_ok_weaker}
use Rattle.df_list.proofs.listing.send_rest.Goals as goal

pub returns : goal.returns
returns g c =
    on_ok_weaker c.end_map.result (λ ended. (_, _, c.in_ok-key.ensures, c.in_ok-u64.ensures, (_, _, c.in_ok-key-2.ensures, c.in_ok-send_lines.ensures, ended))) c.end_map.ensures
