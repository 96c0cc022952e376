use Rattle.std.proofs.Common.{arith}
use Rattle.std.proofs.lemmas.Result.{on_ok_weaker}
use Rattle.df_list.specs.Listings.{block_data}
use Rattle.df_list.proofs.ListingEvents.{sends_end, sends_array}
use Rattle.df_list.proofs.listing.send_blocks.Goals as goal

pub returns : goal.returns
returns g c =
    let data_of = block_data c.args.problem.now.group in
    let xs = c.args.blocks.now in
    let past = c.loop-block-test.false in
    on_ok_weaker c.end_seq.result (λ ended. sends_array data_of xs _ _ _ c.in_ok-begin_seq.ensures (sends_end data_of xs c.loop-block.block-index _ _ _ (omega (arith, past)) c.loop-block.invariant ended)) c.end_seq.ensures
