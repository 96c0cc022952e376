use Rattle.df_list.specs.Listings.{block_data}
use Rattle.df_list.proofs.ListingEvents.{SendsRest}
use Rattle.df_list.proofs.listing.send_blocks.Given as goal

-- what is left is still to be sent
abbrev pub invariant-loop-block : goal.invariant-loop-block
invariant-loop-block g l = SendsRest (block_data l.problem.group) l.blocks l.block-index (g.S.Serializer.written l.initial.out) (g.S.Serializer.written l.out)
