use Rattle.df_list.specs.Listings.{blocks_data}
use Rattle.df_list.proofs.ListingEvents.{SendsRest}
use Rattle.df_list.proofs.listing.send_all.Given as goal

-- what is left is still to be sent
abbrev pub invariant-loop-design : goal.invariant-loop-design
invariant-loop-design g l = SendsRest (λ d. blocks_data l.problem.group d.all) l.designs l.design-index (g.S.Serializer.written l.initial.out) (g.S.Serializer.written l.out)
