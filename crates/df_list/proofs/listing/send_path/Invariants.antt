use Rattle.serde_json.specs.Data.{number, unsigned}
use Rattle.df_list.proofs.ListingEvents.{SendsRest}
use Rattle.df_list.proofs.listing.send_path.Given as goal

-- what is left is still to be sent
abbrev pub invariant-loop-column : goal.invariant-loop-column
invariant-loop-column g l = SendsRest (λ n. number (unsigned n)) l.chosen l.column-index (g.S.Serializer.written l.initial.out) (g.S.Serializer.written l.out)
