use Rattle.serde_json.specs.Data.{string}
use Rattle.df_lang.specs.Canonical.{point_text}
use Rattle.df_list.proofs.ListingEvents.{SendsRest}
use Rattle.df_list.proofs.listing.send_block.Given as goal

-- what is left is still to be sent
abbrev pub invariant-loop-point : goal.invariant-loop-point
invariant-loop-point g l = SendsRest (λ p. string (point_text l.problem.group p)) l.points l.point-index (g.S.Serializer.written l.initial.out) (g.S.Serializer.written l.out)
