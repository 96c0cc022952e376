use Rattle.serde_json.specs.Data.{string}
use Rattle.df_lang.specs.Canonical.{canonical}
use Rattle.df_list.proofs.ListingEvents.{SendsRest}
use Rattle.df_list.proofs.listing.send_lines.Given as goal

-- what is left is still to be sent
abbrev pub invariant-loop-number : goal.invariant-loop-number
invariant-loop-number g l = SendsRest (string) (canonical l.problem) l.number (g.S.Serializer.written l.initial.out) (g.S.Serializer.written l.out)
