use Rattle.df_lists.specs.NumberSets.{IsSet}
use Rattle.df_acting.proofs.OrbitLaws.{entry_law, entry_in_orbit}
use Rattle.df_acting.proofs.entries_are_quotients.Goals as goal

pub returns : goal.returns
returns c = λ eq holds act v maps E G K pairs blocks S T x y d k. record {
  product = entry_law eq act (IsSet v) maps E G holds K pairs blocks S T x y d k;
  same = λ z h. entry_in_orbit eq act (IsSet v) maps E G holds K blocks T x z y d h;
}
