use Rattle.df_lists.specs.NumberSets.{IsSet}
use Rattle.df_acting.proofs.RepresentativeLaws.{least_same, least_least, least_once, representative_same}
use Rattle.df_acting.proofs.representatives_are_one.Goals as goal

pub returns : goal.returns
returns c = λ eq before act v maps E O G. record {
  of_orbit = least_same eq act (IsSet v) maps E G before O;
  representative = least_least eq act (IsSet v) maps E G before O;
  once = least_once eq act (IsSet v) maps E G before O;
  same = representative_same eq act (IsSet v) maps E G before O;
}
