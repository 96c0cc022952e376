use Rattle.df_orbits.proofs.OrbitNumbers.{members_sorted, member_own, least_in, member_alone}
use Rattle.df_orbits.proofs.laws.representatives_tell_orbits.Goals as goal

pub returns : goal.returns
returns c = λ M A sizes. record {
  sorted = members_sorted M A sizes;
  own = member_own M A sizes;
  listed = λ b block sized. least_in M A sizes b block sized;
  alone = λ b c block sized i. member_alone M A sizes b block sized c i;
}
