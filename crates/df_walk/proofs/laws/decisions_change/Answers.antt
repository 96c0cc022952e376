use Rattle.df_walk.proofs.DecisionLaws.{taken-set_yes, taken-set_no, cap-set}
use Rattle.df_walk.specs.Systems.{entries}
use Rattle.df_walk.proofs.laws.decisions_change.Goals as goal

pub returns : goal.returns
returns c = λ s ds column row free. record {
  taken_yes = taken-set_yes (entries s row) ds column free;
  taken_no = taken-set_no (entries s row) ds column free;
  cap_after = λ b. cap-set (entries s row) ds column b free;
}
