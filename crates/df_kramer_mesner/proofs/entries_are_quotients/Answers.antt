use Rattle.df_kramer_mesner.proofs.ProblemMaps.{problem_group}
use Rattle.df_kramer_mesner.proofs.EntryQuotients.{is_quotient}
use Rattle.df_kramer_mesner.proofs.entries_are_quotients.Goals as goal

pub returns : goal.returns
returns c = λ s is b pair i j. is_quotient s (problem_group c.maps_are_made.ensures c.maps_are_groups.ensures s is) b pair i j
