-- The order in which steps stand.
use Rattle.std.specs.Prelude.{◌≡◌, ◌+◌, ◌≢◌, Bool, false, List, [], ◌∷◌, ◌++◌, length, filter}
use Rattle.std.specs.List.{AllByRecursion}
use Rattle.df_walk.specs.declared.Rules.{Rules}
use Rattle.df_walk.specs.Systems.{System}
use Rattle.df_walk.specs.Walks.{Step, solutions_in, nodes_in}
use Rattle.df_walk.specs.Paths.{not_before, rest, load}
use Rattle.df_walk.specs.Remains.{walk_on, earlier}

-- each step's path stands before those of all later steps
abbrev pub Ascend : List Step → Type 0
Ascend [] = Unit {0}
Ascend (step ∷ steps) = AllByRecursion (λ later. not_before later.0 step.0 ≡ false) steps × Ascend steps

-- no path has two steps
abbrev pub StandOnce : List Step → Type 0
StandOnce [] = Unit {0}
StandOnce (step ∷ steps) = AllByRecursion (λ later. later.0 ≢ step.0) steps × StandOnce steps

-- what remains at p, cut at q: first what comes before q, then what remains there
pub record IsCutBetween (rules : Rules) (s : System) (p q : List Bool) : Type 0 where
  pub parts : walk_on rules s p ≡ earlier q (walk_on rules s p) ++ walk_on rules s q
  pub remains : filter (λ step. not_before q step.0) (walk_on rules s p) ≡ walk_on rules s q
  pub rests_add : solutions_in s (earlier q (walk_on rules s p)) ++ rest s q ≡ rest s p
  pub loads_add : length (nodes_in (earlier q (walk_on rules s p))) + load rules s q ≡ load rules s p
