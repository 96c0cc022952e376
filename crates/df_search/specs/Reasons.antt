-- Why a path is no node, as a function of the path.
use Rattle.std.specs.Prelude.{◌≡◌, ◌↔◌, ℕ, Bool, true, List, length, take, find, Option, Some, None, option_map}
use Rattle.std.specs.Option.{option_or}
use Rattle.std.specs.List.{range_with_len}
use Rattle.df_walk.specs.declared.Rules.{Rules}
use Rattle.df_walk.specs.declared.Entry.{Entry}
use Rattle.df_walk.specs.declared.Entry.TheVariants as entry
use Rattle.df_walk.specs.Systems.{System}
use Rattle.df_walk.specs.Assignments.{is_settled}
use Rattle.df_walk.specs.Walks.{decided, entry_at}
use Rattle.df_walk.specs.Paths.{is_node}
use Rattle.df_search.specs.declared.Why.{Why}
use Rattle.df_search.specs.declared.Why.TheVariants.{SettledBefore, Over, Under, Residue}
use Rattle.df_search.specs.Resumptions.{IsWhy}

-- the least length of a settled proper prefix
abbrev pub first_settled : System → List Bool → Option ℕ
first_settled s p = find (λ n. is_settled s (decided (take n p))) (range_with_len 0 (length p))

-- what the entry of a path says against it: an entry that counts as a node says nothing
abbrev pub against : Entry → Option Why
against (entry.Over row) = Some (Over row)
against (entry.Under row) = Some (Under row)
against (entry.Residue row m) = Some (Residue row)
against entry.Settled = None
against (entry.Branch column) = None
against (entry.Cut ws) = None

-- a settled proper prefix, and else what the path's own entry says; nothing of a node
abbrev pub why_no_node : Rules → System → List Bool → Option Why
why_no_node rules s p = option_or (option_map SettledBefore (first_settled s p)) (against (entry_at rules s p))

-- a path is a node exactly where there is no reason, and what a refused search says of one is the reason
pub record HasReason (rules : Rules) (s : System) (p : List Bool) : Type 0 where
  pub node : (why_no_node rules s p ≡ None) ↔ (is_node rules s p ≡ true)
  pub why : (why : Why) → IsWhy rules s p why → why_no_node rules s p ≡ Some why

abbrev pub PathsHaveReasons : Type 0
PathsHaveReasons = (rules : Rules) (s : System) (p : List Bool) → HasReason rules s p
