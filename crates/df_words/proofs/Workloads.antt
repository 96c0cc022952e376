-- The number of a workload is within its bounds.
use Rattle.std.proofs.Common.{◌≡◌, ℕ, ◌≤◌, List, sym, subst}
use Rattle.df_words.specs.Table.{number, IsIn, nothing_stated, command_named}
use Rattle.df_words.specs.CommandLines.{IsNumber, with_items}
use Rattle.df_words.specs.Reading.{WorkloadLaw}
use Rattle.df_words.specs.declared.table.TheConstants.{LEAST_WORKLOAD, MOST_WORKLOAD}
use Rattle.df_words.specs.declared.table.Name.{Name}
use Rattle.df_words.specs.declared.table.Name.TheVariants as name
use Rattle.df_words.specs.declared.table.Stated.{Stated}
use Rattle.df_words.specs.declared.command.Command.TheVariants as command
use Rattle.df_words.proofs.Readings.{is_in}

-- no other command is a workload, and its number is read within the bounds
named_so : (called : Name) (more : List (List ℕ)) (m n : ℕ) (stated : Stated) → command.Workload n ≡ command_named called m stated → IsNumber (number called) more m → (LEAST_WORKLOAD ≤ n) × (n ≤ MOST_WORKLOAD)
named_so name.Workload more m n stated is given =
    let same : n ≡ m = cc in
    subst (IsIn (number name.Workload)) (sym same) (is_in (number name.Workload) given.0 m given.2)
named_so called more m n stated is given = absurd (cc)

pub workloads_numbered : WorkloadLaw
workloads_numbered words n line = named_so line.name line.more line.n n (with_items nothing_stated line.items) line.command_is line.number_is
