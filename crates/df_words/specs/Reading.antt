-- The words read one after the other.
use Rattle.std.specs.Prelude.{◌≡◌, ◌↔◌, ℕ, ◌≤◌, Bool, true, not, ◌&&◌, List, [], ◌∷◌, if◌then◌else◌, Option, Some, None}
use Rattle.std.specs.Option.{option_and_then, option_map, is_some}
use Rattle.df_words.specs.Table.{named, flagged, takes, excludes, number, value, number_in, nothing_stated, has, with_option, command_named, IsNumberOf}
use Rattle.df_words.specs.CommandLines.{IsCommandLine}
use Rattle.df_words.specs.declared.table.TheConstants.{LEAST_WORKLOAD, MOST_WORKLOAD}
use Rattle.df_words.specs.declared.table.Name.{Name}
use Rattle.df_words.specs.declared.table.Flag.{Flag}
use Rattle.df_words.specs.declared.table.Flag.TheVariants as flag
use Rattle.df_words.specs.declared.table.Bounds.{Bounds}
use Rattle.df_words.specs.declared.table.Stated.{Stated}
use Rattle.df_words.specs.declared.command.Command.{Command}
use Rattle.df_words.specs.declared.command.Command.TheVariants.{Workload}
use Rattle.df_words.specs.declared.words.Reading.{Reading}
use Rattle.df_words.specs.declared.words.Reading.TheVariants.{Start, Number, Given, Value}

-- the first option, if stated, doesn't exclude the second
abbrev pub admits : Stated → Flag → Flag → Bool
admits stated first second = not (has stated first && excludes first second)

-- no option stated excludes this one
abbrev pub is_free : Stated → Flag → Bool
is_free stated second = admits stated flag.Budget second && (admits stated flag.Log second && (admits stated flag.Blocks second && admits stated flag.Json second))

-- a command's word was read; its number is wanted, or none
abbrev pub begun : Option Bounds → Name → Reading
begun None name = Given name 0 nothing_stated
begun (Some bounds) name = Number name

-- an option's word was read; its number is wanted, or none
abbrev pub opened : Option Bounds → Name → ℕ → Stated → Flag → Reading
opened None name n stated flag = Given name n (with_option stated flag 0)
opened (Some bounds) name n stated flag = Value name n stated flag

-- an option's word, where the command has it and no option stated excludes it
abbrev pub with_flag : Name → ℕ → Stated → Flag → Option Reading
with_flag name n stated flag = if takes name flag && is_free stated flag then Some (opened (value flag) name n stated flag) else None

-- one word more
abbrev pub after : Reading → List ℕ → Option Reading
after Start word = option_map (λ name. begun (number name) name) (named word)
after (Number name) word = option_map (λ n. Given name n nothing_stated) (number_in (number name) word)
after (Given name n stated) word = option_and_then (with_flag name n stated) (flagged word)
after (Value name n stated flag) word = option_map (λ m. Given name n (with_option stated flag m)) (number_in (value flag) word)

-- these words more
abbrev pub reading_from : Reading → List (List ℕ) → Option Reading
reading_from reading [] = Some reading
reading_from reading (word ∷ more) = option_and_then (λ next. reading_from next more) (after reading word)

-- the command, where the words may end here
abbrev pub ended : Reading → Option Command
ended Start = None
ended (Number name) = None
ended (Given name n stated) = Some (command_named name n stated)
ended (Value name n stated flag) = None

-- what a reading of words can be: a number is awaited where one is wanted, and what was read is within its bounds
abbrev pub IsReady : Reading → Type 0
IsReady Start = Unit
IsReady (Number name) = is_some (number name) ≡ true
IsReady (Given name n stated) = IsNumberOf name n
IsReady (Value name n stated flag) = IsNumberOf name n × (is_some (value flag) ≡ true)

-- the command that these words ask for
abbrev pub command_of : List (List ℕ) → Option Command
command_of words = option_and_then ended (reading_from Start words)

-- the words that are read to a command are exactly its command lines
abbrev pub CommandLineLaw : Type 0
CommandLineLaw = (words : List (List ℕ)) (command : Command) → (command_of words ≡ Some command) ↔ IsCommandLine words command

-- a command line of a workload has a number within its bounds
abbrev pub WorkloadLaw : Type 0
WorkloadLaw = (words : List (List ℕ)) (n : ℕ) → IsCommandLine words (Workload n) → (LEAST_WORKLOAD ≤ n) × (n ≤ MOST_WORKLOAD)
