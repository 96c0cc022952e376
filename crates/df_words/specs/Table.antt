-- The commands, their options, and the words and numbers of each: a row for each.
use Rattle.std.specs.Prelude.{◌≡◌, ℕ, ◌≤◌, nat_le, ◌&&◌, Bool, true, false, List, if◌then◌else◌, Option, Some, None, unwrap_or, codes, bytes_eq}
use Rattle.std.specs.Option.{is_some}
use Rattle.df_io.specs.Number.{number_read}
use Rattle.df_io.specs.declared.numbers.NumberRead.{NumberRead}
use Rattle.df_io.specs.declared.numbers.NumberRead.TheVariants.{Value, NotDigits, TooLarge}
use Rattle.df_words.specs.declared.table.TheConstants.{LEAST_BUDGET, MOST_BUDGET, DEFAULT_BUDGET, LEAST_WORKLOAD, MOST_WORKLOAD}
use Rattle.df_words.specs.declared.table.Name.{Name}
use Rattle.df_words.specs.declared.table.Name.TheVariants as name
use Rattle.df_words.specs.declared.table.Flag.{Flag}
use Rattle.df_words.specs.declared.table.Flag.TheVariants as flag
use Rattle.df_words.specs.declared.table.Bounds.{Bounds}
use Rattle.df_words.specs.declared.table.Stated.{Stated}
use Rattle.df_words.specs.declared.command.Options.{Options}
use Rattle.df_words.specs.declared.command.Command.{Command}
use Rattle.df_words.specs.declared.command.Command.TheVariants as command

-- the command that a word names
abbrev pub named : List ℕ → Option Name
named word =
    if bytes_eq word (codes "show") then Some name.Show else
    (if bytes_eq word (codes "table") then Some name.Table else
    (if bytes_eq word (codes "verify") then Some name.Verify else
    (if bytes_eq word (codes "orbits") then Some name.Orbits else
    (if bytes_eq word (codes "matrix") then Some name.Matrix else
    (if bytes_eq word (codes "solve") then Some name.Solve else
    (if bytes_eq word (codes "resume") then Some name.Resume else
    (if bytes_eq word (codes "check") then Some name.Check else
    (if bytes_eq word (codes "workload") then Some name.Workload else None))))))))

-- the option that a word names
abbrev pub flagged : List ℕ → Option Flag
flagged word =
    if bytes_eq word (codes "--budget") then Some flag.Budget else
    (if bytes_eq word (codes "--log") then Some flag.Log else
    (if bytes_eq word (codes "--blocks") then Some flag.Blocks else
    (if bytes_eq word (codes "--json") then Some flag.Json else None)))

-- whether a command has an option: a search, new or going on, has a budget, a log, and the blocks of its designs; a new one may
-- be told as JSON
abbrev pub takes : Name → Flag → Bool
takes name.Solve flag.Budget = true
takes name.Solve flag.Log = true
takes name.Solve flag.Blocks = true
takes name.Solve flag.Json = true
takes name.Resume flag.Budget = true
takes name.Resume flag.Log = true
takes name.Resume flag.Blocks = true
takes name flag = false

-- whether the first option excludes the second: each excludes itself, and the log and the JSON text exclude each other
abbrev pub excludes : Flag → Flag → Bool
excludes flag.Budget flag.Budget = true
excludes flag.Log flag.Log = true
excludes flag.Blocks flag.Blocks = true
excludes flag.Json flag.Json = true
excludes flag.Log flag.Json = true
excludes flag.Json flag.Log = true
excludes first second = false

-- the numbers that may follow a command's word, where it wants one
abbrev pub number : Name → Option Bounds
number name.Workload = Some record { least = LEAST_WORKLOAD; most = MOST_WORKLOAD }
number name = None

-- the numbers that may follow an option's word, where it wants one
abbrev pub value : Flag → Option Bounds
value flag.Budget = Some record { least = LEAST_BUDGET; most = MOST_BUDGET }
value flag = None

-- the number that a word spells, where it is within the bounds
abbrev pub within : Bounds → NumberRead → Option ℕ
within bounds (Value n) = if nat_le bounds.least n && nat_le n bounds.most then Some n else None
within bounds NotDigits = None
within bounds TooLarge = None

abbrev pub number_within : Bounds → List ℕ → Option ℕ
number_within bounds word = within bounds (number_read word)

-- the same, where a number is wanted
abbrev pub number_in : Option Bounds → List ℕ → Option ℕ
number_in None word = None
number_in (Some bounds) word = number_within bounds word

-- what may stand as a command's number; it is 0 where none is wanted
abbrev pub IsIn : Option Bounds → ℕ → Type 0
IsIn None n = n ≡ 0
IsIn (Some bounds) n = (bounds.least ≤ n) × (n ≤ bounds.most)

abbrev pub IsNumberOf : Name → ℕ → Type 0
IsNumberOf name n = IsIn (number name) n

-- no option is stated
abbrev pub nothing_stated : Stated
nothing_stated = record { budget = None; log = false; blocks = false; json = false }

-- whether an option is stated
abbrev pub has : Stated → Flag → Bool
has stated flag.Budget = is_some stated.budget
has stated flag.Log = stated.log
has stated flag.Blocks = stated.blocks
has stated flag.Json = stated.json

-- one option more, and its number
abbrev pub with_option : Stated → Flag → ℕ → Stated
with_option stated flag.Budget n = record stated { budget = Some n }
with_option stated flag.Log n = record stated { log = true }
with_option stated flag.Blocks n = record stated { blocks = true }
with_option stated flag.Json n = record stated { json = true }

-- the options of a search: each as stated, and else the default budget, no log, no blocks and no JSON
abbrev pub options_in : Stated → Options
options_in stated = record { budget = unwrap_or stated.budget DEFAULT_BUDGET; log = stated.log; blocks = stated.blocks; json = stated.json }

-- the command of a name, its number and the options stated
abbrev pub command_named : Name → ℕ → Stated → Command
command_named name.Show n stated = command.Show
command_named name.Table n stated = command.Table
command_named name.Verify n stated = command.Verify
command_named name.Orbits n stated = command.Orbits
command_named name.Matrix n stated = command.Matrix
command_named name.Solve n stated = command.Solve (options_in stated)
command_named name.Resume n stated = command.Resume (options_in stated)
command_named name.Check n stated = command.Check
command_named name.Workload n stated = command.Workload n
