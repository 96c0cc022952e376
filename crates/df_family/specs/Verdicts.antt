-- The verdict on a family: the first row that isn't found as often as is stated.
use Rattle.std.specs.Prelude.{⊤, Bool, true, false, length, find, Option, None, Some}
use Rattle.df_lang.specs.Problems.{Stated}
use Rattle.df_family.specs.declared.table.Entry.{Entry}
use Rattle.df_family.specs.declared.verdict.Verdict.{Verdict}
use Rattle.df_family.specs.declared.verdict.Verdict.TheVariants.{Accepted, Refused}
use Rattle.df_family.specs.Developments.{develop}
use Rattle.df_family.specs.Tables.{table, is_wrong, IsRow}

-- accepted with the length of the development where no row is wrong, else refused with the first that is
abbrev pub verdict_at : Stated → Option Entry → Verdict
verdict_at s None = Accepted (length (develop s))
verdict_at s (Some e) = Refused e.row e.found e.stated

abbrev pub verdict_on : Stated → Verdict
verdict_on s = verdict_at s (find is_wrong (table s))

-- a verdict that speaks of a row of the problem
abbrev pub IsVerdictOn : Stated → Verdict → Type 0
IsVerdictOn s (Accepted blocks) = ⊤
IsVerdictOn s (Refused row found stated) = IsRow s row

abbrev pub is_accepted : Verdict → Bool
is_accepted (Accepted blocks) = true
is_accepted (Refused row found stated) = false
