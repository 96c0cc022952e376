-- The verdict on a mixed family: the first row that isn't found as often as is stated.
use Rattle.std.specs.Prelude.{ℕ, ◌<◌, ⊤, Bool, true, false, length, Option, None, Some}
use Rattle.std.specs.List.{position}
use Rattle.df_lang.specs.Problems.{Stated}
use Rattle.df_mixed.specs.declared.verdict.MixedVerdict.{MixedVerdict}
use Rattle.df_mixed.specs.declared.verdict.MixedVerdict.TheVariants.{Accepted, Refused}
use Rattle.df_mixed.specs.MixedTables.{mixed_development, mixed_table, pair_entry_at, is_wrong}

-- accepted with the length of the development where no row is wrong, else refused with the place of the first that is
abbrev pub mixed_verdict_at : Stated → Option ℕ → MixedVerdict
mixed_verdict_at s None = Accepted (length (mixed_development s))
mixed_verdict_at s (Some place) = Refused place (pair_entry_at (mixed_table s) place).found (pair_entry_at (mixed_table s) place).stated

abbrev pub mixed_verdict : Stated → MixedVerdict
mixed_verdict s = mixed_verdict_at s (position is_wrong (mixed_table s))

-- a verdict that speaks of a row of the table
abbrev pub IsMixedVerdictOn : Stated → MixedVerdict → Type 0
IsMixedVerdictOn s (Accepted blocks) = ⊤
IsMixedVerdictOn s (Refused place found stated) = place < length (mixed_table s)

abbrev pub is_accepted : MixedVerdict → Bool
is_accepted (Accepted blocks) = true
is_accepted (Refused place found stated) = false
