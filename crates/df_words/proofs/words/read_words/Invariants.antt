use Rattle.std.proofs.Common.{◌≡◌, map, string_bytes, Some, take}
use Rattle.df_words.specs.Reading.{reading_from}
use Rattle.df_words.specs.declared.words.Reading.TheVariants.{Start}
use Rattle.df_words.proofs.words.read_words.Given as goal

abbrev pub invariant-loop-place : goal.invariant-loop-place
invariant-loop-place l = reading_from Start (take l.place (map string_bytes l.words)) ≡ Some l.reading
