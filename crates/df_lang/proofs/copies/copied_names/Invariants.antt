use Rattle.std.proofs.Common.{◌≡◌, map, take}
use Rattle.df_lang.specs.Stored.{named}
use Rattle.df_lang.proofs.copies.copied_names.Given as goal

abbrev pub invariant-loop-place : goal.invariant-loop-place
invariant-loop-place l = map named l.copy.entries ≡ take l.place (map named l.names.entries)
