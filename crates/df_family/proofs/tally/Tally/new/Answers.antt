use Rattle.std.proofs.Common.{replicate, refl}
use Rattle.df_family.specs.declared.tally.Tally.{Tally}
use Rattle.df_family.proofs.TallyLaws.{zero_number}
use Rattle.df_family.proofs.tally.Tally.new.Goals as goal

pub returns : goal.returns
returns c = let t : Tally = record { differences = replicate 128 0; singles = replicate 16 0; pairs = replicate 256 0 } in zero_number t refl refl refl
