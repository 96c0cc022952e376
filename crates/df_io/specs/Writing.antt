-- What a call that writes a text has done.
use Rattle.std.specs.declared.option.Option.{Option}
use Rattle.std.specs.Io.KnownBytes.{Appends}
use Rattle.std.specs.Prelude.{ℕ, ◌≤◌, List, Result, OnOk, OnErr}
use Rattle.df_io.specs.Causes.{Rose, AppendsPrefix}
use Rattle.df_io.specs.declared.bytes.WriteFault.{WriteFault}

-- all of the text was written; or a proper prefix of it, and the sink failed
pub record Writes {K : Type 0} (written : K → Option (List ℕ)) (faults : K → ℕ) (old new : K) (text : List ℕ) (result : Result (Unit {0}) WriteFault) : Type 0 where
  pub all : OnOk result (Appends (written old) (written new) text)
  pub prefix : OnErr result (AppendsPrefix (written old) (written new) text)
  pub fault : OnErr result (Rose (faults old) (faults new))
  pub later : faults old ≤ faults new
