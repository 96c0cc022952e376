-- A text on its way to a sink through a buffer, in which its pieces are gathered.
use Rattle.std.specs.Prelude.{◌≡◌, ℕ, ◌≤◌, List, ◌++◌, Option, Result, OnOk, OnErr}
use Rattle.std.specs.Io.KnownBytes.{Appends}
use Rattle.df_io.specs.Causes.{Rose, AppendsPrefix}
use Rattle.df_io.specs.declared.bytes.WriteFault.{WriteFault}

-- what was gathered before and the text are some bytes that were written and what is gathered now
pub record AreGathered {K : Type 0} (written : K → Option (List ℕ)) (out out_new : K) (old new text : List ℕ) : Type 0 where
  pub front : List ℕ
  pub joined : old ++ text ≡ front ++ new
  pub appends : Appends (written out) (written out_new) front

-- all of the text was gathered or written; or of what was gathered before and the text a proper prefix was written, and the sink failed
pub record Gathers {K : Type 0} (written : K → Option (List ℕ)) (faults : K → ℕ) (out out_new : K) (old new text : List ℕ) (result : Result (Unit {0}) WriteFault) : Type 0 where
  pub all : OnOk result (AreGathered written out out_new old new text)
  pub prefix : OnErr result (AppendsPrefix (written out) (written out_new) (old ++ text))
  pub fault : OnErr result (Rose (faults out) (faults out_new))
  pub later : faults out ≤ faults out_new
