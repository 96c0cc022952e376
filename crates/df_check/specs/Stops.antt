-- What a part of the judging gives: what is meant, the line that is refused, or out of memory.
use Rattle.std.specs.Prelude.{◌≡◌, Option, Some, None, Result, Ok, Err}
use Rattle.df_check.specs.declared.Fed.{Fed}
use Rattle.df_check.specs.declared.Fed.TheVariants as fed
use Rattle.df_check.specs.declared.LogFault.{LogFault}
use Rattle.df_check.specs.declared.stop.Stop.{Stop}
use Rattle.df_check.specs.declared.stop.Stop.TheVariants as stop
use Rattle.df_check.specs.Judging.{Refused, stopped, BadLine, Above, BadLog}

-- what is meant stops so, or there was no memory
abbrev pub Stops : {A : Type 0} → Result A Refused → Stop → Type 0
Stops meant (stop.BadLine line f) = meant ≡ stopped line (BadLine f)
Stops meant (stop.BadLog line f) = meant ≡ stopped line (BadLog f)
Stops meant (stop.Above line e) = meant ≡ stopped line (Above e)
Stops meant stop.OutOfMemory = Unit {0}

-- what is meant is this value, or it stops so
abbrev pub Gives : {A : Type 0} → Result A Refused → Result A Stop → Type 0
Gives meant (Ok x) = meant ≡ Ok x
Gives meant (Err s) = Stops meant s

-- what is meant is the state that is left, or it stops so
abbrev pub Moves : {A : Type 0} → Result A Refused → A → Result Unit Stop → Type 0
Moves meant new (Ok done) = meant ≡ Ok new
Moves meant new (Err s) = Stops meant s

-- the fault that a checker answers, if it answers one
abbrev pub fault_in : Fed → Option LogFault
fault_in fed.Ok = None
fault_in fed.WantsDesign = None
fault_in (fed.Fault fault) = Some fault
