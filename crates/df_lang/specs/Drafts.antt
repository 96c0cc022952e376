-- What a draft holds, as what stands above, and what a step of the reading has to answer.
use Rattle.std.specs.Prelude.{◌≡◌, ℕ, map, List, option_map, Result, Ok, Err, MatchResult, ⊤, Vec}
use Rattle.df_lang.specs.declared.fault.SourceFault.{SourceFault}
use Rattle.df_lang.specs.declared.fault.Stop.{Stop}
use Rattle.df_lang.specs.declared.fault.Stop.TheVariants.{Fault, OutOfMemory}
use Rattle.df_lang.specs.declared.fault.ParseError.{ParseError}
use Rattle.df_lang.specs.declared.fault.ParseError.TheVariants as told
use Rattle.df_lang.specs.declared.draft.Draft.{Draft}
use Rattle.df_lang.specs.Problems.{Stated}
use Rattle.df_lang.specs.StandsAbove.{Above}
use Rattle.df_lang.specs.Stored.{named, items_of}
use Rattle.df_lang.specs.Sources.{source, at_line, whole}

-- what a draft holds
abbrev pub above : Draft → Above
above d = record {
  version = d.version;
  group = d.group;
  fixed = d.fixed;
  names = map named d.names.entries;
  shift = d.shift;
  mults = option_map items_of d.mults;
  sizes = option_map items_of d.sizes;
  lambda = d.lambda;
  inside = d.inside;
  hole = d.hole;
  family = d.family.items;
  required = d.required.items;
  forbidden = d.forbidden.items;
}

-- the state that is meant, or the fault that is meant
abbrev pub Goes : Result Above SourceFault → Above → Result (Unit {0}) SourceFault → Type 0
Goes meant new result = MatchResult result (λ _. meant ≡ Ok new) (λ fault. meant ≡ Err fault)

-- the same, or out of memory
abbrev pub GoesOn : Result Above SourceFault → Above → Result (Unit {0}) Stop → Type 0
GoesOn meant new (Ok x) = meant ≡ Ok new
GoesOn meant new (Err (Fault fault)) = meant ≡ Err fault
GoesOn meant new (Err OutOfMemory) = ⊤

-- the items that are meant, or the fault that is meant, or out of memory
abbrev pub GivesItems : {A : Type 0} → Result (List ℕ) SourceFault → Result (Vec ℕ A) Stop → Type 0
GivesItems meant (Ok v) = meant ≡ Ok v.items
GivesItems meant (Err (Fault fault)) = meant ≡ Err fault
GivesItems meant (Err OutOfMemory) = ⊤

-- the whole source as what stands above its end, or its first fault, or out of memory
abbrev pub Reads : List ℕ → Result Draft ParseError → Type 0
Reads bytes (Ok draft) = source bytes ≡ at_line 0 (whole (above draft))
Reads bytes (Err (told.Refused e)) = source bytes ≡ Err e
Reads bytes (Err told.OutOfMemory) = ⊤

-- the whole source as a problem, or its first fault, or out of memory
abbrev pub Parses : List ℕ → Result Stated ParseError → Type 0
Parses bytes (Ok problem) = source bytes ≡ Ok problem
Parses bytes (Err (told.Refused e)) = source bytes ≡ Err e
Parses bytes (Err told.OutOfMemory) = ⊤
