-- What a call that reads a path answers.
use Rattle.std.specs.Prelude.{◌≡◌, ℕ, List, Option, Some, None, Result, Ok, Err}
use Rattle.df_walk.specs.Paths.{WrittenPath}
use Rattle.df_dossier.specs.declared.paths.PathRead.{PathRead}
use Rattle.df_dossier.specs.declared.paths.PathRead.TheVariants.{Bad, OutOfMemory}
use Rattle.df_dossier.specs.Paths.{HasPath}

-- the value that is meant, `Bad` exactly where there is none, or out of memory
abbrev pub ReadsAs : {A : Type 0} → Option A → Result A PathRead → Type 0
ReadsAs meant (Ok x) = meant ≡ Some x
ReadsAs meant (Err Bad) = meant ≡ None
ReadsAs meant (Err OutOfMemory) = Unit {0}

-- the path of the line, `Bad` exactly where it has none, or out of memory
abbrev pub ReadsPath : List ℕ → Result WrittenPath PathRead → Type 0
ReadsPath line (Ok p) = HasPath line p
ReadsPath line (Err Bad) = (p : WrittenPath) → HasPath line p → ⊥
ReadsPath line (Err OutOfMemory) = Unit {0}
