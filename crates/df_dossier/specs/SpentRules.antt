-- What a dossier states that ended spent keeps the rules of problems.
use Rattle.std.specs.Prelude.{◌≡◌, ℕ, ◌≤◌, List, length, Ok}
use Rattle.df_io.specs.declared.bytes.TheConstants.{MOST_BYTES}
use Rattle.df_lang.specs.Problems.{IsStated}
use Rattle.df_dossier.specs.Spent.{spent}
use Rattle.df_dossier.specs.declared.spent.Spent.{Spent}

-- an input of at most `MOST_BYTES` bytes states no problem but one that keeps its rules
abbrev pub SpentKeepTheirRules : Type 0
SpentKeepTheirRules = (bytes : List ℕ) (d : Spent) → length bytes ≤ MOST_BYTES → spent bytes ≡ Ok d → IsStated d.problem
