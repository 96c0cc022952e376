-- A problem that a source states keeps its rules.
use Rattle.std.specs.Prelude.{◌≡◌, ℕ, ◌≤◌, List, length, Ok}
use Rattle.df_io.specs.declared.bytes.TheConstants.{MOST_BYTES}
use Rattle.df_lang.specs.Problems.{Stated, IsStated}
use Rattle.df_lang.specs.Sources.{source}

-- a source of at most `MOST_BYTES` bytes states no problem but one that keeps its rules
abbrev pub SourcesKeepTheirRules : Type 0
SourcesKeepTheirRules = (bytes : List ℕ) (s : Stated) → length bytes ≤ MOST_BYTES → source bytes ≡ Ok s → IsStated s
