-- The text of a problem: its canonical lines.
use Rattle.std.specs.Prelude.{ℕ, List}
use Rattle.df_io.specs.Joined.{text_of}
use Rattle.df_lang.specs.Problems.{Stated}
use Rattle.df_lang.specs.Canonical.{canonical}

abbrev pub canonical_text : Stated → List ℕ
canonical_text s = text_of (canonical s)
