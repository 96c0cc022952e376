-- The text of a verdict.
use Rattle.std.specs.Prelude.{ℕ, List, [], ◌∷◌, ◌++◌, codes}
use Rattle.std.specs.List.{flat_map}
use Rattle.df_lang.specs.Problems.{Stated}
use Rattle.df_lang.specs.Canonical.{block_text}
use Rattle.df_family.specs.Developments.{develop}
use Rattle.df_family.specs.declared.table.Row.{Row}
use Rattle.df_family.specs.declared.verdict.Verdict.{Verdict}
use Rattle.df_family.specs.declared.verdict.Verdict.TheVariants.{Accepted, Refused}
use Rattle.df_list.specs.TableTexts.{row_text}
use Rattle.df_tell.specs.Counts.{count_line}

-- the line of a block
unfoldable pub block_line : Stated → List ℕ → List ℕ
block_line s block = (codes "block " ++ block_text s.group block) ++ 10 ∷ []

abbrev pub block_lines : Stated → List (List ℕ) → List ℕ
block_lines s blocks = flat_map (block_line s) blocks

-- the number of blocks, and the blocks of the development
abbrev pub accepted_text : Stated → ℕ → List ℕ
accepted_text s blocks = count_line (codes "accepted ") blocks ++ block_lines s (develop s)

-- the row that differs
unfoldable pub refused_line : Stated → Row → ℕ → ℕ → List ℕ
refused_line s row found stated = (codes "refused " ++ row_text s row found stated) ++ 10 ∷ []

abbrev pub verdict_text : Stated → Verdict → List ℕ
verdict_text s (Accepted blocks) = accepted_text s blocks
verdict_text s (Refused row found stated) = refused_line s row found stated
