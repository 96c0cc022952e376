-- The line of a design is read back.
use Rattle.std.specs.Prelude.{◌≡◌, ℕ, List, Some}
use Rattle.df_io.specs.Joined.{Each, Lacks, is_line_feed}
use Rattle.df_lang.specs.Problems.{Stated, IsStated, IsBlock, point_count}
use Rattle.df_dossier.specs.Designs.{design_text, design_of}

-- the line of these blocks is read as them, and has no line feed
pub record DesignReadsBack (s : Stated) (blocks : List (List ℕ)) : Type 0 where
  pub read : design_of s (design_text s.group blocks) ≡ Some blocks
  pub line : Lacks is_line_feed (design_text s.group blocks)

-- so of all lists of blocks of a problem, none or more, in any order
abbrev pub DesignsReadBack : Type 0
DesignsReadBack = (s : Stated) → IsStated s → (blocks : List (List ℕ)) → Each (IsBlock (point_count s) s.sizes) blocks → DesignReadsBack s blocks
