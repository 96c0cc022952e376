-- What is printed is read back.
use Rattle.std.specs.Prelude.{◌≡◌, ℕ, List, map, Some, Ok}
use Rattle.df_io.specs.Lines.{tokens_of}
use Rattle.df_io.specs.Joined.{Each, Lacks, IsToken, is_line_feed, text_of}
use Rattle.df_lang.specs.Problems.{Stated, IsStated, IsBlock, point_count}
use Rattle.df_lang.specs.Values.{point_of}
use Rattle.df_lang.specs.Sources.{source}
use Rattle.df_lang.specs.Canonical.{point_text, block_text, canonical}

-- the canonical lines of a problem, each ended by a line feed, are a source that states the problem
abbrev pub CanonicalLinesReadBack : Type 0
CanonicalLinesReadBack = (s : Stated) → IsStated s → source (text_of (canonical s)) ≡ Ok s

-- no canonical line of a problem has a line feed
abbrev pub CanonicalLinesAreLines : Type 0
CanonicalLinesAreLines = (s : Stated) → IsStated s → Each (Lacks is_line_feed) (canonical s)

-- the text of a point is a token, which names the point
pub record PointReadsBack (s : Stated) (p : ℕ) : Type 0 where
  pub token : IsToken (point_text s.group p)
  pub point : point_of s.group s.fixed (point_text s.group p) ≡ Some p

-- a block's text has no line feed, and its tokens are the texts of the points, and name the points, in their order
pub record BlockReadsBack (s : Stated) (block : List ℕ) : Type 0 where
  pub line : Lacks is_line_feed (block_text s.group block)
  pub each : Each (PointReadsBack s) block
  pub tokens : tokens_of (block_text s.group block) ≡ map (point_text s.group) block
  pub points : map (point_of s.group s.fixed) (tokens_of (block_text s.group block)) ≡ map Some block

-- the blocks of a problem are read from their texts
abbrev pub PointsReadBack : Type 0
PointsReadBack = (s : Stated) → IsStated s → (block : List ℕ) → IsBlock (point_count s) s.sizes block → BlockReadsBack s block
