-- Design lines, both ways.
use Rattle.std.specs.Prelude.{◌==◌, ℕ, ◌+◌, ◌&&◌, Bool, true, nat_le, List, [], ◌∷◌, ◌++◌, length, if◌then◌else◌, Option, Some, None, codes, bytes_eq}
use Rattle.std.specs.List.{slice_split}
use Rattle.df_io.specs.Lines.{tokens_of}
use Rattle.df_lists.specs.NumberSets.{has_member}
use Rattle.df_lang.specs.Problems.{Stated}
use Rattle.df_lang.specs.Values.{point_of}
use Rattle.df_lang.specs.Canonical.{block_text}
use Rattle.df_dossier.specs.Tokens.{◌>>?◌, values_of}
use Rattle.df_dossier.specs.Paths.{past}

-- what stands before the block at a place: a space, and from the second one on `;` between spaces
abbrev pub before_block : ℕ → List ℕ
before_block place = if place == 0 then 32 ∷ [] else codes " ; "

-- the block at a place of a design line
abbrev pub block_piece : List ℕ → List ℕ → ℕ → List ℕ
block_piece fs block place = before_block place ++ block_text fs block

-- the blocks of a design line from a place on
abbrev pub block_pieces : List ℕ → ℕ → List (List ℕ) → List ℕ
block_pieces fs place [] = []
block_pieces fs place (block ∷ blocks) = block_piece fs block place ++ block_pieces fs (place + 1) blocks

-- the line of a design: its word, and its blocks in order
abbrev pub design_text : List ℕ → List (List ℕ) → List ℕ
design_text fs blocks = codes "design" ++ block_pieces fs 0 blocks

-- the token that stands between two blocks
abbrev pub is_separator : List ℕ → Bool
is_separator token = bytes_eq token (codes ";")

-- the numbers increase, and the first is at least `low`
abbrev pub rises_from : ℕ → List ℕ → Bool
rises_from low [] = true
rises_from low (p ∷ ps) = nat_le low p && rises_from (p + 1) ps

-- the block of these points, which increase and are as many as one of the sizes says
abbrev pub block_with : Stated → List ℕ → Option (List ℕ)
block_with s points = if rises_from 0 points && has_member s.sizes (length points) then Some points else None

-- the block that these tokens are, each one a point
abbrev pub block_read : Stated → List (List ℕ) → Option (List ℕ)
block_read s tokens = values_of (point_of s.group s.fixed) tokens >>? block_with s

-- the blocks of these tokens: none where there is no token, and else those that stand between the separators
abbrev pub blocks_read : Stated → List (List ℕ) → Option (List (List ℕ))
blocks_read s [] = Some []
blocks_read s (token ∷ tokens) = values_of (block_read s) (slice_split is_separator (token ∷ tokens))

-- the blocks of a design line by its tokens
abbrev pub design_read : Stated → List (List ℕ) → Option (List (List ℕ))
design_read s tokens = past (codes "design") tokens >>? blocks_read s

-- the blocks of a design line of this problem
abbrev pub design_of : Stated → List ℕ → Option (List (List ℕ))
design_of s line = design_read s (tokens_of line)
