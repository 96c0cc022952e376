-- The blocks of a design line, as they are read one token after the other.
use Rattle.std.specs.Prelude.{ℕ, ◌+◌, List, [], ◌∷◌, ◌++◌, if◌then◌else◌, Option, Some, None, option_map}
use Rattle.std.specs.List.{slice_split}
use Rattle.df_lang.specs.Problems.{Stated}
use Rattle.df_lang.specs.Values.{point_of}
use Rattle.df_dossier.specs.Tokens.{◌>>?◌, values_of}
use Rattle.df_dossier.specs.Designs.{is_separator, rises_from, block_with, block_read}

-- the whole blocks so far, and the points so far of the next one
pub record Drafted : Type 0 where
  pub blocks : List (List ℕ)
  pub points : List ℕ

-- the least number that may follow points that increase from `low` on
abbrev pub least_after : ℕ → List ℕ → ℕ
least_after low [] = low
least_after low (p ∷ ps) = least_after (p + 1) ps

-- the points so far with the one of this token, which has to be after them
abbrev pub with_point : Stated → List ℕ → List ℕ → Option (List ℕ)
with_point s points token = point_of s.group s.fixed token >>? λ p. if rises_from 0 (points ++ p ∷ []) then Some (points ++ p ∷ []) else None

-- the blocks of these slices, of which the first goes on from the points so far
abbrev pub blocks_after : Stated → List ℕ → List (List (List ℕ)) → Option (List (List ℕ))
blocks_after s points [] = None
blocks_after s points (slice ∷ slices) =
    values_of (point_of s.group s.fixed) slice >>? λ more. block_with s (points ++ more) >>? λ block. option_map (λ blocks. block ∷ blocks) (values_of (block_read s) slices)

-- all blocks, where these tokens follow
abbrev pub drafted : Stated → Drafted → List (List ℕ) → Option (List (List ℕ))
drafted s d tokens = option_map (λ blocks. d.blocks ++ blocks) (blocks_after s d.points (slice_split is_separator tokens))
