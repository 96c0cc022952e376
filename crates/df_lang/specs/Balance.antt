-- Balance: the definition of a design, by lists of blocks and counts alone.
use Rattle.std.specs.Prelude.{◌≡◌, ℕ, ◌<◌, Bool, ◌&&◌, List, count_by}
use Rattle.df_lists.specs.NumberSets.{has_member}
use Rattle.df_lang.specs.Problems.{Stated, point_count}
use Rattle.df_lang.specs.Targets.{target}

-- the block holds both points
abbrev pub holds_both : List ℕ → ℕ → ℕ → Bool
holds_both block p q = has_member block p && has_member block q

-- how many entries of a list of blocks hold both points, repeats counted
abbrev pub cover : List (List ℕ) → ℕ → ℕ → ℕ
cover blocks p q = count_by (λ block. holds_both block p q) blocks

-- each two points lie together in as many blocks as their target says
abbrev pub IsBalanced : Stated → List (List ℕ) → Type 0
IsBalanced s blocks = (p q : ℕ) → p < q → q < point_count s → cover blocks p q ≡ target s p q
