-- What is counted: the pairs that the shifts carry to a pair, and the blocks of a family with what each is divided by.
use Rattle.std.specs.Prelude.{◌<◌, ◌/◌, ℕ, List, map, count_by, sum_by}
use Rattle.df_group.specs.Elements.{group_of, shifted}
use Rattle.df_lang.specs.declared.pieces.Kind.{Kind}
use Rattle.df_lang.specs.declared.pieces.Kind.TheVariants as kinds
use Rattle.df_lang.specs.declared.pieces.Member.{Member}
use Rattle.df_lang.specs.Problems.{Stated}
use Rattle.df_lang.specs.Balance.{holds_both}
use Rattle.df_family.specs.Translates.{stabilizer_under}
use Rattle.df_mixed.specs.declared.blocks.Counted.{Counted}

-- the point that g carries to p
abbrev pub origin_of : Stated → ℕ → ℕ → ℕ
origin_of s p g = shifted (group_of s.group) ((group_of s.group).neg g) p

-- for each shift the points that it carries to p and to q
abbrev pub origins_of : Stated → List ℕ → ℕ → ℕ → List (ℕ × ℕ)
origins_of s shifts p q = map (λ g. (origin_of s p g, origin_of s q g)) shifts

-- a base block counts whole, a short one is divided by the number of shifts that fix it
abbrev pub divisor_of : Stated → List ℕ → Kind → List ℕ → ℕ
divisor_of s shifts kinds.Base block = 1
divisor_of s shifts kinds.Short block = stabilizer_under s shifts block

abbrev pub counted : Stated → List ℕ → Member → Counted
counted s shifts m = record { block = m.block; divisor = divisor_of s shifts m.kind m.block }

-- a block that is divided by some number
abbrev pub IsDivisor : Counted → Type 0
IsDivisor c = 0 < c.divisor

-- what a block adds, where it holds some of these pairs
abbrev pub share : List (ℕ × ℕ) → Counted → ℕ
share origins c = count_by (λ o. holds_both c.block o.0 o.1) origins / c.divisor

abbrev pub shares : List (ℕ × ℕ) → List Counted → ℕ
shares origins blocks = sum_by (share origins) blocks
