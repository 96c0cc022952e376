-- The difference table: how often each kind of pair is found in a family, and how often that is stated.
use Rattle.std.specs.Prelude.{◌≡◌, ◌==◌, ℕ, ◌<◌, ◌≤◌, ◌+◌, ◌-◌, ◌/◌, Bool, not, List, ◌++◌, map, filter, length, sum_by, count_by, get_or, if◌then◌else◌}
use Rattle.std.specs.List.{range_with_len, flat_map}
use Rattle.df_lists.specs.Membership.{In}
use Rattle.df_lists.specs.NumberSets.{has_member}
use Rattle.df_group.specs.Elements.{order_of, group_of, minus}
use Rattle.df_lang.specs.declared.pieces.Kind.{Kind}
use Rattle.df_lang.specs.declared.pieces.Kind.TheVariants as kinds
use Rattle.df_lang.specs.declared.pieces.Member.{Member}
use Rattle.df_lang.specs.Problems.{Stated}
use Rattle.df_lang.specs.Targets.{is_finite, target}
use Rattle.df_lang.specs.Balance.{holds_both}
use Rattle.df_family.specs.declared.table.Row.{Row}
use Rattle.df_family.specs.declared.table.Row.TheVariants.{Diff, WithFixed, TwoFixed}
use Rattle.df_family.specs.declared.table.Entry.{Entry}
use Rattle.df_family.specs.Translates.{stabilizer}

-- the point that is the fixed point of this number, from 1
abbrev pub fixed_point : Stated → ℕ → ℕ
fixed_point s i = order_of s.group + (i - 1)

-- a fixed point that is stated, by its number from 1
abbrev pub IsFixed : Stated → ℕ → Type 0
IsFixed s i = (1 ≤ i) × (i ≤ s.fixed)

-- a row of a problem: of an element of its group, or of its fixed points
abbrev pub IsRow : Stated → Row → Type 0
IsRow s (Diff d) = d < order_of s.group
IsRow s (WithFixed i) = IsFixed s i
IsRow s (TwoFixed i j) = IsFixed s i × IsFixed s j

-- a row for each element but 0
abbrev pub differences : Stated → List Row
differences s = map Diff (range_with_len 1 (order_of s.group - 1))

-- a row for each fixed point
abbrev pub singles : Stated → List Row
singles s = map WithFixed (range_with_len 1 s.fixed)

-- a row for each fixed point after this one
abbrev pub pairs_of : Stated → ℕ → List Row
pairs_of s i = map (TwoFixed i) (range_with_len (i + 1) (s.fixed - i))

-- a row for each two fixed points, the lower one first
abbrev pub pairs : Stated → List Row
pairs s = flat_map (pairs_of s) (range_with_len 1 s.fixed)

abbrev pub rows : Stated → List Row
rows s = differences s ++ (singles s ++ pairs s)

-- the points of a block that are elements
abbrev pub finite_points : Stated → List ℕ → List ℕ
finite_points s block = filter (is_finite s) block

-- how often a block has a row: the pairs a, b of its elements with a - b = d; its elements, where it holds the fixed point;
-- and as often as there are elements, where it holds both fixed points
abbrev pub occurs : Stated → Row → List ℕ → ℕ
occurs s (Diff d) block = sum_by (λ b. count_by (λ a. minus (group_of s.group) a b == d) (finite_points s block)) (finite_points s block)
occurs s (WithFixed i) block = if has_member block (fixed_point s i) then length (finite_points s block) else 0
occurs s (TwoFixed i j) block = if holds_both block (fixed_point s i) (fixed_point s j) then order_of s.group else 0

-- what a block adds to a row: a short one its number divided by that of the translations that fix it
abbrev pub summand_of : Stated → Row → Kind → List ℕ → ℕ
summand_of s row kinds.Base block = occurs s row block
summand_of s row kinds.Short block = occurs s row block / stabilizer s block

abbrev pub summand : Stated → Row → Member → ℕ
summand s row m = summand_of s row m.kind m.block

-- how often a row is found in the family
abbrev pub found : Stated → Row → ℕ
found s row = sum_by (summand s row) s.family

-- how often a row is stated: the target of a pair of that kind
abbrev pub stated : Stated → Row → ℕ
stated s (Diff d) = target s 0 d
stated s (WithFixed i) = target s 0 (fixed_point s i)
stated s (TwoFixed i j) = target s (fixed_point s i) (fixed_point s j)

-- each row is found as often as is stated
abbrev pub IsAsStated : Stated → Type 0
IsAsStated s = (row : Row) → In (rows s) row → found s row ≡ stated s row

-- the table: each row with its two numbers
abbrev pub entry : Stated → Row → Entry
entry s row = record { row = row; found = found s row; stated = stated s row }

abbrev pub table : Stated → List Entry
table s = map (entry s) (rows s)

-- the entry at a place of a table
abbrev pub entry_at : List Entry → ℕ → Entry
entry_at entries place = get_or entries place record { row = Diff 0; found = 0; stated = 0 }

-- whether the two numbers differ
abbrev pub is_wrong : Entry → Bool
is_wrong e = not (e.found == e.stated)
