-- A problem as numbers and lists, and the rules that it keeps.
use Rattle.std.specs.Prelude.{◌≡◌, ◌≢◌, ℕ, ◌+◌, ◌<◌, ◌≤◌, true, false, List, [], length, All, Option, IfSome, ⊤, ◌⊎◌}
use Rattle.std.specs.List.{AllPairs}
use Rattle.df_lists.specs.NumberSets.{has_member, IsSet}
use Rattle.df_group.specs.Elements.{order_of, IsShape}
use Rattle.df_group.specs.Subgroups.{exponent_of, is_unit, IsSubgroup}
use Rattle.df_lang.specs.declared.pieces.Which.{Which}
use Rattle.df_lang.specs.declared.pieces.Which.TheVariants as which
use Rattle.df_lang.specs.declared.pieces.Inside.{Inside}
use Rattle.df_lang.specs.declared.pieces.Member.{Member}
use Rattle.df_lang.specs.declared.problem.TheConstants.{MOST_TARGET, MOST_BLOCKS, NAMES_LIMIT}
use Rattle.df_lang.specs.Names.{is_name, is_reserved}

-- a name and the members of its subgroup
abbrev pub Named : Type 0
Named = List ℕ × List ℕ

-- what a source states
pub record Stated : Type 0 where
  pub version : ℕ
  pub group : List ℕ
  pub fixed : ℕ
  pub names : List Named
  pub shift : Which
  pub mults : List ℕ
  pub sizes : List ℕ
  pub lambda : ℕ
  pub inside : Option Inside
  pub hole : ℕ
  pub family : List Member
  pub required : List (List ℕ)
  pub forbidden : List (List ℕ)

-- the number of points: the elements, and then the fixed points
abbrev pub point_count : Stated → ℕ
point_count p = order_of p.group + p.fixed

abbrev pub IsTarget : ℕ → Type 0
IsTarget n = n ≤ MOST_TARGET

-- the name and the subgroup of a line of its own
pub record IsNamed (fs : List ℕ) (named : Named) : Type 0 where
  pub name : is_name named.0 ≡ true
  pub free : is_reserved named.0 ≡ false
  pub subgroup : IsSubgroup fs named.1

abbrev pub DifferInName : Named → Named → Type 0
DifferInName m n = m.0 ≢ n.0

-- a subgroup name names a subgroup that is there
abbrev pub IsSubgroupName : List Named → Which → Type 0
IsSubgroupName names which.All = ⊤
IsSubgroupName names which.Trivial = ⊤
IsSubgroupName names (which.Named i) = i < length names

pub record IsInside (names : List Named) (inside : Inside) : Type 0 where
  pub subgroup : IsSubgroupName names inside.subgroup
  pub target : IsTarget inside.target

-- a multiplier: below the exponent and prime to it
pub record IsMultiplier (fs : List ℕ) (m : ℕ) : Type 0 where
  pub below : m < exponent_of fs
  pub unit : is_unit (exponent_of fs) m ≡ true

pub record IsSize (v : ℕ) (k : ℕ) : Type 0 where
  pub low : 2 ≤ k
  pub high : k ≤ 16
  pub fits : k ≤ v

-- a block of the points below v, of one of the sizes
pub record IsBlock (v : ℕ) (sizes : List ℕ) (block : List ℕ) : Type 0 where
  pub set : IsSet v block
  pub size : has_member sizes (length block) ≡ true

-- in version 1 there is one size, and no block is required or forbidden
pub record IsFirstVersion (p : Stated) : Type 0 where
  pub sizes : length p.sizes ≡ 1
  pub required : p.required ≡ []
  pub forbidden : p.forbidden ≡ []

-- the rules that each problem keeps
pub record IsStated (p : Stated) : Type 0 where
  pub version : (p.version ≡ 1) ⊎ (p.version ≡ 2)
  pub shape : IsShape p.group
  pub fixed : p.fixed ≤ 16
  pub points : point_count p ≤ 128
  pub names : All (IsNamed p.group) p.names
  pub apart : AllPairs DifferInName p.names
  pub few_names : length p.names < NAMES_LIMIT
  pub shift : IsSubgroupName p.names p.shift
  pub mults : All (IsMultiplier p.group) p.mults
  pub mults_once : AllPairs (λ m n. m ≢ n) p.mults
  pub some_size : 0 < length p.sizes
  pub sizes : All (IsSize (point_count p)) p.sizes
  pub sizes_rise : IsSet 17 p.sizes
  pub lambda : IsTarget p.lambda
  pub inside : IfSome p.inside (IsInside p.names)
  pub hole : IsTarget p.hole
  pub family : All (λ m. IsBlock (point_count p) p.sizes m.block) p.family
  pub few_blocks : length p.family ≤ MOST_BLOCKS
  pub required : All (IsBlock (point_count p) p.sizes) p.required
  pub forbidden : All (IsBlock (point_count p) p.sizes) p.forbidden
  pub few_stated : length p.required + length p.forbidden ≤ MOST_BLOCKS
  pub first_version : p.version ≡ 1 → IsFirstVersion p
