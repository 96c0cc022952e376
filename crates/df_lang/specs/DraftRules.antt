-- The rules that what stands above a line keeps.
use Rattle.std.specs.Prelude.{◌≡◌, ◌≢◌, ℕ, ◌+◌, ◌<◌, ◌≤◌, ◌⊎◌, true, List, [], length, All, Option, IfSome, is_some, unwrap_or}
use Rattle.std.specs.List.{AllPairs}
use Rattle.df_lists.specs.NumberSets.{IsSet}
use Rattle.df_group.specs.Elements.{order_of, IsShape}
use Rattle.df_lang.specs.declared.pieces.Member.{Member}
use Rattle.df_lang.specs.declared.problem.TheConstants.{MOST_BLOCKS}
use Rattle.df_lang.specs.Problems.{Named, IsNamed, DifferInName, IsSubgroupName, IsInside, IsMultiplier, IsSize, IsTarget, IsBlock}
use Rattle.df_lang.specs.StandsAbove.{Above, nothing, fixed_of, version_of}

abbrev pub shape_above : Above → List ℕ
shape_above a = unwrap_or a.group []

abbrev pub sizes_above : Above → List ℕ
sizes_above a = unwrap_or a.sizes []

abbrev pub points_above : Above → ℕ
points_above a = order_of (shape_above a) + fixed_of a

abbrev pub IsVersion : ℕ → Type 0
IsVersion version = (version ≡ 1) ⊎ (version ≡ 2)

pub record NamesKept (fs : List ℕ) (names : List Named) : Type 0 where
  pub each : All (IsNamed fs) names
  pub apart : AllPairs DifferInName names

pub record MultsKept (fs ms : List ℕ) : Type 0 where
  pub each : All (IsMultiplier fs) ms
  pub once : AllPairs (λ m n. m ≢ n) ms

pub record SizesKept (version v : ℕ) (ks : List ℕ) : Type 0 where
  pub some : 0 < length ks
  pub each : All (IsSize v) ks
  pub rise : IsSet 17 ks
  pub one : version ≡ 1 → length ks ≡ 1

pub record BlocksKept (version v : ℕ) (ks : List ℕ) (ms : List Member) (rs ns : List (List ℕ)) : Type 0 where
  pub family : All (λ m. IsBlock v ks m.block) ms
  pub few : length ms ≤ MOST_BLOCKS
  pub required : All (IsBlock v ks) rs
  pub forbidden : All (IsBlock v ks) ns
  pub few_stated : length rs + length ns ≤ MOST_BLOCKS
  pub none_required : version ≡ 1 → rs ≡ []
  pub none_forbidden : version ≡ 1 → ns ≡ []

pub record HeadKept (version : Option ℕ) (group : Option (List ℕ)) (fixed : Option ℕ) : Type 0 where
  pub version_stated : is_some version ≡ true
  pub group_stated : is_some group ≡ true
  pub version_is : IsVersion (unwrap_or version 1)
  pub shape : IsShape (unwrap_or group [])
  pub few_fixed : unwrap_or fixed 0 ≤ 16
  pub points : order_of (unwrap_or group []) + unwrap_or fixed 0 ≤ 128

-- from the line of the group on
pub record Keeps (a : Above) : Type 0 where
  pub head : HeadKept a.version a.group a.fixed
  pub names : NamesKept (shape_above a) a.names
  pub shift : IfSome a.shift (IsSubgroupName a.names)
  pub mults : IfSome a.mults (MultsKept (shape_above a))
  pub sizes : IfSome a.sizes (SizesKept (version_of a) (points_above a))
  pub lambda : IfSome a.lambda IsTarget
  pub inside : IfSome a.inside (IsInside a.names)
  pub hole : IfSome a.hole IsTarget
  pub blocks : BlocksKept (version_of a) (points_above a) (sizes_above a) a.family a.required a.forbidden

-- above the line of the group
pub record IsEarly (a : Above) : Type 0 where
  pub bare : a ≡ record nothing { version = a.version }
  pub version : IfSome a.version IsVersion

-- above any line
abbrev pub StandsKept : Above → Type 0
StandsKept a = IsEarly a ⊎ Keeps a
