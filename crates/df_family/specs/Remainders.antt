-- What remains of a development.
use Rattle.std.specs.Prelude.{◌≡◌, ℕ, ◌-◌, ◌<◌, ◌≤◌, Bool, true, ◌&&◌, List, [], ◌∷◌, ◌++◌, map, filter, length, drop, ⊤}
use Rattle.std.specs.List.{range_with_len, flat_map}
use Rattle.df_lists.specs.NumberSets.{has_member}
use Rattle.df_group.specs.Elements.{order_of}
use Rattle.df_group.specs.Subgroups.{IsSubgroup}
use Rattle.df_lang.specs.declared.pieces.Kind.{Kind}
use Rattle.df_lang.specs.declared.pieces.Kind.TheVariants as kinds
use Rattle.df_lang.specs.declared.pieces.Member.{Member}
use Rattle.df_lang.specs.Problems.{Stated}
use Rattle.df_family.specs.Translates.{translate, fixes}
use Rattle.df_family.specs.Developments.{is_listed, translates_under}

-- whether g is one of the shifts and its translate is listed
abbrev pub is_listed_shift : Stated → List ℕ → Kind → List ℕ → ℕ → Bool
is_listed_shift s shifts kind block g = has_member shifts g && is_listed s shifts kind block g

-- the translates of these members, of the first of them only those by g and later elements
abbrev pub rest_from : Stated → List ℕ → List Member → ℕ → List (List ℕ)
rest_from s shifts [] g = []
rest_from s shifts (m ∷ ms) g =
    map (translate s m.block) (filter (is_listed_shift s shifts m.kind m.block) (range_with_len g (order_of s.group - g))) ++ flat_map (translates_under s shifts) ms

-- these are the shifts that fix the block, where it is short
abbrev pub IsFixing : Stated → List ℕ → Kind → List ℕ → List ℕ → Type 0
IsFixing s shifts kinds.Base block fixing = ⊤
IsFixing s shifts kinds.Short block fixing = fixing ≡ filter (fixes s block) shifts

-- the same of the first member
abbrev pub IsFixingOf : Stated → List ℕ → List Member → List ℕ → Type 0
IsFixingOf s shifts [] fixing = ⊤
IsFixingOf s shifts (m ∷ ms) fixing = IsFixing s shifts m.kind m.block fixing

-- the translate of the first member by g is listed
abbrev pub IsListedOf : Stated → List ℕ → List Member → ℕ → Type 0
IsListedOf s shifts [] g = ⊤
IsListedOf s shifts (m ∷ ms) g = is_listed_shift s shifts m.kind m.block g ≡ true

-- a place in the development under a subgroup: at a translate of a member that is listed, or at the end
pub record IsPlace (s : Stated) (shifts : List ℕ) (member shift : ℕ) (fixing : List ℕ) : Type 0 where
  pub subgroup : IsSubgroup s.group shifts
  pub within : member ≤ length s.family
  pub below : shift < order_of s.group
  pub listed : IsListedOf s shifts (drop member s.family) shift
  pub fixes : IsFixingOf s shifts (drop member s.family) fixing
