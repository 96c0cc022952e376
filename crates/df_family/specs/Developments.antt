-- The development of a family: the translates of its blocks by all elements of the group, or by those of a subgroup. Of a short block each
-- translate is listed once.
use Rattle.std.specs.Prelude.{ℕ, Bool, true, not, ◌&&◌, List, [], ◌∷◌, map, filter, nat_lt}
use Rattle.std.specs.List.{flat_map, list_any}
use Rattle.df_subsets.specs.Subsets.{same_list}
use Rattle.df_lang.specs.declared.pieces.Kind.{Kind}
use Rattle.df_lang.specs.declared.pieces.Kind.TheVariants as kinds
use Rattle.df_lang.specs.declared.pieces.Member.{Member}
use Rattle.df_lang.specs.Problems.{Stated}
use Rattle.df_family.specs.Translates.{elements, translate, same_translate}

-- whether the translate by g is listed: of a short block only where no lower one of the shifts gives the same one
abbrev pub is_listed : Stated → List ℕ → Kind → List ℕ → ℕ → Bool
is_listed s shifts kinds.Base block g = true
is_listed s shifts kinds.Short block g = not (list_any (λ h. nat_lt h g && same_translate s block h g) shifts)

-- a list of blocks, of which each stays only where it first occurs
abbrev pub first_occurrences : List (List ℕ) → List (List ℕ)
first_occurrences [] = []
first_occurrences (b ∷ bs) = b ∷ filter (λ c. not (same_list c b)) (first_occurrences bs)

-- the translates of a member by these elements, in order
abbrev pub translates_under : Stated → List ℕ → Member → List (List ℕ)
translates_under s shifts m = map (translate s m.block) (filter (is_listed s shifts m.kind m.block) shifts)

-- the translates of a member, in order
abbrev pub translates : Stated → Member → List (List ℕ)
translates s m = translates_under s (elements s) m

-- the translates of all members by these elements, in their order
abbrev pub develop_under : Stated → List ℕ → List (List ℕ)
develop_under s shifts = flat_map (translates_under s shifts) s.family

-- the translates of all members, in their order
abbrev pub develop : Stated → List (List ℕ)
develop s = develop_under s (elements s)
