-- Where a list differs from the one that is wanted.
use Rattle.std.specs.Prelude.{ℕ, suc, Bool, false, if◌then◌else◌, List, [], ◌∷◌, Option, Some, None, pos, slice_get}
use Rattle.df_check.specs.declared.LogFault.{LogFault}
use Rattle.df_check.specs.declared.LogFault.TheVariants.{DesignDiffers}

-- a decision is yes
abbrev pub is_yes : Option Bool → Bool
is_yes None = false
is_yes (Some b) = b

abbrev pub one_later : Option ℕ → Option ℕ
one_later None = None
one_later (Some place) = Some (suc place)

-- how many members two lists have in common from the first on, where they aren't the same list; the test says which members are
-- the same
abbrev pub difference : {X : Type 0} → (X → X → Bool) → List X → List X → Option ℕ
difference same [] [] = None
difference same [] (y ∷ ys) = Some 0
difference same (x ∷ xs) [] = Some 0
difference same (x ∷ xs) (y ∷ ys) = if same x y then one_later (difference same xs ys) else Some 0

abbrev pub is_same : {X : Type 0} → (X → X → Bool) → Option X → X → Bool
is_same same None y = false
is_same same (Some x) y = same x y

-- whether a member stands at a place of a list
abbrev pub stands_at : {X : Type 0} → (X → X → Bool) → List X → ℕ → X → Bool
stands_at same xs place y = is_same same (slice_get xs place) y

abbrev pub difference_fault : Option ℕ → Option LogFault
difference_fault None = None
difference_fault (Some place) = Some (DesignDiffers (pos place))
