-- First occurrences among the translates of a block.
use Rattle.std.proofs.Common.{◌≡◌, ℕ, Bool, true, false, cond, not, ◌&&◌, ◌||◌, nat_lt, List, [], ◌∷◌, map, filter, refl, sym, ap, ◌∙◌, inl, inr, arith, tests}
use Rattle.std.specs.List.{list_any}
use Rattle.std.proofs.lemmas.Slice.Eq.{bytes_eq-Decides}
use Rattle.std.proofs.lemmas.Bool.Decides.{same_from_decides}
use Rattle.df_lists.specs.Membership.{In}
use Rattle.df_lists.specs.Orders.{IsSorted}
use Rattle.df_lists.proofs.TestLaws.{filter_agree}
use Rattle.df_subsets.specs.Subsets.{same_list}
use Rattle.df_lang.specs.declared.pieces.Kind.TheVariants as kinds
use Rattle.df_lang.specs.Problems.{Stated}
use Rattle.df_family.specs.Translates.{translate, same_translate}
use Rattle.df_family.specs.Developments.{first_occurrences, is_listed}
use Rattle.df_family.specs.FamilyLaws.{OccurrenceLaw}
use Rattle.df_family.proofs.ShiftLaws.{filter_filter}

filter_map : (t : List ℕ → Bool) (f : ℕ → List ℕ) (xs : List ℕ) → filter t (map f xs) ≡ map f (filter (λ x. t (f x)) xs)
filter_map t f [] = refl
filter_map t f (x ∷ xs) =
    let ih = filter_map t f xs in
    elim (t (f x)) as (λ v. cond v (f x ∷ filter t (map f xs)) (filter t (map f xs)) ≡ map f (cond v (x ∷ filter (λ x. t (f x)) xs) (filter (λ x. t (f x)) xs))) [
      | true ↦ ap (λ l. f x ∷ l) ih
      | false ↦ ih
    ]

none_passes : (t : ℕ → Bool) (xs : List ℕ) → ((x : ℕ) → In xs x → t x ≡ false) → list_any t xs ≡ false
none_passes t [] h = refl
none_passes t (x ∷ xs) h = rw (h x (inl refl)) (none_passes t xs (λ y i. h y (inr i)))

module _ (s : Stated) (block : List ℕ) where
  turned : (g h : ℕ) → same_translate s block g h ≡ same_translate s block h g
  turned g h =
      same_from_decides (same_translate s block g h) (same_translate s block h g) (bytes_eq-Decides (translate s block g) (translate s block h))
      (let at = bytes_eq-Decides (translate s block h) (translate s block g) in (λ e. sym (at.0 e), λ e. at.1 (sym e)))

  neither : (x y : Bool) → (not x && not y) ≡ not (y || x)
  neither true true = refl
  neither true false = refl
  neither false true = refl
  neither false false = refl

  -- a later shift is listed where it is listed without the first one, and doesn't give the translate of that one
  listed_on : (a g : ℕ) (rest : List ℕ) → nat_lt a g ≡ true → (is_listed s rest kinds.Short block g && not (same_translate s block g a)) ≡ is_listed s (a ∷ rest) kinds.Short block g
  listed_on a g rest e =
      neither (list_any (λ h. nat_lt h g && same_translate s block h g) rest) (same_translate s block g a)
      ∙ ap (λ v. not (v || list_any (λ h. nat_lt h g && same_translate s block h g) rest)) (turned g a ∙ sym (ap (λ v. v && same_translate s block a g) e))

  -- the first shift is listed
  listed_here : (a : ℕ) (rest : List ℕ) → ((g : ℕ) → In rest g → nat_lt a g ≡ true) → is_listed s (a ∷ rest) kinds.Short block a ≡ true
  listed_here a rest later =
      let self : nat_lt a a ≡ false = grind (arith, tests) in
      ap not (none_passes (λ h. nat_lt h a && same_translate s block h a) (a ∷ rest) not_lower)
    where
      not_lower : (h : ℕ) → In (a ∷ rest) h → (nat_lt h a && same_translate s block h a) ≡ false
      not_lower h (inl e) = let no : nat_lt h a ≡ false = grind (arith, tests) in rw no refl
      not_lower h (inr i) = let l = later h i in let no : nat_lt h a ≡ false = grind (arith, tests) in rw no refl

  occurrences_of : (shifts : List ℕ) → IsSorted nat_lt shifts → first_occurrences (map (translate s block) shifts) ≡ map (translate s block) (filter (is_listed s shifts kinds.Short block) shifts)
  occurrences_of [] sorted = refl
  occurrences_of (a ∷ rest) sorted =
      let f = translate s block in
      let other : List ℕ → Bool = λ c. not (same_list c (f a)) in
      let L = is_listed s (a ∷ rest) kinds.Short block in
      let M = is_listed s rest kinds.Short block in
      ap (λ l. f a ∷ filter other l) (occurrences_of rest sorted.1)
      ∙ ap (λ l. f a ∷ l)
      (filter_map other f (filter M rest)
      ∙ ap (map f) (filter_filter (λ g. other (f g)) M rest ∙ filter_agree (λ g. M g && other (f g)) L rest (λ g i. listed_on a g rest (sorted.0 g i))))
      ∙ sym (ap (λ v. map f (cond v (a ∷ filter L rest) (filter L rest))) (listed_here a rest sorted.0))

pub occurrences : OccurrenceLaw
occurrences s shifts block sorted = sym (occurrences_of s block shifts sorted)
