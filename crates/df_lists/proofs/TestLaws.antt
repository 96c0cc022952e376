-- Tests over the members of lists, and what a test picks.
use Rattle.std.proofs.Common.{◌≡◌, ℕ, Bool, true, false, cond, ◌&&◌, List, [], ◌∷◌, map, filter, refl, sym, ap, ◌∙◌, subst, inl, inr, ◌⊎◌, eqb, eq-eqb, eqb-true, ◌||◌, ◌+◌, ◌<◌, length, take, get_or}
use Rattle.std.specs.List.{list_any, list_all}
use Rattle.std.proofs.lemmas.Bool.{false≢true, or_cases, or_left, or_right, or_parts, and_parts, and_from}
use Rattle.std.proofs.lemmas.List.{take_more}
use Rattle.std.proofs.lemmas.List.Folds.{list_any-append}
use Rattle.df_lists.specs.Membership.{In}
use Rattle.df_lists.specs.NumberSets.{has_member}

-- two tests that are true together
pub same_tests : (a b : Bool) → (a ≡ true → b ≡ true) → (b ≡ true → a ≡ true) → a ≡ b
same_tests true true f g = refl
same_tests false false f g = refl
same_tests true false f g = sym (f refl)
same_tests false true f g = g refl

-- none of three tests
pub none_of_three : (a b c : Bool) → (a || b || c) ≡ false → (a ≡ false) × (b ≡ false) × (c ≡ false)
none_of_three a b c h =
    let last = or_parts (a || b) c h in
    let earlier = or_parts a b last.0 in
    (earlier.0, earlier.1, last.1)

pub any_from : {X : Type 0} (t : X → Bool) (xs : List X) (x : X) → In xs x → t x ≡ true → list_any t xs ≡ true
any_from t [] x i h = absurd i
any_from t (y ∷ ys) x (inl e) h = or_left (t y) (list_any t ys) (ap t e ∙ h)
any_from t (y ∷ ys) x (inr i) h = or_right (t y) (list_any t ys) (any_from t ys x i h)

pub any_gives : {X : Type 0} (t : X → Bool) (xs : List X) → list_any t xs ≡ true → (x : X) × In xs x × (t x ≡ true)
any_gives t [] h = absurd (false≢true h)
any_gives {X = X} t (y ∷ ys) h = go (or_cases (t y) (list_any t ys) h) (any_gives t ys)
  where
    go : (t y ≡ true) ⊎ (list_any t ys ≡ true) → (list_any t ys ≡ true → (x : X) × In ys x × (t x ≡ true)) → (x : X) × In (y ∷ ys) x × (t x ≡ true)
    go (inl e) more = (y, inl refl, e)
    go (inr e) more = let r = more e in (r.0, inr r.1, r.2)

pub all_from : {X : Type 0} (t : X → Bool) (xs : List X) → ((x : X) → In xs x → t x ≡ true) → list_all t xs ≡ true
all_from t [] h = refl
all_from t (x ∷ xs) h = and_from (t x) (list_all t xs) (h x (inl refl)) (all_from t xs (λ y i. h y (inr i)))

pub all_gives : {X : Type 0} (t : X → Bool) (xs : List X) → list_all t xs ≡ true → (x : X) → In xs x → t x ≡ true
all_gives t [] h x i = absurd i
all_gives t (y ∷ xs) h x (inl e) = sym (ap t e) ∙ (and_parts (t y) (list_all t xs) h).0
all_gives t (y ∷ xs) h x (inr i) = all_gives t xs (and_parts (t y) (list_all t xs) h).1 x i

pub filter_agree : {X : Type 0} (s t : X → Bool) (xs : List X) → ((x : X) → In xs x → s x ≡ t x) → filter s xs ≡ filter t xs
filter_agree s t [] h = refl
filter_agree s t (x ∷ xs) h = rw (h x (inl refl), filter_agree s t xs (λ y i. h y (inr i))) refl

pub map_agree : {X Y : Type 0} (f g : X → Y) (xs : List X) → ((x : X) → In xs x → f x ≡ g x) → map f xs ≡ map g xs
map_agree f g [] h = refl
map_agree f g (x ∷ xs) h = rw (h x (inl refl), map_agree f g xs (λ y i. h y (inr i))) refl

pub map_fixed : {X : Type 0} (f : X → X) (xs : List X) → ((x : X) → In xs x → f x ≡ x) → map f xs ≡ xs
map_fixed f [] h = refl
map_fixed f (x ∷ xs) h = rw (h x (inl refl), map_fixed f xs (λ y i. h y (inr i))) refl

pub has_from : (b : List ℕ) (p : ℕ) → In b p → has_member b p ≡ true
has_from b p i = any_from (λ q. eqb q p) b p i (eq-eqb p p refl)

pub has_gives : (b : List ℕ) (p : ℕ) → has_member b p ≡ true → In b p
has_gives b p h = let r = any_gives (λ q. eqb q p) b h in subst (In b) (eqb-true r.0 p r.2) r.1

pub filter-filter : {X : Type 0} (q p : X → Bool) (xs : List X) → filter q (filter p xs) ≡ filter (λ x. p x && q x) xs
filter-filter q p [] = refl
filter-filter q p (x ∷ xs) =
    elim (p x) as (λ b. filter q (cond b (x ∷ filter p xs) (filter p xs)) ≡ cond (b && q x) (x ∷ filter (λ x. p x && q x) xs) (filter (λ x. p x && q x) xs)) [
      | true ↦ ap (λ l. cond (q x) (x ∷ l) l) (filter-filter q p xs)
      | false ↦ filter-filter q p xs
    ]

pub filter-map : {X Y : Type 0} (p : Y → Bool) (f : X → Y) (xs : List X) → filter p (map f xs) ≡ map f (filter (λ x. p (f x)) xs)
filter-map p f [] = refl
filter-map p f (x ∷ xs) =
    elim (p (f x)) as (λ b. cond b (f x ∷ filter p (map f xs)) (filter p (map f xs)) ≡ map f (cond b (x ∷ filter (λ x. p (f x)) xs) (filter (λ x. p (f x)) xs))) [
      | true ↦ ap (λ l. f x ∷ l) (filter-map p f xs)
      | false ↦ filter-map p f xs
    ]

pub filter_fails : {X : Type 0} (t : X → Bool) (xs : List X) → ((x : X) → In xs x → t x ≡ false) → filter t xs ≡ []
filter_fails t [] h = refl
filter_fails t (x ∷ xs) h = rw (h x (inl refl)) (filter_fails t xs (λ y i. h y (inr i)))

-- a test that none passes
pub filter_never : {X : Type 0} (xs : List X) → filter (λ x. false) xs ≡ []
filter_never [] = refl
filter_never (x ∷ xs) = filter_never xs

pub any_map : {X Y : Type 0} (t : Y → Bool) (f : X → Y) (xs : List X) → list_any t (map f xs) ≡ list_any (λ x. t (f x)) xs
any_map t f [] = refl
any_map t f (x ∷ xs) = ap (λ b. t (f x) || b) (any_map t f xs)

-- a test over one more of the first members
pub any_take_more : {X : Type 0} (t : X → Bool) (xs : List X) (i : ℕ) (d : X) → i < length xs → list_any t (take (i + 1) xs) ≡ (list_any t (take i xs) || t (get_or xs i d))
any_take_more t xs i d h = ap (list_any t) (take_more xs i d h) ∙ list_any-append t (take i xs) (get_or xs i d ∷ []) ∙ ap (λ b. list_any t (take i xs) || b) (or_none (t (get_or xs i d)))
  where
    or_none : (b : Bool) → (b || false) ≡ b
    or_none true = refl
    or_none false = refl
