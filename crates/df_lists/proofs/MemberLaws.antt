-- Members of lists that are made from lists.
use Rattle.std.proofs.Common.{◌≡◌, ℕ, suc, zero, ◌+◌, ◌<◌, ◌≤◌, Bool, true, false, cond, ◌++◌, map, List, [], ◌∷◌, length, filter, refl, sym, ap, ◌∙◌, inl, inr, ◌⊎◌, arith, ⊎_elim, subst, length-append, ◌&&◌}
use Rattle.std.proofs.lemmas.Bool.{cases_eq}
use Rattle.std.proofs.lemmas.List.Elements.{filter-append}
use Rattle.std.specs.List.{flat_map, range_with_len, AllByRecursion}
use Rattle.df_lists.specs.Membership.{In, count}

pub In-append_cases : {X : Type 0} (xs ys : List X) (x : X) → In (xs ++ ys) x → In xs x ⊎ In ys x
In-append_cases [] ys x i = inr i
In-append_cases (y ∷ xs) ys x (inl e) = inl (inl e)
In-append_cases (y ∷ xs) ys x (inr i) = ⊎_elim (λ j. inl (inr j)) (λ j. inr j) (In-append_cases xs ys x i)

pub In-append_left : {X : Type 0} (xs ys : List X) (x : X) → In xs x → In (xs ++ ys) x
In-append_left [] ys x i = absurd i
In-append_left (y ∷ xs) ys x (inl e) = inl e
In-append_left (y ∷ xs) ys x (inr i) = inr (In-append_left xs ys x i)

pub In-append_right : {X : Type 0} (xs ys : List X) (x : X) → In ys x → In (xs ++ ys) x
In-append_right [] ys x i = i
In-append_right (y ∷ xs) ys x i = inr (In-append_right xs ys x i)

pub In-map_gives : {X Y : Type 0} (f : X → Y) (xs : List X) (y : Y) → In (map f xs) y → (x : X) × In xs x × (f x ≡ y)
In-map_gives f [] y i = absurd i
In-map_gives f (x ∷ xs) y (inl e) = (x, inl refl, e)
In-map_gives f (x ∷ xs) y (inr i) = let r = In-map_gives f xs y i in (r.0, inr r.1, r.2)

pub In-map : {X Y : Type 0} (f : X → Y) (xs : List X) (x : X) → In xs x → In (map f xs) (f x)
In-map f [] x i = absurd i
In-map f (y ∷ xs) x (inl e) = inl (ap f e)
In-map f (y ∷ xs) x (inr i) = inr (In-map f xs x i)

pub In-flat_map : {X Y : Type 0} (f : X → List Y) (xs : List X) (x : X) (y : Y) → In xs x → In (f x) y → In (flat_map f xs) y
In-flat_map f [] x y i j = absurd i
In-flat_map f (z ∷ xs) x y (inl e) j = In-append_left (f z) (flat_map f xs) y (subst (λ w. In (f w) y) (sym e) j)
In-flat_map f (z ∷ xs) x y (inr i) j = In-append_right (f z) (flat_map f xs) y (In-flat_map f xs x y i j)

pub In-flat_map_gives : {X Y : Type 0} (f : X → List Y) (xs : List X) (y : Y) → In (flat_map f xs) y → (x : X) × In xs x × In (f x) y
In-flat_map_gives f [] y i = absurd i
In-flat_map_gives f (x ∷ xs) y i = ⊎_elim (λ j. (x, inl refl, j)) (λ j. let r = In-flat_map_gives f xs y j in (r.0, inr r.1, r.2)) (In-append_cases (f x) (flat_map f xs) y i)

pub In-filter : {X : Type 0} (t : X → Bool) (xs : List X) (x : X) → In xs x → t x ≡ true → In (filter t xs) x
In-filter t [] x i h = absurd i
In-filter t (y ∷ xs) x (inl e) h = rw (ap t e ∙ h) (inl e)
In-filter t (y ∷ xs) x (inr i) h =
    elim (t y) as (λ b. In (cond b (y ∷ filter t xs) (filter t xs)) x) [
      | true ↦ inr (In-filter t xs x i h)
      | false ↦ In-filter t xs x i h
    ]

pub In-filter_gives : {X : Type 0} (t : X → Bool) (xs : List X) (x : X) → In (filter t xs) x → In xs x × (t x ≡ true)
In-filter_gives t [] x i = absurd i
In-filter_gives {X = X} t (y ∷ xs) x i = go (t y) refl i (In-filter_gives t xs x)
  where
    go : (b : Bool) → t y ≡ b → In (cond b (y ∷ filter t xs) (filter t xs)) x → (In (filter t xs) x → In xs x × (t x ≡ true)) → In (y ∷ xs) x × (t x ≡ true)
    go true e (inl s) more = (inl s, sym (ap t s) ∙ e)
    go true e (inr j) more = let r = more j in (inr r.0, r.1)
    go false e j more = let r = more j in (inr r.0, r.1)

pub In-range : (a n p : ℕ) → a ≤ p → p < a + n → In (range_with_len a n) p
In-range a zero p h k = absurd (omega arith)
In-range a (suc n) p h k = ⊎_elim (λ e. inl e) (λ ne. inr (In-range (a + 1) n p (omega arith) (omega arith))) (cases_eq a p)

pub In-range_gives : (a n p : ℕ) → In (range_with_len a n) p → (a ≤ p) × (p < a + n)
In-range_gives a zero p i = absurd i
In-range_gives a (suc n) p (inl e) = (omega arith, omega arith)
In-range_gives a (suc n) p (inr i) = let r = In-range_gives (a + 1) n p i in (omega (arith, r.0), omega (arith, r.1))

pub count-append : {X : Type 0} (t : X → Bool) (xs ys : List X) → count t (xs ++ ys) ≡ count t xs + count t ys
count-append t xs ys = ap length (filter-append t xs ys) ∙ length-append (filter t xs) (filter t ys)

pub count-map : {X Y : Type 0} (t : Y → Bool) (f : X → Y) (xs : List X) → count t (map f xs) ≡ count (λ x. t (f x)) xs
count-map t f [] = refl
count-map t f (x ∷ xs) =
    elim (t (f x)) as (λ b. length (cond b (f x ∷ filter t (map f xs)) (filter t (map f xs))) ≡ length (cond b (x ∷ filter (λ x. t (f x)) xs) (filter (λ x. t (f x)) xs))) [
      | true ↦ ap suc (count-map t f xs)
      | false ↦ count-map t f xs
    ]

pub count_none : {X : Type 0} (t : X → Bool) (xs : List X) → ((x : X) → In xs x → t x ≡ false) → count t xs ≡ 0
count_none t [] h = refl
count_none t (x ∷ xs) h = rw (h x (inl refl)) (count_none t xs (λ y i. h y (inr i)))

-- a test that some member passes
pub count_gives : {X : Type 0} (t : X → Bool) (xs : List X) → 0 < count t xs → (x : X) × In xs x × (t x ≡ true)
count_gives t [] h = absurd (omega arith)
count_gives {X = X} t (x ∷ xs) h = go (t x) refl h (count_gives t xs)
  where
    go : (b : Bool) → t x ≡ b → 0 < length (cond b (x ∷ filter t xs) (filter t xs)) → (0 < count t xs → (y : X) × In xs y × (t y ≡ true)) → (y : X) × In (x ∷ xs) y × (t y ≡ true)
    go true e k more = (x, inl refl, e)
    go false e k more = let r = more k in (r.0, inr r.1, r.2)

pub count_some : {X : Type 0} (t : X → Bool) (xs : List X) (x : X) → In xs x → t x ≡ true → 0 < count t xs
count_some t [] x i h = absurd i
count_some t (y ∷ xs) x (inl e) h = rw (ap t e ∙ h) (omega arith)
count_some t (y ∷ xs) x (inr i) h =
    let more = count_some t xs x i h in
    elim (t y) as (λ b. 0 < length (cond b (y ∷ filter t xs) (filter t xs))) [
      | true ↦ omega arith
      | false ↦ more
    ]

-- two tests in turn
pub count-filter : {X : Type 0} (s t : X → Bool) (xs : List X) → count t (filter s xs) ≡ count (λ x. s x && t x) xs
count-filter s t [] = refl
count-filter s t (x ∷ xs) =
    elim (s x) as (λ b. count t (cond b (x ∷ filter s xs) (filter s xs)) ≡ length (cond (b && t x) (x ∷ filter (λ x. s x && t x) xs) (filter (λ x. s x && t x) xs))) [
      | true ↦ one_more (t x) (count-filter s t xs)
      | false ↦ count-filter s t xs
    ]
  where
    one_more : (c : Bool) → count t (filter s xs) ≡ count (λ x. s x && t x) xs → length (cond c (x ∷ filter t (filter s xs)) (filter t (filter s xs))) ≡ length (cond c (x ∷ filter (λ x. s x && t x) xs) (filter (λ x. s x && t x) xs))
    one_more true e = ap suc e
    one_more false e = e

-- what is true of the members of both lists is true of those of their join
pub AllByRecursion-append : {X : Type 0} (P : X → Type 0) (xs ys : List X) → AllByRecursion P xs → AllByRecursion P ys → AllByRecursion P (xs ++ ys)
AllByRecursion-append P [] ys a b = b
AllByRecursion-append P (x ∷ xs) ys a b = (a.0, AllByRecursion-append P xs ys a.1 b)

-- and what is true of the members of a join, of those of each list
pub all_front : {X : Type 0} (P : X → Type 0) (xs ys : List X) → AllByRecursion P (xs ++ ys) → AllByRecursion P xs
all_front P [] ys a = tt
all_front P (x ∷ xs) ys a = (a.0, all_front P xs ys a.1)

pub all_back : {X : Type 0} (P : X → Type 0) (xs ys : List X) → AllByRecursion P (xs ++ ys) → AllByRecursion P ys
all_back P [] ys a = a
all_back P (x ∷ xs) ys a = all_back P xs ys a.1
