-- Sums over the members of lists, and the exchange of two of them.
use Rattle.std.proofs.Common.{◌≡◌, ℕ, ◌+◌, ◌*◌, Bool, true, false, cond, List, [], ◌∷◌, length, filter, refl, sym, ap, ◌∙◌, inl, inr, arith, mul-add, suc, ◌<◌, ◌≤◌, subst}
use Rattle.df_lists.specs.Membership.{In, count}
use Rattle.df_lists.specs.Totals.{one}

-- the sum of f over the members
abbrev pub list_total : {X : Type 0} → (X → ℕ) → List X → ℕ
list_total f [] = 0
list_total f (x ∷ xs) = f x + list_total f xs

pub list_total_agree : {X : Type 0} (f g : X → ℕ) (xs : List X) → ((x : X) → In xs x → f x ≡ g x) → list_total f xs ≡ list_total g xs
list_total_agree f g [] h = refl
list_total_agree f g (x ∷ xs) h = rw (h x (inl refl), list_total_agree f g xs (λ y i. h y (inr i))) refl

pub count_total : {X : Type 0} (t : X → Bool) (xs : List X) → count t xs ≡ list_total (λ x. one (t x)) xs
count_total t [] = refl
count_total t (x ∷ xs) =
    elim (t x) as (λ b. length (cond b (x ∷ filter t xs) (filter t xs)) ≡ one b + list_total (λ x. one (t x)) xs) [
      | true ↦ omega (arith, count_total t xs)
      | false ↦ omega (arith, count_total t xs)
    ]

pub count_agree : {X : Type 0} (s t : X → Bool) (xs : List X) → ((x : X) → In xs x → s x ≡ t x) → count s xs ≡ count t xs
count_agree s t xs h = count_total s xs ∙ list_total_agree (λ x. one (s x)) (λ x. one (t x)) xs (λ x i. ap one (h x i)) ∙ sym (count_total t xs)

pub list_total_none : {X : Type 0} (xs : List X) → list_total (λ x. 0) xs ≡ 0
list_total_none [] = refl
list_total_none (x ∷ xs) = omega (arith, list_total_none xs)

-- as many members as ones
pub length_total : {X : Type 0} (xs : List X) → length xs ≡ list_total (λ x. 1) xs
length_total [] = refl
length_total (x ∷ xs) = omega (arith, length_total xs)

pub list_total_both : {X : Type 0} (f g : X → ℕ) (xs : List X) → list_total (λ x. f x + g x) xs ≡ list_total f xs + list_total g xs
list_total_both f g [] = refl
list_total_both f g (x ∷ xs) = omega (arith, list_total_both f g xs)

pub list_total_times : {X : Type 0} (c : ℕ) (f : X → ℕ) (xs : List X) → list_total (λ x. c * f x) xs ≡ c * list_total f xs
list_total_times c f [] = omega arith
list_total_times c f (x ∷ xs) = rw (list_total_times c f xs) (sym (mul-add c (f x) (list_total f xs)))

-- the exchange
pub list_total_swap : {X Y : Type 0} (f : X → Y → ℕ) (xs : List X) (ys : List Y) → list_total (λ x. list_total (λ y. f x y) ys) xs ≡ list_total (λ y. list_total (λ x. f x y) xs) ys
list_total_swap f [] ys = sym (list_total_none ys)
list_total_swap f (x ∷ xs) ys = ap (λ n. list_total (λ y. f x y) ys + n) (list_total_swap f xs ys) ∙ sym (list_total_both (λ y. f x y) (λ y. list_total (λ x. f x y) xs) ys)

-- a test that passes less often
one_most : (a b : Bool) → (a ≡ true → b ≡ true) → one a ≤ one b
one_most false b h = omega arith
one_most true b h = rw (h refl) (omega arith)

pub list_total_most : {X : Type 0} (f g : X → ℕ) (xs : List X) → ((x : X) → In xs x → f x ≤ g x) → list_total f xs ≤ list_total g xs
list_total_most f g [] h = omega arith
list_total_most f g (x ∷ xs) h = omega (arith, h x (inl refl), list_total_most f g xs (λ y i. h y (inr i)))

pub list_total_less : {X : Type 0} (f g : X → ℕ) (xs : List X) (x : X) → ((x : X) → In xs x → f x ≤ g x) → In xs x → f x < g x → list_total f xs < list_total g xs
list_total_less f g [] x h i l = absurd i
list_total_less f g (y ∷ xs) x h (inl e) l =
    let here : f y < g y = subst (λ w. f w < g w) (sym e) l in
    omega (arith, here, list_total_most f g xs (λ z i. h z (inr i)))
list_total_less f g (y ∷ xs) x h (inr i) l = omega (arith, h y (inl refl), list_total_less f g xs x (λ z j. h z (inr j)) i l)

pub count_most : {X : Type 0} (s t : X → Bool) (xs : List X) → ((x : X) → In xs x → s x ≡ true → t x ≡ true) → count s xs ≤ count t xs
count_most s t xs h = omega (arith, count_total s xs, count_total t xs, list_total_most (λ x. one (s x)) (λ x. one (t x)) xs (λ x i. one_most (s x) (t x) (h x i)))

pub count_less : {X : Type 0} (s t : X → Bool) (xs : List X) (x : X) → ((x : X) → In xs x → s x ≡ true → t x ≡ true) → In xs x → s x ≡ false → t x ≡ true → count s xs < count t xs
count_less s t xs x h i e f =
    let here : one (s x) < one (t x) = rw (e, f) (omega arith) in
    omega (arith, count_total s xs, count_total t xs, list_total_less (λ x. one (s x)) (λ x. one (t x)) xs x (λ y j. one_most (s y) (t y) (h y j)) i here)

pub count_whole : {X : Type 0} (t : X → Bool) (xs : List X) → count t xs ≤ length xs
count_whole t xs = let e = all_pass xs in omega (arith, e, count_most t (λ x. true) xs (λ x i h. refl))
  where
    all_pass : {X : Type 0} (xs : List X) → count (λ x. true) xs ≡ length xs
    all_pass [] = refl
    all_pass (x ∷ xs) = ap suc (all_pass xs)
