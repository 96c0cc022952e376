-- Sorted lists: joined, mapped, filtered, and told by their members.
use Rattle.std.proofs.Common.{◌≡◌, Bool, true, false, cond, ◌++◌, map, filter, List, [], ◌∷◌, refl, sym, ap₂, ◌∙◌, subst, inl, inr, ⊎_elim}
use Rattle.std.proofs.lemmas.Bool.{false≢true}
use Rattle.df_lists.specs.Membership.{In}
use Rattle.df_lists.specs.Orders.{IsOrder, IsSorted}
use Rattle.df_lists.proofs.MemberLaws.{In-append_cases, In-map_gives, In-filter_gives}

pub sorted-append : {X : Type 0} (earlier : X → X → Bool) (xs ys : List X) → IsSorted earlier xs → IsSorted earlier ys → ((x y : X) → In xs x → In ys y → earlier x y ≡ true) → IsSorted earlier (xs ++ ys)
sorted-append earlier [] ys s t h = t
sorted-append earlier (x ∷ xs) ys s t h = (λ y i. ⊎_elim (λ j. s.0 y j) (λ j. h x y (inl refl) j) (In-append_cases xs ys y i), sorted-append earlier xs ys s.1 t (λ z y i j. h z y (inr i) j))

pub sorted-map : {X Y : Type 0} (earlier : X → X → Bool) (sooner : Y → Y → Bool) (f : X → Y) (xs : List X) → ((x y : X) → earlier x y ≡ true → sooner (f x) (f y) ≡ true) → IsSorted earlier xs → IsSorted sooner (map f xs)
sorted-map earlier sooner f [] h s = tt
sorted-map earlier sooner f (x ∷ xs) h s = (λ y i. let r = In-map_gives f xs y i in subst (λ z. sooner (f x) z ≡ true) r.2 (h x r.0 (s.0 r.0 r.1)), sorted-map earlier sooner f xs h s.1)

pub sorted-filter : {X : Type 0} (earlier : X → X → Bool) (t : X → Bool) (xs : List X) → IsSorted earlier xs → IsSorted earlier (filter t xs)
sorted-filter earlier t [] s = tt
sorted-filter earlier t (x ∷ xs) s =
    let more = sorted-filter earlier t xs s.1 in
    elim (t x) as (λ b. IsSorted earlier (cond b (x ∷ filter t xs) (filter t xs))) [
      | true ↦ (λ y i. s.0 y (In-filter_gives t xs y i).0, more)
      | false ↦ more
    ]

-- a sorted list is told by its members
pub sorted_same : {X : Type 0} (earlier : X → X → Bool) → IsOrder earlier → (xs ys : List X) → IsSorted earlier xs → IsSorted earlier ys → ((x : X) → In xs x → In ys x) → ((x : X) → In ys x → In xs x) → xs ≡ ys
sorted_same earlier O [] [] s t f g = refl
sorted_same earlier O [] (y ∷ ys) s t f g = absurd (g y (inl refl))
sorted_same earlier O (x ∷ xs) [] s t f g = absurd (f x (inl refl))
sorted_same {X = X} earlier O (x ∷ xs) (y ∷ ys) s t f g =
    let e = heads (f x (inl refl)) (g y (inl refl)) in
    ap₂ (λ z l. z ∷ l) e (sorted_same earlier O xs ys s.1 t.1 (λ z i. ⊎_elim (λ h. absurd (not_self z x (e' h e) (s.0 z i))) (λ j. j) (f z (inr i))) (λ z i. ⊎_elim (λ h. absurd (not_self z y (sym h ∙ e) (t.0 z i))) (λ j. j) (g z (inr i))))
  where
    not_self : (z w : X) → z ≡ w → earlier w z ≡ true → ⊥
    not_self z w h l = false≢true (sym (O.unlike w) ∙ subst (λ u. earlier w u ≡ true) h l)

    e' : {z : X} → y ≡ z → x ≡ y → z ≡ x
    e' h k = sym h ∙ sym k

    heads : In (y ∷ ys) x → In (x ∷ xs) y → x ≡ y
    heads (inl h) i = sym h
    heads (inr j) (inl h) = h
    heads (inr j) (inr i) = absurd (not_self y y refl (O.onward y x y (t.0 x j) (s.0 y i)))
