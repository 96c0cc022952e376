-- Each map permutes a list that the maps don't lead out of, and what follows for orbits and for counts over two of them.
use Rattle.std.proofs.Common.{◌≡◌, ℕ, ◌*◌, Bool, true, false, ◌&&◌, List, refl, sym, ap, ◌∙◌, subst, arith, mul-one, mul_comm}
use Rattle.df_lists.specs.Membership.{In, count}
use Rattle.df_lists.specs.Totals.{one}
use Rattle.df_lists.proofs.ListTotals.{list_total, list_total_agree, count_total, count_agree, list_total_times, list_total_swap}
use Rattle.df_lists.specs.Orders.{IsEquality}
use Rattle.df_acting.specs.Orbits.{IsMapGroup, IsSpread, in_one_orbit_by, entry, held}
use Rattle.df_lists.proofs.TestLaws.{same_tests, any_from, any_gives}

-- the test by which a sum picks one member
pub pick : (b : Bool) (m n : ℕ) → (b ≡ true → m ≡ n) → one b * m ≡ one b * n
pick true m n h = ap (λ k. 1 * k) (h refl)
pick false m n h = omega arith

module _ {M X : Type 0} (eq : X → X → Bool) (act : M → X → X) (D : X → Type 0) (maps : List M) (E : IsEquality eq) (G : IsMapGroup act D maps) where
  equal_comm : (x y : X) → eq x y ≡ eq y x
  equal_comm x y = same_tests (eq x y) (eq y x) (λ h. rw (E.same x y h) (E.self y)) (λ h. rw (E.same y x h) (E.self x))

  -- exactly one member of the list is x
  pub total_one : (xs : List X) → IsSpread eq act D maps xs → (f : X → ℕ) (x : X) → In xs x → list_total (λ y. one (eq x y) * f y) xs ≡ f x
  total_one xs S f x i =
      list_total_agree (λ y. one (eq x y) * f y) (λ y. f x * one (eq x y)) xs (λ y j. pick (eq x y) (f y) (f x) (λ h. ap f (sym (E.same x y h))) ∙ mul_comm (one (eq x y)) (f x))
      ∙ list_total_times (f x) (λ y. one (eq x y)) xs
      ∙ ap (λ n. f x * n) (sym (count_total (eq x) xs) ∙ S.once x i)
      ∙ mul-one (f x)

  -- a map permutes the list
  pub permutes : (xs : List X) → IsSpread eq act D maps xs → (t : X → Bool) (g : M) → In maps g → count t xs ≡ count (λ x. t (act g x)) xs
  permutes xs S t g i =
      count_total t xs
      ∙ list_total_agree (λ y. one (t y)) (λ y. list_total (λ x. one (eq (act g x) y) * one (t y)) xs) xs (λ y j. sym (here y j))
      ∙ list_total_swap (λ y x. one (eq (act g x) y) * one (t y)) xs xs
      ∙ list_total_agree (λ x. list_total (λ y. one (eq (act g x) y) * one (t y)) xs) (λ x. one (t (act g x))) xs (λ x j. total_one xs S (λ y. one (t y)) (act g x) (S.moves g i x j))
      ∙ sym (count_total (λ x. t (act g x)) xs)
    where
      back : (h : M) × In maps h × ((x : X) → D x → act h (act g x) ≡ x) × ((x : X) → D x → act g (act h x) ≡ x)
      back = G.back g i

      turned : (x y : X) → In xs x → In xs y → eq (act g x) y ≡ eq (act back.0 y) x
      turned x y j k = same_tests (eq (act g x) y) (eq (act back.0 y) x) (λ e. rw (sym (E.same (act g x) y e), back.2 x (S.inside x j)) (E.self x)) (λ e. rw (sym (E.same (act back.0 y) x e), back.3 y (S.inside y k)) (E.self y))

      here : (y : X) → In xs y → list_total (λ x. one (eq (act g x) y) * one (t y)) xs ≡ one (t y)
      here y j =
          list_total_agree (λ x. one (eq (act g x) y) * one (t y)) (λ x. one (eq (act back.0 y) x) * one (t y)) xs (λ x k. ap (λ b. one b * one (t y)) (turned x y k j))
          ∙ total_one xs S (λ x. one (t y)) (act back.0 y) (S.moves back.0 back.1 y j)

  -- orbits
  pub one_orbit_from : (g : M) (x y : X) → In maps g → act g x ≡ y → in_one_orbit_by eq act maps x y ≡ true
  one_orbit_from g x y i e = any_from (λ f. eq (act f x) y) maps g i (rw e (E.self y))

  pub one_orbit_gives : (x y : X) → in_one_orbit_by eq act maps x y ≡ true → (g : M) × In maps g × (act g x ≡ y)
  one_orbit_gives x y h = let r = any_gives (λ f. eq (act f x) y) maps h in (r.0, r.1, E.same (act r.0 x) y r.2)

  pub one_orbit_self : (x : X) → D x → in_one_orbit_by eq act maps x x ≡ true
  one_orbit_self x d = let e = G.one in one_orbit_from e.0 x x e.1 (e.2 x d)

  -- the orbit of an image is the orbit
  pub one_orbit_image : (g : M) (x y : X) → In maps g → D x → in_one_orbit_by eq act maps (act g x) y ≡ in_one_orbit_by eq act maps x y
  one_orbit_image g x y i d =
      same_tests (in_one_orbit_by eq act maps (act g x) y) (in_one_orbit_by eq act maps x y)
      (λ h. let f = one_orbit_gives (act g x) y h in let k = G.times f.0 g f.1 i in one_orbit_from k.0 x y k.1 (k.2 x d ∙ f.2))
      (λ h. let f = one_orbit_gives x y h in let b = G.back g i in let k = G.times f.0 b.0 f.1 b.1 in one_orbit_from k.0 (act g x) y k.1 (k.2 (act g x) (G.stays g i x d) ∙ ap (act f.0) (b.2 x d) ∙ f.2))

  pub one_orbit_same : (x y z : X) → D x → in_one_orbit_by eq act maps x y ≡ true → in_one_orbit_by eq act maps y z ≡ in_one_orbit_by eq act maps x z
  one_orbit_same x y z d h = let g = one_orbit_gives x y h in subst (λ w. in_one_orbit_by eq act maps w z ≡ in_one_orbit_by eq act maps x z) g.2 (one_orbit_image g.0 x z g.1 d)

  pub one_orbit_comm : (x y : X) → D x → D y → in_one_orbit_by eq act maps x y ≡ in_one_orbit_by eq act maps y x
  one_orbit_comm x y d k = same_tests (in_one_orbit_by eq act maps x y) (in_one_orbit_by eq act maps y x) (λ h. one_orbit_same x y x d h ∙ one_orbit_self x d) (λ h. one_orbit_same y x y k h ∙ one_orbit_self y k)

  module _ (holds : X → X → Bool) (K : (g : M) → In maps g → (b p : X) → D b → D p → holds (act g b) (act g p) ≡ holds b p) where
    -- the entry is the same for each pair of an orbit
    entry_image : (blocks : List X) → IsSpread eq act D maps blocks → (g : M) (x y : X) → In maps g → D x → entry eq act maps holds blocks (act g x) y ≡ entry eq act maps holds blocks x y
    entry_image blocks S g x y i d =
        permutes blocks S (λ b. in_one_orbit_by eq act maps b y && holds b (act g x)) g i
        ∙ count_agree (λ b. in_one_orbit_by eq act maps (act g b) y && holds (act g b) (act g x)) (λ b. in_one_orbit_by eq act maps b y && holds b x) blocks (λ b j. rw (one_orbit_image g b y i (S.inside b j), K g i b x (S.inside b j) d) refl)

    pub entry_in_orbit : (blocks : List X) → IsSpread eq act D maps blocks → (x z y : X) → D x → in_one_orbit_by eq act maps x z ≡ true → entry eq act maps holds blocks z y ≡ entry eq act maps holds blocks x y
    entry_in_orbit blocks S x z y d h = let g = one_orbit_gives x z h in subst (λ w. entry eq act maps holds blocks w y ≡ entry eq act maps holds blocks x y) g.2 (entry_image blocks S g.0 x y g.1 d)

    held_image : (pairs : List X) → IsSpread eq act D maps pairs → (g : M) (x y : X) → In maps g → D y → held eq act maps holds pairs x (act g y) ≡ held eq act maps holds pairs x y
    held_image pairs S g x y i d =
        permutes pairs S (λ p. in_one_orbit_by eq act maps p x && holds (act g y) p) g i
        ∙ count_agree (λ p. in_one_orbit_by eq act maps (act g p) x && holds (act g y) (act g p)) (λ p. in_one_orbit_by eq act maps p x && holds y p) pairs (λ p j. rw (one_orbit_image g p x i (S.inside p j), K g i y p d (S.inside p j)) refl)

    pub held_in_orbit : (pairs : List X) → IsSpread eq act D maps pairs → (x y z : X) → D y → in_one_orbit_by eq act maps y z ≡ true → held eq act maps holds pairs x z ≡ held eq act maps holds pairs x y
    held_in_orbit pairs S x y z d h = let g = one_orbit_gives y z h in subst (λ w. held eq act maps holds pairs x w ≡ held eq act maps holds pairs x y) g.2 (held_image pairs S g.0 x y g.1 d)

    -- a row's entry over its whole orbit
    rows_total : (pairs blocks : List X) → IsSpread eq act D maps pairs → IsSpread eq act D maps blocks → (x y : X) → D x → list_total (λ p. one (in_one_orbit_by eq act maps p x) * entry eq act maps holds blocks p y) pairs ≡ entry eq act maps holds blocks x y * count (λ p. in_one_orbit_by eq act maps p x) pairs
    rows_total pairs blocks S T x y d =
        list_total_agree (λ p. one (in_one_orbit_by eq act maps p x) * entry eq act maps holds blocks p y) (λ p. entry eq act maps holds blocks x y * one (in_one_orbit_by eq act maps p x)) pairs
        (λ p j. pick (in_one_orbit_by eq act maps p x) (entry eq act maps holds blocks p y) (entry eq act maps holds blocks x y) (λ h. sym (entry_in_orbit blocks T p x y (S.inside p j) h)) ∙ mul_comm (one (in_one_orbit_by eq act maps p x)) (entry eq act maps holds blocks x y))
        ∙ list_total_times (entry eq act maps holds blocks x y) (λ p. one (in_one_orbit_by eq act maps p x)) pairs
        ∙ ap (λ n. entry eq act maps holds blocks x y * n) (sym (count_total (λ p. in_one_orbit_by eq act maps p x) pairs))

    blocks_total : (pairs blocks : List X) → IsSpread eq act D maps pairs → IsSpread eq act D maps blocks → (x y : X) → D y → list_total (λ b. one (in_one_orbit_by eq act maps b y) * held eq act maps holds pairs x b) blocks ≡ held eq act maps holds pairs x y * count (λ b. in_one_orbit_by eq act maps b y) blocks
    blocks_total pairs blocks S T x y d =
        list_total_agree (λ b. one (in_one_orbit_by eq act maps b y) * held eq act maps holds pairs x b) (λ b. held eq act maps holds pairs x y * one (in_one_orbit_by eq act maps b y)) blocks
        (λ b j. pick (in_one_orbit_by eq act maps b y) (held eq act maps holds pairs x b) (held eq act maps holds pairs x y) (λ h. sym (held_in_orbit pairs S x b y (T.inside b j) h)) ∙ mul_comm (one (in_one_orbit_by eq act maps b y)) (held eq act maps holds pairs x y))
        ∙ list_total_times (held eq act maps holds pairs x y) (λ b. one (in_one_orbit_by eq act maps b y)) blocks
        ∙ ap (λ n. held eq act maps holds pairs x y * n) (sym (count_total (λ b. in_one_orbit_by eq act maps b y) blocks))

    -- the pairs of an orbit in the blocks of an orbit, counted by pairs and by blocks
    both_ways : (pairs blocks : List X) (x y : X) → list_total (λ p. one (in_one_orbit_by eq act maps p x) * entry eq act maps holds blocks p y) pairs ≡ list_total (λ b. one (in_one_orbit_by eq act maps b y) * held eq act maps holds pairs x b) blocks
    both_ways pairs blocks x y =
        list_total_agree (λ p. one (in_one_orbit_by eq act maps p x) * entry eq act maps holds blocks p y) (λ p. list_total (λ b. met p b) blocks) pairs
        (λ p j. ap (λ n. one (in_one_orbit_by eq act maps p x) * n) (count_total (λ b. in_one_orbit_by eq act maps b y && holds b p) blocks) ∙ sym (list_total_times (one (in_one_orbit_by eq act maps p x)) (λ b. one (in_one_orbit_by eq act maps b y && holds b p)) blocks))
        ∙ list_total_swap met pairs blocks
        ∙ list_total_agree (λ b. list_total (λ p. met p b) pairs) (λ b. one (in_one_orbit_by eq act maps b y) * held eq act maps holds pairs x b) blocks
        (λ b j. list_total_agree (λ p. met p b) (λ p. one (in_one_orbit_by eq act maps b y) * one (in_one_orbit_by eq act maps p x && holds b p)) pairs (λ p i. around (in_one_orbit_by eq act maps p x) (in_one_orbit_by eq act maps b y) (holds b p)) ∙ list_total_times (one (in_one_orbit_by eq act maps b y)) (λ p. one (in_one_orbit_by eq act maps p x && holds b p)) pairs ∙ ap (λ n. one (in_one_orbit_by eq act maps b y) * n) (sym (count_total (λ p. in_one_orbit_by eq act maps p x && holds b p) pairs)))
      where
        met : X → X → ℕ
        met p b = one (in_one_orbit_by eq act maps p x) * one (in_one_orbit_by eq act maps b y && holds b p)

        around : (r s t : Bool) → one r * one (s && t) ≡ one s * one (r && t)
        around true true t = refl
        around true false t = omega arith
        around false true t = omega arith
        around false false t = refl

    -- the law of the quotient
    pub entry_law : (pairs blocks : List X) → IsSpread eq act D maps pairs → IsSpread eq act D maps blocks → (x y : X) → D x → D y → entry eq act maps holds blocks x y * count (λ p. in_one_orbit_by eq act maps p x) pairs ≡ count (λ b. in_one_orbit_by eq act maps b y) blocks * held eq act maps holds pairs x y
    entry_law pairs blocks S T x y d k =
        sym (rows_total pairs blocks S T x y d) ∙ both_ways pairs blocks x y ∙ blocks_total pairs blocks S T x y k ∙ mul_comm (held eq act maps holds pairs x y) (count (λ b. in_one_orbit_by eq act maps b y) blocks)
