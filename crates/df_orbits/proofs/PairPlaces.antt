-- The places of pairs in a table of all pairs.
use Rattle.std.proofs.Common.{◌≡◌, ℕ, ◌+◌, ◌*◌, ◌<◌, Bool, true, false, cond, ◌&&◌, ◌||◌, List, [], ◌∷◌, length, get_or, set, get_or-set_same, get_or-set_other, refl, sym, ap, ap₂, ◌∙◌, subst, inl, inr, ◌⊎◌, arith, eqb, eq-eqb, eqb-true, ne_eqb, ⊎_elim, length-set}
use Rattle.std.proofs.lemmas.Bool.{cases_eq, or_left, or_right, or_cases, and_parts, and_from}
use Rattle.std.proofs.lemmas.Nat.{mul-add-lt, same_from_place}
use Rattle.std.specs.List.{range_with_len}
use Rattle.df_lists.proofs.SetLaws.{set_picked}
use Rattle.df_lists.specs.Membership.{In}
use Rattle.df_lists.specs.NumberSets.{has_member, set_of}
use Rattle.df_lists.proofs.MemberLaws.{In-filter_gives}
use Rattle.df_lists.proofs.TestLaws.{same_tests, filter_agree, has_gives}
use Rattle.df_subsets.specs.Subsets.{same_list}
use Rattle.df_subsets.proofs.SubsetLists.{same_list-gives, same_list-self}

-- one of two points
two_cases : (a c p : ℕ) → In (a ∷ c ∷ []) p → (a ≡ p) ⊎ (c ≡ p)
two_cases a c p (inl e) = inl e
two_cases a c p (inr (inl e)) = inr e
two_cases a c p (inr (inr i)) = absurd i

set_turned : (v a c : ℕ) → set_of v (a ∷ c ∷ []) ≡ set_of v (c ∷ a ∷ [])
set_turned v a c = filter_agree (has_member (a ∷ c ∷ [])) (has_member (c ∷ a ∷ [])) (range_with_len 0 v) (λ q i. turn (eqb a q) (eqb c q))
  where
    turn : (s t : Bool) → (s || (t || false)) ≡ (t || (s || false))
    turn true true = refl
    turn true false = refl
    turn false true = refl
    turn false false = refl

-- the set of two points is the pair of these points, in the one order or in the other
same_pair : (v a c p q : ℕ) → p < q → q < v → same_list (set_of v (a ∷ c ∷ [])) (p ∷ q ∷ []) ≡ ((eqb a p && eqb c q) || (eqb c p && eqb a q))
same_pair v a c p q l h = same_tests (same_list (set_of v (a ∷ c ∷ [])) (p ∷ q ∷ [])) ((eqb a p && eqb c q) || (eqb c p && eqb a q)) apart together
  where
    pair : set_of v (p ∷ q ∷ []) ≡ p ∷ q ∷ []
    pair = sym (set_picked v (p ∷ q ∷ []) (omega arith, omega (arith, l, h), (omega (arith, l), h, tt)))

    has : set_of v (a ∷ c ∷ []) ≡ p ∷ q ∷ [] → (r : ℕ) → In (p ∷ q ∷ []) r → (a ≡ r) ⊎ (c ≡ r)
    has e r i = two_cases a c r (has_gives (a ∷ c ∷ []) r (In-filter_gives (has_member (a ∷ c ∷ [])) (range_with_len 0 v) r (subst (λ x. In x r) (sym e) i)).1)

    apart : same_list (set_of v (a ∷ c ∷ [])) (p ∷ q ∷ []) ≡ true → ((eqb a p && eqb c q) || (eqb c p && eqb a q)) ≡ true
    apart s = let e = same_list-gives (set_of v (a ∷ c ∷ [])) (p ∷ q ∷ []) s in go (has e p (inl refl)) (has e q (inr (inl refl)))
      where
        go : (a ≡ p) ⊎ (c ≡ p) → (a ≡ q) ⊎ (c ≡ q) → ((eqb a p && eqb c q) || (eqb c p && eqb a q)) ≡ true
        go (inl e) (inl f) = absurd (omega (arith, e, f, l))
        go (inl e) (inr f) = or_left (eqb a p && eqb c q) (eqb c p && eqb a q) (and_from (eqb a p) (eqb c q) (eq-eqb a p e) (eq-eqb c q f))
        go (inr e) (inl f) = or_right (eqb a p && eqb c q) (eqb c p && eqb a q) (and_from (eqb c p) (eqb a q) (eq-eqb c p e) (eq-eqb a q f))
        go (inr e) (inr f) = absurd (omega (arith, e, f, l))

    from : (b d : ℕ) → (eqb b p && eqb d q) ≡ true → set_of v (b ∷ d ∷ []) ≡ p ∷ q ∷ []
    from b d s = let r = and_parts (eqb b p) (eqb d q) s in ap₂ (λ x y. set_of v (x ∷ y ∷ [])) (eqb-true b p r.0) (eqb-true d q r.1) ∙ pair

    together : ((eqb a p && eqb c q) || (eqb c p && eqb a q)) ≡ true → same_list (set_of v (a ∷ c ∷ [])) (p ∷ q ∷ []) ≡ true
    together s = ⊎_elim (λ r. is (from a c r)) (λ r. is (set_turned v a c ∙ from c a r)) (or_cases (eqb a p && eqb c q) (eqb c p && eqb a q) s)
      where
        is : set_of v (a ∷ c ∷ []) ≡ p ∷ q ∷ [] → same_list (set_of v (a ∷ c ∷ [])) (p ∷ q ∷ []) ≡ true
        is e = subst (λ x. same_list x (p ∷ q ∷ []) ≡ true) (sym e) (same_list-self (p ∷ q ∷ []))

-- two places of a table are one where the rows and the columns are
same_place : (v a c p q : ℕ) → c < v → q < v → eqb (a * v + c) (p * v + q) ≡ (eqb a p && eqb c q)
same_place v a c p q h k =
    same_tests (eqb (a * v + c) (p * v + q)) (eqb a p && eqb c q)
    (λ s. let r = same_from_place a c p q v h k (eqb-true (a * v + c) (p * v + q) s) in and_from (eqb a p) (eqb c q) (eq-eqb a p r.0) (eq-eqb c q r.1))
    (λ s. let r = and_parts (eqb a p) (eqb c q) s in eq-eqb (a * v + c) (p * v + q) (ap₂ (λ x y. x * v + y) (eqb-true a p r.0) (eqb-true c q r.1)))

set_at : (xs : List ℕ) (i j n : ℕ) → i < length xs → get_or (set xs i n) j 0 ≡ cond (eqb i j) n (get_or xs j 0)
set_at xs i j n h = ⊎_elim (λ e. here e) (λ ne. get_or-set_other xs i j n 0 (λ e. ne (sym e)) ∙ sym (ap (λ b. cond b n (get_or xs j 0)) (ne_eqb i j ne))) (cases_eq i j)
  where
    here : i ≡ j → get_or (set xs i n) j 0 ≡ cond (eqb i j) n (get_or xs j 0)
    here e = ap (λ k. get_or (set xs i n) k 0) (sym e) ∙ get_or-set_same xs i n 0 h ∙ sym (ap (λ b. cond b n (get_or xs j 0)) (eq-eqb i j e))

either : (s t : Bool) (n x : ℕ) → cond t n (cond s n x) ≡ cond (s || t) n x
either true true n x = refl
either true false n x = refl
either false true n x = refl
either false false n x = refl

-- a number is written for one pair
pub put_pair : (v a c p q n : ℕ) (xs : List ℕ) → a < v → c < v → p < q → q < v → length xs ≡ v * v
    → get_or (set (set xs (a * v + c) n) (c * v + a) n) (p * v + q) 0 ≡ cond (same_list (set_of v (a ∷ c ∷ [])) (p ∷ q ∷ [])) n (get_or xs (p * v + q) 0)
put_pair v a c p q n xs h k l m long =
    let one : a * v + c < length xs = omega (arith, mul-add-lt a v c v h k, long) in
    let two : c * v + a < length (set xs (a * v + c) n) = omega (arith, mul-add-lt c v a v k h, long, length-set xs (a * v + c) n) in
    set_at (set xs (a * v + c) n) (c * v + a) (p * v + q) n two
    ∙ ap₂ (λ b x. cond b n x) (same_place v c a p q h m) (set_at xs (a * v + c) (p * v + q) n one ∙ ap (λ b. cond b n (get_or xs (p * v + q) 0)) (same_place v a c p q k m))
    ∙ either (eqb a p && eqb c q) (eqb c p && eqb a q) n (get_or xs (p * v + q) 0)
    ∙ ap (λ b. cond b n (get_or xs (p * v + q) 0)) (sym (same_pair v a c p q l m))

-- a number is written for one pair more
pub put_more : (s t : Bool) (n x : ℕ) → cond t n (cond s n x) ≡ cond (s || t) n x
put_more = either

-- a block of two points
pub two_points : (b : List ℕ) → length b ≡ 2 → b ≡ get_or b 0 0 ∷ get_or b 1 0 ∷ []
two_points [] e = absurd (omega (arith, e))
two_points (p ∷ []) e = absurd (omega (arith, e))
two_points (p ∷ q ∷ []) e = refl
two_points (p ∷ q ∷ r ∷ b) e = absurd (omega (arith, e))
