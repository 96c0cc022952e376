-- All blocks of a size: each once.
use Rattle.std.proofs.Common.{◌≡◌, ℕ, suc, zero, ◌+◌, ◌<◌, ◌≤◌, true, false, map, List, [], ◌∷◌, length, length-append, refl, sym, ap, ◌∙◌, subst, inl, inr, arith, eqb, ⊎_elim, eq-eqb, ne_eqb, eqb-true}
use Rattle.std.proofs.lemmas.Bool.{false≢true, and_parts, cases_eq, and_left}
use Rattle.std.proofs.lemmas.List.{length-map}
use Rattle.std.proofs.lemmas.List.FromFn.{length-range_with_len}
use Rattle.std.specs.List.{range_with_len}
use Rattle.df_lists.specs.Membership.{In, count}
use Rattle.df_lists.specs.NumberSets.{Rises, IsSet}
use Rattle.df_subsets.specs.Subsets.{choose, subsets, points, binomial, same_list}
use Rattle.df_lists.proofs.RisingLists.{Rises-wider}
use Rattle.df_lists.proofs.MemberLaws.{In-append_cases, In-map_gives, count-append, count-map, count_none, count_gives}

pub length-choose : (ps : List ℕ) (k : ℕ) → length (choose ps k) ≡ binomial (length ps) k
length-choose ps zero = refl
length-choose [] (suc k) = refl
length-choose (p ∷ ps) (suc k) = length-append (map (λ b. p ∷ b) (choose ps k)) (choose ps (suc k)) ∙ rw (length-map, length-choose ps k, length-choose ps (suc k)) refl

pub same_list-gives : (a b : List ℕ) → same_list a b ≡ true → a ≡ b
same_list-gives [] [] h = refl
same_list-gives [] (q ∷ b) h = absurd (false≢true h)
same_list-gives (p ∷ a) [] h = absurd (false≢true h)
same_list-gives (p ∷ a) (q ∷ b) h = let r = and_parts (eqb p q) (same_list a b) h in rw (eqb-true p q r.0, same_list-gives a b r.1) refl

pub same_list-self : (a : List ℕ) → same_list a a ≡ true
same_list-self [] = refl
same_list-self (p ∷ a) = rw (eq-eqb p p refl) (same_list-self a)

-- a lower start, and the same end
pub Rises-from : (low m v w : ℕ) (b : List ℕ) → low ≤ m → v ≡ w → Rises m v b → Rises low w b
Rises-from low m v w b h e r = Rises-wider low m v w b h (omega (arith, e)) r

-- members are blocks of the size
pub choose_inside : (low n k : ℕ) (b : List ℕ) → In (choose (range_with_len low n) k) b → Rises low (low + n) b × (length b ≡ k)
choose_inside low n zero b (inl e) = subst (λ b. Rises low (low + n) b × (length b ≡ 0)) e (tt, refl)
choose_inside low n zero b (inr i) = absurd i
choose_inside low zero (suc k) b i = absurd i
choose_inside low (suc n) (suc k) b i =
    ⊎_elim (λ j. front (In-map_gives (λ c. low ∷ c) (choose (range_with_len (low + 1) n) k) b j) (choose_inside (low + 1) n k)) (λ j. back (choose_inside (low + 1) n (suc k) b j))
    (In-append_cases (map (λ c. low ∷ c) (choose (range_with_len (low + 1) n) k)) (choose (range_with_len (low + 1) n) (suc k)) b i)
  where
    front : (c : List ℕ) × In (choose (range_with_len (low + 1) n) k) c × (low ∷ c ≡ b) → ((c : List ℕ) → In (choose (range_with_len (low + 1) n) k) c → Rises (low + 1) (low + 1 + n) c × (length c ≡ k)) → Rises low (low + suc n) b × (length b ≡ suc k)
    front r more =
        let q = more r.0 r.1 in
        subst (λ b. Rises low (low + suc n) b × (length b ≡ suc k)) r.2 ((omega arith, omega arith, Rises-from (low + 1) (low + 1) (low + 1 + n) (low + suc n) r.0 (omega arith) (omega arith) q.0), ap suc q.1)

    back : Rises (low + 1) (low + 1 + n) b × (length b ≡ suc k) → Rises low (low + suc n) b × (length b ≡ suc k)
    back q = (Rises-from low (low + 1) (low + 1 + n) (low + suc n) b (omega arith) (omega arith) q.0, q.1)

-- a block with an earlier point isn't among them
choose_none : (low n k p : ℕ) (b : List ℕ) → p < low → count (same_list (p ∷ b)) (choose (range_with_len low n) k) ≡ 0
choose_none low n k p b h =
    count_none (same_list (p ∷ b)) (choose (range_with_len low n) k) (λ c i. later c (choose_inside low n k c i).0)
  where
    later : (c : List ℕ) → Rises low (low + n) c → same_list (p ∷ b) c ≡ false
    later [] r = refl
    later (q ∷ c) r = and_left (eqb p q) (same_list b c) (ne_eqb p q (λ e. absurd (omega (arith, r.0))))

-- each block of the size is among them once
pub choose_once : (low n k : ℕ) (b : List ℕ) → Rises low (low + n) b → length b ≡ k → count (same_list b) (choose (range_with_len low n) k) ≡ 1
choose_once low n zero [] r e = refl
choose_once low n zero (p ∷ b) r e = absurd (omega arith)
choose_once low n (suc k) [] r e = absurd (omega arith)
choose_once low zero (suc k) (p ∷ b) r e = absurd (omega (arith, r.0, r.1))
choose_once low (suc n) (suc k) (p ∷ b) r e =
    count-append (same_list (p ∷ b)) (map (λ c. low ∷ c) (choose (range_with_len (low + 1) n) k)) (choose (range_with_len (low + 1) n) (suc k))
    ∙ ap (λ m. m + count (same_list (p ∷ b)) (choose (range_with_len (low + 1) n) (suc k))) (count-map (same_list (p ∷ b)) (λ c. low ∷ c) (choose (range_with_len (low + 1) n) k))
    ∙ ⊎_elim
    (λ s. here s (choose_once (low + 1) n k b (Rises-from (low + 1) (p + 1) (low + suc n) (low + 1 + n) b (omega arith) (omega arith) r.2) (omega arith)))
    (λ ne. there ne (choose_once (low + 1) n (suc k) (p ∷ b) (omega (arith, r.0), omega (arith, r.1), Rises-from (p + 1) (p + 1) (low + suc n) (low + 1 + n) b (omega arith) (omega arith) r.2) e))
    (cases_eq p low)
  where
    here : p ≡ low → count (same_list b) (choose (range_with_len (low + 1) n) k) ≡ 1 → count (λ c. same_list (p ∷ b) (low ∷ c)) (choose (range_with_len (low + 1) n) k) + count (same_list (p ∷ b)) (choose (range_with_len (low + 1) n) (suc k)) ≡ 1
    here s more = rw (eq-eqb p low s, more, choose_none (low + 1) n (suc k) p b (omega arith)) refl

    there : (p ≡ low → ⊥) → count (same_list (p ∷ b)) (choose (range_with_len (low + 1) n) (suc k)) ≡ 1 → count (λ c. same_list (p ∷ b) (low ∷ c)) (choose (range_with_len (low + 1) n) k) + count (same_list (p ∷ b)) (choose (range_with_len (low + 1) n) (suc k)) ≡ 1
    there ne more = rw (ne_eqb p low ne, more, count_none (λ c. false) (choose (range_with_len (low + 1) n) k) (λ c i. refl)) refl

-- the members are the blocks of the size, each once
pub subsets_inside : (v k : ℕ) (b : List ℕ) → In (subsets v k) b → IsSet v b × (length b ≡ k)
subsets_inside v k b i = let r = choose_inside 0 v k b i in (Rises-from 0 0 (0 + v) v b (omega arith) (omega arith) r.0, r.1)

pub subsets_once : (v k : ℕ) (b : List ℕ) → IsSet v b → length b ≡ k → count (same_list b) (subsets v k) ≡ 1
subsets_once v k b r e = choose_once 0 v k b (Rises-from 0 0 v (0 + v) b (omega arith) (omega arith) r) e

pub subsets_have : (v k : ℕ) (b : List ℕ) → IsSet v b → length b ≡ k → In (subsets v k) b
subsets_have v k b r e =
    let one = subsets_once v k b r e in
    let found = count_gives (same_list b) (subsets v k) (omega (arith, one)) in
    subst (In (subsets v k)) (sym (same_list-gives b found.0 found.2)) found.1

pub subsets_long : (v k : ℕ) → length (subsets v k) ≡ binomial v k
subsets_long v k = length-choose (points v) k ∙ ap (λ n. binomial n k) (length-range_with_len 0 v)
