-- Increasing lists of numbers: each once, in places that tell them apart, the least first.
use Rattle.std.proofs.Common.{◌≡◌, ℕ, suc, zero, ◌+◌, ◌<◌, Bool, true, false, cond, ◌&&◌, List, [], ◌∷◌, length, filter, get_or, refl, sym, ap, ◌∙◌, subst, inl, inr, ◌⊎◌, arith, eqb, ltb, eqb-true, ltb-true, lt-ltb}
use Rattle.std.proofs.lemmas.Bool.{cases_order}
use Rattle.std.proofs.Math.Bool.{and-true}
use Rattle.std.specs.List.{range_with_len}
use Rattle.df_lists.specs.Membership.{In, count}
use Rattle.df_lists.specs.NumberSets.{has_member, IsSet}
use Rattle.df_lists.proofs.MemberLaws.{In-filter_gives, In-range_gives}
use Rattle.df_lists.specs.Orders.{IsSorted}
use Rattle.df_lists.proofs.TestLaws.{filter_agree, has_from}
use Rattle.df_lists.proofs.SetLaws.{set_picked, range_once, In-set}
use Rattle.df_lists.proofs.ListPlaces.{In-get_or}
use Rattle.df_lists.proofs.TestLaws.{filter-filter}

-- a member stands in the list once
pub set_once : (v : ℕ) (b : List ℕ) (p : ℕ) → IsSet v b → In b p → count (eqb p) b ≡ 1
set_once v b p is i =
    ap (count (eqb p)) (set_picked v b is) ∙ ap length (filter-filter (eqb p) (has_member b) (range_with_len 0 v) ∙ filter_agree (λ q. has_member b q && eqb p q) (eqb p) (range_with_len 0 v) (λ q j. agree_here q))
    ∙ range_once 0 v p (omega arith) (omega (arith, In-set v b p is i))
  where
    agree_here : (q : ℕ) → (has_member b q && eqb p q) ≡ eqb p q
    agree_here q = go (eqb p q) refl
      where
        go : (c : Bool) → eqb p q ≡ c → (has_member b q && c) ≡ c
        go true e = and-true (has_member b q) ∙ has_from b q (subst (In b) (eqb-true p q e) i)
        go false e = none (has_member b q)
          where
            none : (c : Bool) → (c && false) ≡ false
            none true = refl
            none false = refl

filter_sorted : (t : ℕ → Bool) (a n : ℕ) → IsSorted ltb (filter t (range_with_len a n))
filter_sorted t a zero = tt
filter_sorted t a (suc n) =
    let rest = filter_sorted t (a + 1) n in
    elim (t a) as (λ b. IsSorted ltb (cond b (a ∷ filter t (range_with_len (a + 1) n)) (filter t (range_with_len (a + 1) n)))) [
      | true ↦ (λ q i. let r = In-range_gives (a + 1) n q (In-filter_gives t (range_with_len (a + 1) n) q i).0 in lt-ltb a q (omega (arith, r.0)), rest)
      | false ↦ rest
    ]

pub set_sorted : (v : ℕ) (b : List ℕ) → IsSet v b → IsSorted ltb b
set_sorted v b is = subst (IsSorted ltb) (sym (set_picked v b is)) (filter_sorted (has_member b) 0 v)

-- an earlier place has a smaller number
sorted_at : (b : List ℕ) (i j : ℕ) → IsSorted ltb b → i < j → j < length b → get_or b i 0 < get_or b j 0
sorted_at [] i j s h k = absurd (omega arith)
sorted_at (p ∷ b) i zero s h k = absurd (omega arith)
sorted_at (p ∷ b) zero (suc j) s h k = ltb-true p (get_or b j 0) (s.0 (get_or b j 0) (In-get_or b j 0 (omega arith)))
sorted_at (p ∷ b) (suc i) (suc j) s h k = sorted_at b i j s.1 (omega arith) (omega arith)

pub set_apart : (v : ℕ) (b : List ℕ) (i j : ℕ) → IsSet v b → i < length b → j < length b → get_or b i 0 ≡ get_or b j 0 → i ≡ j
set_apart v b i j is h k e = go (cases_order i j)
  where
    go : (i ≡ j) ⊎ ((i < j) ⊎ (j < i)) → i ≡ j
    go (inl f) = f
    go (inr (inl l)) = absurd (let m = sorted_at b i j (set_sorted v b is) l k in omega (arith, m, e))
    go (inr (inr l)) = absurd (let m = sorted_at b j i (set_sorted v b is) l h in omega (arith, m, e))

-- the least member stands first
pub set_first : (v : ℕ) (b : List ℕ) (p : ℕ) → IsSet v b → In b p → ((q : ℕ) → q < p → In b q → ⊥) → get_or b 0 0 ≡ p
set_first v b p is i none = go b (set_sorted v b is) i none
  where
    go : (b : List ℕ) → IsSorted ltb b → In b p → ((q : ℕ) → q < p → In b q → ⊥) → get_or b 0 0 ≡ p
    go [] s i none = absurd i
    go (q ∷ b) s (inl e) none = e
    go (q ∷ b) s (inr i) none = absurd (none q (ltb-true q p (s.0 p i)) (inl refl))
