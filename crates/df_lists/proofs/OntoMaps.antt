-- Why a map of the numbers below n that sends no two to one number comes to each.
use Rattle.std.proofs.Common.{◌≡◌, ℕ, zero, suc, ◌+◌, ◌<◌, ◌≤◌, Bool, true, false, cond, eqb, refl, sym, ap, ◌∙◌, inl, inr, arith}
use Rattle.std.proofs.lemmas.Bool.{cases_lt, eqb-true}
use Rattle.df_lists.specs.Totals.{total, one}
use Rattle.df_lists.specs.LeastMembers.{OntoLaw}
use Rattle.df_lists.proofs.TotalLaws.{total_same, total_zero, total_ones, total_swap, total_at}
use Rattle.df_lists.proofs.LeastLaws.{first_of}

total_most : (c : ℕ → ℕ) (n : ℕ) → ((j : ℕ) → j < n → c j ≤ 1) → total c n ≤ n
total_most c zero h = omega arith
total_most c (suc n) h = let a = total_most c n (λ j l. h j (omega arith)) in let b = h n (omega arith) in omega arith

total_gap : (c : ℕ → ℕ) (n k : ℕ) → ((j : ℕ) → j < n → c j ≤ 1) → k < n → c k ≡ 0 → total c n < n
total_gap c zero k h l e = absurd (omega arith)
total_gap c (suc n) k h l e =
    elim (cases_lt k n) [
      | inl m ↦ let a = total_gap c n k (λ j l. h j (omega arith)) m e in let b = h n (omega arith) in omega arith
      | inr m ↦ let a = total_most c n (λ j l. h j (omega arith)) in let is : k ≡ n = omega arith in let b = ap c is in omega arith
    ]

-- a test that passes once at most
total_once : (t : ℕ → Bool) (n : ℕ) → ((i j : ℕ) → i < n → j < n → t i ≡ true → t j ≡ true → i ≡ j) → total (λ i. one (t i)) n ≤ 1
total_once t zero h = omega arith
total_once t (suc n) h = go (t n) refl (total_once t n (λ i j l m. h i j (omega arith) (omega arith)))
  where
    none : t n ≡ true → (i : ℕ) → i < n → (v : Bool) → t i ≡ v → one v ≡ 0
    none e i l false w = refl
    none e i l true w = absurd (let x = h i n (omega arith) (omega arith) w e in omega arith)

    go : (v : Bool) → t n ≡ v → total (λ i. one (t i)) n ≤ 1 → total (λ i. one (t i)) n + one v ≤ 1
    go true e ih = let a = total_same (λ i. one (t i)) (λ i. 0) n (λ i l. none e i l (t i) refl) ∙ total_zero n in omega arith
    go false e ih = omega arith

pub onto : OntoLaw
onto n f within apart j l =
    elim (first_of (λ i. eqb j (f i)) n) [
      | inr found ↦ (found.0, found.1, sym (eqb-true j (f found.0) found.2.passes))
      | inl none ↦
          let c : ℕ → ℕ = λ j. total (λ i. cond (eqb j (f i)) 1 0) n in
          let gap : c j ≡ 0 = total_same (λ i. cond (eqb j (f i)) 1 0) (λ i. 0) n (λ i h. ap one (none i h)) ∙ total_zero n in
          let less = total_gap c n j (λ k h. total_once (λ i. eqb k (f i)) n (λ a b u v d e. apart a b u v (sym (eqb-true k (f a) d) ∙ eqb-true k (f b) e))) l gap in
          let all : total c n ≡ total (λ i. 1) n = sym (total_swap (λ i j. cond (eqb j (f i)) 1 0) n n) ∙ total_same (λ i. total (λ j. cond (eqb j (f i)) 1 0) n) (λ i. 1) n (λ i h. total_at (λ j. 1) (f i) n (within i h)) in
          let k = total_ones n in
          absurd (omega arith)
    ]
