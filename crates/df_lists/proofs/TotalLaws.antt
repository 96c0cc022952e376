-- Laws of sums over the numbers below a bound.
use Rattle.std.proofs.Common.{◌≡◌, ℕ, zero, suc, ◌+◌, ◌*◌, ◌<◌, ◌≤◌, true, false, cond, eqb, refl, sym, ap, ◌∙◌, inl, inr, arith, tests}
use Rattle.std.proofs.lemmas.Bool.Decides.{same_from_decides, Decides-eqb}
use Rattle.std.proofs.lemmas.Bool.{cases_lt}
use Rattle.df_lists.specs.Totals.{total, Turns}

pub total_same : (f g : ℕ → ℕ) (n : ℕ) → ((i : ℕ) → i < n → f i ≡ g i) → total f n ≡ total g n
total_same f g zero h = refl
total_same f g (suc n) h = let a = total_same f g n (λ i l. h i (omega arith)) in let b = h n (omega arith) in omega arith

pub total_zero : (n : ℕ) → total (λ i. 0) n ≡ 0
total_zero zero = refl
total_zero (suc n) = let a = total_zero n in omega arith

pub total_add : (f g : ℕ → ℕ) (n : ℕ) → total (λ i. f i + g i) n ≡ total f n + total g n
total_add f g zero = refl
total_add f g (suc n) = let a = total_add f g n in omega arith

pub total_times : (f : ℕ → ℕ) (c n : ℕ) → total (λ i. c * f i) n ≡ c * total f n
total_times f c zero = omega arith
total_times f c (suc n) = let a = total_times f c n in omega arith

pub total_ones : (n : ℕ) → total (λ i. 1) n ≡ n
total_ones zero = refl
total_ones (suc n) = let a = total_ones n in omega arith

pub total_within : (f g : ℕ → ℕ) (n : ℕ) → ((i : ℕ) → i < n → f i ≤ g i) → total f n ≤ total g n
total_within f g zero h = omega arith
total_within f g (suc n) h = let a = total_within f g n (λ i l. h i (omega arith)) in let b = h n (omega arith) in omega arith

-- the order of two sums
pub total_swap : (f : ℕ → ℕ → ℕ) (n m : ℕ) → total (λ i. total (f i) m) n ≡ total (λ j. total (λ i. f i j) n) m
total_swap f zero m = sym (total_zero m)
total_swap f (suc n) m = let a = total_swap f n m in let b = total_add (λ j. total (λ i. f i j) n) (f n) m in omega arith

-- one number alone counts
pub total_past : (f : ℕ → ℕ) (c n : ℕ) → n ≤ c → total (λ i. cond (eqb i c) (f i) 0) n ≡ 0
total_past f c zero h = refl
total_past f c (suc n) h =
    let a = total_past f c n (omega arith) in
    let differs : eqb n c ≡ false = grind (arith, tests) in
    let e : cond (eqb n c) (f n) 0 ≡ 0 = rw differs refl in
    omega arith

pub total_at : (f : ℕ → ℕ) (c n : ℕ) → c < n → total (λ i. cond (eqb i c) (f i) 0) n ≡ f c
total_at f c zero h = absurd (omega arith)
total_at f c (suc n) h =
    elim (cases_lt c n) [
      | inl l ↦
          let a = total_at f c n l in
          let differs : eqb n c ≡ false = grind (arith, tests) in
          let e : cond (eqb n c) (f n) 0 ≡ 0 = rw differs refl in
          omega arith
      | inr r ↦
          let is : n ≡ c = omega arith in
          let a = total_past f c n (omega arith) in
          let same : eqb n c ≡ true = grind (arith, tests) in
          let e : cond (eqb n c) (f n) 0 ≡ f n = rw same refl in
          let k = ap f is in
          omega arith
    ]

same_place : (n : ℕ) (there back : ℕ → ℕ) → Turns n there back → (i j : ℕ) → i < n → j < n → eqb j (there i) ≡ eqb i (back j)
same_place n there back t i j h k =
    same_from_decides (eqb j (there i)) (eqb i (back j)) (Decides-eqb j (there i))
    (let at = Decides-eqb i (back j) in (λ e. sym (t.returns_back j k) ∙ ap there (sym (at.0 e)), λ e. at.1 (sym (t.returns i h) ∙ ap back (sym e))))

-- a sum may be taken in another order
pub total_turn : (f : ℕ → ℕ) (n : ℕ) (there back : ℕ → ℕ) → Turns n there back → total (λ i. f (there i)) n ≡ total f n
total_turn f n there back t =
    total_same (λ i. f (there i)) (λ i. total (λ j. cond (eqb j (there i)) (f j) 0) n) n (λ i h. sym (total_at f (there i) n (t.within i h)))
    ∙ total_swap (λ i j. cond (eqb j (there i)) (f j) 0) n n
    ∙ total_same (λ j. total (λ i. cond (eqb j (there i)) (f j) 0) n) f n (λ j k.
    total_same (λ i. cond (eqb j (there i)) (f j) 0) (λ i. cond (eqb i (back j)) (f j) 0) n (λ i h. ap (λ b. cond b (f j) 0) (same_place n there back t i j h k))
    ∙ total_at (λ i. f j) (back j) n (t.within_back j k))
