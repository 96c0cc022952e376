-- Laws of equivalent numbers and the least of them.
use Rattle.std.proofs.Common.{◌≡◌, ℕ, zero, suc, ◌*◌, ◌<◌, ◌≤◌, Bool, true, false, cond, not, eqb, ◌&&◌, ◌||◌, refl, sym, ap, ◌∙◌, ◌⊎◌, inl, inr, arith, eq-eqb, ne_eqb}
use Rattle.std.proofs.lemmas.Bool.{cases_lt, both_ways, not-true}
use Rattle.df_lists.specs.Totals.{total, one}
use Rattle.df_lists.specs.LeastMembers.{any_below, is_least, IsSameness, IsFirst}
use Rattle.df_lists.proofs.TotalLaws.{total_same, total_swap, total_at, total_times}

pub none_below : (t : ℕ → Bool) (n : ℕ) → any_below t n ≡ false → (j : ℕ) → j < n → t j ≡ false
none_below t zero h j l = absurd (omega arith)
none_below t (suc n) h j l =
    elim (cases_lt j n) [
      | inl k ↦ none_below t n (first (any_below t n) (t n) h) j k
      | inr k ↦ let e : j ≡ n = omega arith in ap t e ∙ second (any_below t n) (t n) h
    ]
  where
    first : (a b : Bool) → (a || b) ≡ false → a ≡ false
    first true b h = h
    first false b h = refl

    second : (a b : Bool) → (a || b) ≡ false → b ≡ false
    second true true h = h
    second true false h = refl
    second false b h = h

pub none_from : (t : ℕ → Bool) (n : ℕ) → ((j : ℕ) → j < n → t j ≡ false) → any_below t n ≡ false
none_from t zero h = refl
none_from t (suc n) h = rw (none_from t n (λ j l. h j (omega arith)), h n (omega arith)) refl

-- the least number that passes
pub first_of : (t : ℕ → Bool) (n : ℕ) → ((j : ℕ) → j < n → t j ≡ false) ⊎ ((c : ℕ) × (c < n) × IsFirst t c)
first_of t zero = inl (λ j l. absurd (omega arith))
first_of t (suc n) = go (first_of t n) (t n) refl
  where
    go : ((j : ℕ) → j < n → t j ≡ false) ⊎ ((c : ℕ) × (c < n) × IsFirst t c) → (v : Bool) → t n ≡ v → ((j : ℕ) → j < suc n → t j ≡ false) ⊎ ((c : ℕ) × (c < suc n) × IsFirst t c)
    go (inr (c, l, f)) v e = inr (c, omega arith, f)
    go (inl none) true e = inr (n, omega arith, record { passes = e; none = none })
    go (inl none) false e = inl (λ j l. elim (cases_lt j n) [ inl k ↦ none j k | inr k ↦ let x : j ≡ n = omega arith in ap t x ∙ e ])

pub first_until : (t : ℕ → Bool) (n : ℕ) → t n ≡ true → (c : ℕ) × (c ≤ n) × IsFirst t c
first_until t n h = elim (first_of t n) [ inl none ↦ (n, omega arith, record { passes = h; none = none }) | inr found ↦ (found.0, omega (arith, found.1), found.2) ]

module _ (n : ℕ) (same : ℕ → ℕ → Bool) (is : IsSameness n same) where
  -- of the numbers equivalent to g one alone is the least
  one_least : (g : ℕ) → g < n → (c : ℕ) → c ≤ g → IsFirst (λ j. same j g) c → (h : ℕ) → h < n → (is_least same h && same h g) ≡ eqb h c
  one_least g l c k f h m = by (is_least same h) (same h g) refl refl
    where
      least_too : is_least same c ≡ true
      least_too = ap not (none_from (λ j. same j c) c (λ j y. other j y (same j c) refl))
        where
          other : (j : ℕ) → j < c → (v : Bool) → same j c ≡ v → v ≡ false
          other j y false e = refl
          other j y true e = absurd (both_ways (same j g) (f.none j y) (is.joined j c g (omega arith) (omega arith) l e f.passes))

      by : (v w : Bool) → is_least same h ≡ v → same h g ≡ w → (v && w) ≡ eqb h c
      by true true e x =
          elim (cases_lt h c) [
            | inl y ↦ absurd (both_ways (same h g) (f.none h y) x)
            | inr y ↦
                elim (cases_lt c h) [
                  | inl z ↦ absurd (both_ways (same c h) (none_below (λ j. same j h) h (not-true (any_below (λ j. same j h) h) e) c z) (is.joined c g h (omega arith) l m f.passes (is.turned h g m l x)))
                  | inr z ↦ sym (eq-eqb h c (omega arith))
                ]
          ]
      by true false e x = sym (ne_eqb h c (λ y. both_ways (same h g) x (ap (λ j. same j g) y ∙ f.passes)))
      by false true e x = sym (ne_eqb h c (λ y. both_ways (is_least same h) e (ap (is_least same) y ∙ least_too)))
      by false false e x = sym (ne_eqb h c (λ y. both_ways (same h g) x (ap (λ j. same j g) y ∙ f.passes)))

  -- a sum over all is one over the least members, each as often as there are numbers equivalent to it
  pub leasts : (F : ℕ → ℕ) (m : ℕ) → ((g h : ℕ) → g < n → h < n → same h g ≡ true → F g ≡ F h) → ((h : ℕ) → h < n → total (λ g. one (same h g)) n ≡ m)
      → total F n ≡ m * total (λ h. cond (is_least same h) (F h) 0) n
  leasts F m agree_here size =
      total_same F (λ g. total (λ h. cond (is_least same h && same h g) (F g) 0) n) n (λ g l.
      let found = first_until (λ j. same j g) g (is.self g l) in
      sym (total_at (λ h. F g) found.0 n (omega (arith, found.1)))
      ∙ total_same (λ h. cond (eqb h found.0) (F g) 0) (λ h. cond (is_least same h && same h g) (F g) 0) n (λ h k. ap (λ b. cond b (F g) 0) (sym (one_least g l found.0 found.1 found.2 h k))))
      ∙ total_swap (λ g h. cond (is_least same h && same h g) (F g) 0) n n
      ∙ total_same (λ h. total (λ g. cond (is_least same h && same h g) (F g) 0) n) (λ h. m * cond (is_least same h) (F h) 0) n (λ h k.
      total_same (λ g. cond (is_least same h && same h g) (F g) 0) (λ g. cond (is_least same h) (F h) 0 * one (same h g)) n (λ g l. part g h l k)
      ∙ total_times (λ g. one (same h g)) (cond (is_least same h) (F h) 0) n
      ∙ ap (λ s. cond (is_least same h) (F h) 0 * s) (size h k)
      ∙ omega arith)
      ∙ total_times (λ h. cond (is_least same h) (F h) 0) m n
    where
      both : (x y : Bool) (a b : ℕ) → (y ≡ true → a ≡ b) → cond (x && y) a 0 ≡ cond x b 0 * one y
      both true true a b h = h refl ∙ omega arith
      both true false a b h = omega arith
      both false true a b h = refl
      both false false a b h = refl

      part : (g h : ℕ) → g < n → h < n → cond (is_least same h && same h g) (F g) 0 ≡ cond (is_least same h) (F h) 0 * one (same h g)
      part g h l k = both (is_least same h) (same h g) (F g) (F h) (agree_here g h l k)

pub any_from : (t : ℕ → Bool) (n j : ℕ) → j < n → t j ≡ true → any_below t n ≡ true
any_from t n j l e = go (any_below t n) refl
  where
    go : (v : Bool) → any_below t n ≡ v → v ≡ true
    go true x = refl
    go false x = absurd (both_ways (t j) (none_below t n x j l) e)

pub any_found : (t : ℕ → Bool) (n : ℕ) → any_below t n ≡ true → (j : ℕ) × (j < n) × (t j ≡ true)
any_found t n h = elim (first_of t n) [ inl none ↦ absurd (both_ways (any_below t n) (none_from t n none) h) | inr found ↦ (found.0, found.1, found.2.passes) ]

pub no_lower : (same : ℕ → ℕ → Bool) (i j : ℕ) → is_least same i ≡ true → j < i → same j i ≡ false
no_lower same i j h l = none_below (λ j. same j i) i (not-true (any_below (λ j. same j i) i) h) j l

-- the first number that is equivalent to g is a least one
pub first_is_least : (n : ℕ) (same : ℕ → ℕ → Bool) → IsSameness n same → (g c : ℕ) → g < n → c ≤ g → IsFirst (λ j. same j g) c → is_least same c ≡ true
first_is_least n same is g c l k f = ap not (none_from (λ j. same j c) c (λ j y. other j y (same j c) refl))
  where
    other : (j : ℕ) → j < c → (v : Bool) → same j c ≡ v → v ≡ false
    other j y false e = refl
    other j y true e = absurd (both_ways (same j g) (f.none j y) (is.joined j c g (omega arith) (omega arith) l e f.passes))
