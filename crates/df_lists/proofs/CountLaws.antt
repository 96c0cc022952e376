-- Counts and sums over lists, and lists that a test picks from a range.
use Rattle.std.proofs.Common.{◌≡◌, ℕ, zero, suc, ◌+◌, ◌<◌, ◌≤◌, Bool, true, false, cond, eqb, ◌&&◌, List, [], ◌∷◌, ◌++◌, filter, map, refl, sym, ap, ◌∙◌, inl, inr, arith, tests, length}
use Rattle.std.specs.List.{range_with_len, flat_map, count_by, sum_by, list_any}
use Rattle.std.proofs.lemmas.Bool.{cases_lt, eqb-true}
use Rattle.std.proofs.Math.Bool.{and-true}
use Rattle.std.proofs.lemmas.Map.Views.{any-filter_same}
use Rattle.std.proofs.lemmas.List.{map-id}
use Rattle.std.proofs.lemmas.List.Elements.{filter-append}
use Rattle.std.proofs.lemmas.List.FromFn.{map-range_with_len_more}
use Rattle.std.proofs.lemmas.List.Sums.{length-filter}
use Rattle.std.proofs.lemmas.List.Recursion.{is_count_by, is_sum_by}
use Rattle.df_lists.specs.NumberSets.{has_member}
use Rattle.df_lists.specs.Totals.{total, one}
use Rattle.df_lists.proofs.ListTotals.{list_total}

-- how many members pass, as a sum
abbrev pub list_count : {X : Type 0} → (X → Bool) → List X → ℕ
list_count p xs = list_total (λ x. one (p x)) xs

pub list_count_is : {X : Type 0} (p : X → Bool) (xs : List X) → list_count p xs ≡ count_by p xs
list_count_is p xs = is_count_by (list_count p) p refl (λ x xs. elim (p x) as (λ v. one v + list_count p xs ≡ cond v (1 + list_count p xs) (list_count p xs)) [ true ↦ refl | false ↦ omega arith ]) xs

pub list_total_is : {X : Type 0} (f : X → ℕ) (xs : List X) → list_total f xs ≡ sum_by f xs
list_total_is f xs = is_sum_by (list_total f) f refl (λ _ _. refl) xs

pub list_count_append : {X : Type 0} (p : X → Bool) (xs ys : List X) → list_count p (xs ++ ys) ≡ list_count p xs + list_count p ys
list_count_append p [] ys = omega arith
list_count_append p (x ∷ xs) ys = let ih = list_count_append p xs ys in omega arith

pub list_total_append : {X : Type 0} (f : X → ℕ) (xs ys : List X) → list_total f (xs ++ ys) ≡ list_total f xs + list_total f ys
list_total_append f [] ys = omega arith
list_total_append f (x ∷ xs) ys = let ih = list_total_append f xs ys in omega arith

pub list_count_flat_map : {X Y : Type 0} (p : Y → Bool) (f : X → List Y) (xs : List X) → list_count p (flat_map f xs) ≡ list_total (λ x. list_count p (f x)) xs
list_count_flat_map p f [] = refl
list_count_flat_map p f (x ∷ xs) = list_count_append p (f x) (flat_map f xs) ∙ ap (λ n. list_count p (f x) + n) (list_count_flat_map p f xs)

pub list_count_map : {X Y : Type 0} (p : Y → Bool) (f : X → Y) (xs : List X) → list_count p (map f xs) ≡ list_count (λ x. p (f x)) xs
list_count_map p f [] = refl
list_count_map p f (x ∷ xs) = ap (λ n. one (p (f x)) + n) (list_count_map p f xs)

pub list_count_filter : {X : Type 0} (s t : X → Bool) (xs : List X) → list_count t (filter s xs) ≡ list_total (λ x. cond (s x) (one (t x)) 0) xs
list_count_filter s t [] = refl
list_count_filter s t (x ∷ xs) =
    let ih = list_count_filter s t xs in
    elim (s x) as (λ v. list_count t (cond v (x ∷ filter s xs) (filter s xs)) ≡ cond v (one (t x)) 0 + list_total (λ x. cond (s x) (one (t x)) 0) xs) [ true ↦ omega (arith, ih) | false ↦ omega (arith, ih) ]

pub list_total_filter : {X : Type 0} (s : X → Bool) (f : X → ℕ) (xs : List X) → list_total f (filter s xs) ≡ list_total (λ x. cond (s x) (f x) 0) xs
list_total_filter s f [] = refl
list_total_filter s f (x ∷ xs) =
    let ih = list_total_filter s f xs in
    elim (s x) as (λ v. list_total f (cond v (x ∷ filter s xs) (filter s xs)) ≡ cond v (f x) 0 + list_total (λ x. cond (s x) (f x) 0) xs) [ true ↦ omega (arith, ih) | false ↦ omega (arith, ih) ]

pub range_more : (n : ℕ) → range_with_len 0 (suc n) ≡ range_with_len 0 n ++ n ∷ []
range_more n =
    let e : suc n ≡ n + 1 = omega arith in
    ap (range_with_len 0) e ∙ sym (map-id (range_with_len 0 (n + 1))) ∙ map-range_with_len_more (λ (x : ℕ). x) 0 n n (omega arith) ∙ ap (λ l. l ++ n ∷ []) (map-id (range_with_len 0 n))

pub list_count_range : (t : ℕ → Bool) (n : ℕ) → list_count t (range_with_len 0 n) ≡ total (λ i. one (t i)) n
list_count_range t zero = refl
list_count_range t (suc n) = ap (list_count t) (range_more n) ∙ list_count_append t (range_with_len 0 n) (n ∷ []) ∙ (let ih = list_count_range t n in omega arith)

pub list_total_range : (f : ℕ → ℕ) (n : ℕ) → list_total f (range_with_len 0 n) ≡ total f n
list_total_range f zero = refl
list_total_range f (suc n) = ap (list_total f) (range_more n) ∙ list_total_append f (range_with_len 0 n) (n ∷ []) ∙ (let ih = list_total_range f n in omega arith)

pub filter_same : (s t : ℕ → Bool) (n : ℕ) → ((i : ℕ) → i < n → s i ≡ t i) → filter s (range_with_len 0 n) ≡ filter t (range_with_len 0 n)
filter_same s t zero h = refl
filter_same s t (suc n) h =
    ap (filter s) (range_more n) ∙ filter-append s (range_with_len 0 n) (n ∷ [])
    ∙ rw (filter_same s t n (λ i l. h i (omega arith)), h n (omega arith)) refl
    ∙ sym (ap (filter t) (range_more n) ∙ filter-append t (range_with_len 0 n) (n ∷ []))

-- whether a set built by a test has a member
any_here : (p a n : ℕ) → a ≤ p → p < a + n → list_any (λ q. eqb q p) (range_with_len a n) ≡ true
any_here p a zero h k = absurd (omega arith)
any_here p a (suc n) h k =
    elim (cases_lt a p) [
      | inl l ↦ let differs : eqb a p ≡ false = grind (arith, tests) in rw differs (any_here p (a + 1) n (omega arith) (omega arith))
      | inr r ↦ let same : eqb a p ≡ true = grind (arith, tests) in rw same refl
    ]

pub has_filter : (t : ℕ → Bool) (n p : ℕ) → p < n → has_member (filter t (range_with_len 0 n)) p ≡ t p
has_filter t n p h =
    any-filter_same (λ q. eqb q p) t (t p) (λ k e. ap t (eqb-true k p e)) (range_with_len 0 n)
    ∙ ap (λ v. t p && v) (any_here p 0 n (omega arith) (omega arith)) ∙ and-true (t p)

-- how many numbers below n a test picks
pub length_picked : (t : ℕ → Bool) (n : ℕ) → length (filter t (range_with_len 0 n)) ≡ total (λ i. one (t i)) n
length_picked t n = length-filter t (range_with_len 0 n) ∙ sym (list_count_is t (range_with_len 0 n)) ∙ list_count_range t n
