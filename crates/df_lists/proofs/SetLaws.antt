-- Sets of numbers as increasing lists: told by their members, made by a test, of a larger bound.
use Rattle.std.proofs.Common.{◌≡◌, ◌≢◌, ℕ, zero, suc, ◌+◌, ◌<◌, ◌≤◌, ◌⊎◌, inl, inr, Bool, true, false, cond, eqb, ltb, ◌&&◌, ◌||◌, List, [], ◌∷◌, ◌++◌, filter, refl, sym, ap, ap₂, ◌∙◌, subst, arith, tests, append-nil, length, eq-eqb, ne_eqb, eqb-true, ⊎_elim}
use Rattle.std.specs.List.{range_with_len, list_any}
use Rattle.std.proofs.lemmas.Bool.{and_from, and_parts, cases_eq, cases_lt, cases_order, false≢true}
use Rattle.df_lists.specs.Membership.{In, count}
use Rattle.df_lists.specs.LeastMembers.{any_below}
use Rattle.df_lists.specs.NumberSets.{has_member, with_member, set_of, Rises, IsSet}
use Rattle.df_lists.proofs.RisingLists.{Rises-wider, Rises-filter, Rises-bound, none_below, none_above, length_fits}
use Rattle.df_lists.proofs.CountLaws.{filter_same, has_filter}
use Rattle.df_lists.proofs.MemberLaws.{In-range, In-range_gives, count_none}
use Rattle.df_lists.proofs.RangeLaws.{filter_more, placed}
use Rattle.df_lists.proofs.LeastLaws.{any_from as any_below_from, any_found}
use Rattle.df_lists.proofs.TestLaws.{same_tests, any_from, any_gives, has_from, has_gives, filter_agree}
use Rattle.std.proofs.lemmas.List.FromFn.{length-range_with_len, get_or-range_with_len}
use Rattle.std.specs.List.Sorted.{IsStrictlyIncreasing}
use Rattle.std.proofs.lemmas.List.Kept.{IsStrictlyIncreasing-filter}
use Rattle.df_lists.specs.Orders.{IsEquality}

-- lists that rise are told by their members
pub same_points : (low v w : ℕ) (a b : List ℕ) → Rises low v a → Rises low w b → ((q : ℕ) → has_member a q ≡ has_member b q) → a ≡ b
same_points low v w [] [] r s h = refl
same_points low v w [] (q ∷ b) r s h = absurd (false≢true (h q ∙ ap (λ t. t || has_member b q) (eq-eqb q q refl)))
same_points low v w (p ∷ a) [] r s h = absurd (false≢true (sym (h p) ∙ ap (λ t. t || has_member a p) (eq-eqb p p refl)))
same_points low v w (p ∷ a) (q ∷ b) r s h = go (cases_order p q) (λ e. same_points (p + 1) v w a b r.2 (subst (λ n. Rises (n + 1) w b) (sym e) s.2))
  where
    here : (p : ℕ) (a : List ℕ) → has_member (p ∷ a) p ≡ true
    here p a = ap (λ t. t || has_member a p) (eq-eqb p p refl)

    away : (p q : ℕ) (v : ℕ) (b : List ℕ) → p < q → Rises (q + 1) v b → has_member (q ∷ b) p ≡ false
    away p q v b l s = rw (ne_eqb q p (λ e. absurd (omega (arith, e, l)))) (none_below (q + 1) v b p s (omega arith))

    rest : p ≡ q → (x : ℕ) → has_member a x ≡ has_member b x
    rest e x = ⊎_elim
        (λ same. none_below (p + 1) v a x r.2 (omega (arith, same)) ∙ sym (none_below (q + 1) w b x s.2 (omega (arith, same, e))))
        (λ ne. sym (ap (λ t. t || has_member a x) (ne_eqb p x ne)) ∙ h x ∙ ap (λ t. t || has_member b x) (ne_eqb q x (λ f. ne (e ∙ f))))
        (cases_eq p x)

    go : (p ≡ q) ⊎ ((p < q) ⊎ (q < p)) → (p ≡ q → ((x : ℕ) → has_member a x ≡ has_member b x) → a ≡ b) → p ∷ a ≡ q ∷ b
    go (inl e) tails = ap₂ (λ x l. x ∷ l) e (tails e (rest e))
    go (inr (inl l)) tails = absurd (false≢true (sym (away p q w b l s.2) ∙ sym (h p) ∙ here p a))
    go (inr (inr l)) tails = absurd (false≢true (sym (away q p v a l r.2) ∙ h q ∙ here q b))

-- what a test picks from the numbers below n is a set
pub filter_is_set : (t : ℕ → Bool) (n : ℕ) → IsSet n (filter t (range_with_len 0 n))
filter_is_set t n = Rises-wider 0 0 (0 + n) n (filter t (range_with_len 0 n)) (omega arith) (omega arith) (Rises-filter t 0 n)

pub has_picked : (t : ℕ → Bool) (n q : ℕ) → (n ≤ q → t q ≡ false) → has_member (filter t (range_with_len 0 n)) q ≡ t q
has_picked t n q none = ⊎_elim (λ l. has_filter t n q l) (λ g. none_above 0 n (filter t (range_with_len 0 n)) q (filter_is_set t n) g ∙ sym (none g)) (cases_lt q n)

-- a set is what its own members pick
pub set_picked : (n : ℕ) (xs : List ℕ) → IsSet n xs → xs ≡ filter (has_member xs) (range_with_len 0 n)
set_picked n xs is = same_points 0 n n xs (filter (has_member xs) (range_with_len 0 n)) is (filter_is_set (has_member xs) n) (λ q. sym (has_picked (has_member xs) n q (none_above 0 n xs q is)))

-- a set is told by its members below the bound
pub same_sets : (n : ℕ) (xs ys : List ℕ) → IsSet n xs → IsSet n ys → ((x : ℕ) → x < n → has_member xs x ≡ has_member ys x) → xs ≡ ys
same_sets n xs ys i j h = set_picked n xs i ∙ filter_same (has_member xs) (has_member ys) n h ∙ sym (set_picked n ys j)

pub set_below : (n : ℕ) (xs : List ℕ) → IsSet n xs → (x : ℕ) → has_member xs x ≡ true → x < n
set_below n xs is x h = Rises-bound 0 n xs x is (has_gives xs x h)

-- numbers that don't pass may be added to a range
pub filter_longer : (t : ℕ → Bool) (n k : ℕ) → ((x : ℕ) → n ≤ x → t x ≡ false) → filter t (range_with_len 0 (n + k)) ≡ filter t (range_with_len 0 n)
filter_longer t n zero h = ap (λ m. filter t (range_with_len 0 m)) (let e : n + 0 ≡ n = omega arith in e)
filter_longer t n (suc k) h =
    let e : n + suc k ≡ n + k + 1 = omega arith in
    ap (λ m. filter t (range_with_len 0 m)) e ∙ filter_more t (n + k) ∙ ap (λ v. filter t (range_with_len 0 (n + k)) ++ cond v ((n + k) ∷ []) []) (h (n + k) (omega arith))
    ∙ append-nil (filter t (range_with_len 0 (n + k))) ∙ filter_longer t n k h

pub not_member : (xs : List ℕ) (x : ℕ) → (has_member xs x ≡ true → ⊥) → has_member xs x ≡ false
not_member xs x h = go (has_member xs x) h
  where
    go : (v : Bool) → (v ≡ true → ⊥) → v ≡ false
    go true h = absurd (h refl)
    go false h = refl

pub set_longer : (n m : ℕ) (xs : List ℕ) → n ≤ m → IsSet n xs → IsSet m xs
set_longer n m xs l is = Rises-wider 0 0 n m xs (omega arith) l is

range_put_from : (a n : ℕ) → with_member (a + n) (range_with_len a n) ≡ range_with_len a (n + 1)
range_put_from a zero = let e : a + 0 ≡ a = omega arith in rw e refl
range_put_from a (suc n) =
    let less : ltb (a + suc n) a ≡ false = grind (arith, tests) in
    let other : eqb (a + suc n) a ≡ false = grind (arith, tests) in
    let next : a + suc n ≡ a + 1 + n = omega arith in
    let more : suc n + 1 ≡ suc (n + 1) = omega arith in
    rw (less, other, more) (ap (λ l. a ∷ l) (ap (λ k. with_member k (range_with_len (a + 1) n)) next ∙ range_put_from (a + 1) n))

-- the numbers below n, and one more
pub range_put : (n : ℕ) → with_member n (range_with_len 0 n) ≡ range_with_len 0 (n + 1)
range_put n = let e : 0 + n ≡ n = omega arith in ap (λ k. with_member k (range_with_len 0 n)) (sym e) ∙ range_put_from 0 n

pub filter_none : (t : ℕ → Bool) (a n : ℕ) → ((k : ℕ) → a ≤ k → t k ≡ false) → filter t (range_with_len a n) ≡ []
filter_none t a zero h = refl
filter_none t a (suc n) h = rw (h a (omega arith)) (filter_none t (a + 1) n (λ k l. h k (omega arith)))

pub filter_all : (t : ℕ → Bool) (a n : ℕ) → ((k : ℕ) → a ≤ k → k < a + n → t k ≡ true) → filter t (range_with_len a n) ≡ range_with_len a n
filter_all t a zero h = refl
filter_all t a (suc n) h = rw (h a (omega arith) (omega arith)) (ap (λ l. a ∷ l) (filter_all t (a + 1) n (λ k l m. h k (omega arith) (omega arith))))

pub in_range : (n x : ℕ) → x < n → has_member (range_with_len 0 n) x ≡ true
in_range n x l = has_from (range_with_len 0 n) x (In-range 0 n x (omega arith) (omega arith))

pub zero_set : (n : ℕ) → 0 < n → IsSet n (0 ∷ [])
zero_set n h = (omega arith, h, tt)

-- a test of the members of a set, as one of the numbers below its bound
pub any_of_set : (t : ℕ → Bool) (n : ℕ) (set : List ℕ) → ((x : ℕ) → has_member set x ≡ true → x < n) → list_any t set ≡ any_below (λ x. has_member set x && t x) n
any_of_set t n set below =
    same_tests (list_any t set) (any_below (λ x. has_member set x && t x) n)
    (λ h. let r = any_gives t set h in let m = has_from set r.0 r.1 in any_below_from (λ x. has_member set x && t x) n r.0 (below r.0 m) (and_from (has_member set r.0) (t r.0) m r.2))
    (λ h. let r = any_found (λ x. has_member set x && t x) n h in let b = and_parts (has_member set r.0) (t r.0) r.2 in any_from t set r.0 (has_gives set r.0 b.0) b.1)

-- a set of numbers below n has n members at most
pub set_long : (n : ℕ) (set : List ℕ) → IsSet n set → length set ≤ n
set_long n set is = let fits = length_fits 0 n set (omega arith) is in omega (arith, fits)

pub In-points : (v p : ℕ) → p < v → In (range_with_len 0 v) p
In-points v p h = In-range 0 v p (omega arith) (omega arith)

pub In-points_gives : (v p : ℕ) → In (range_with_len 0 v) p → p < v
In-points_gives v p i = let r = In-range_gives 0 v p i in omega (arith, r.1)

-- the members of a set lie below its bound
pub In-set : (v : ℕ) (b : List ℕ) (p : ℕ) → IsSet v b → In b p → p < v
In-set v b p is i = Rises-bound 0 v b p is i

-- a set is told by its members
pub sets_agree : (v : ℕ) (a b : List ℕ) → IsSet v a → IsSet v b → ((p : ℕ) → In a p → In b p) → ((p : ℕ) → In b p → In a p) → a ≡ b
sets_agree v a b s t f g =
    set_picked v a s ∙ filter_agree (has_member a) (has_member b) (range_with_len 0 v) (λ p i. same_tests (has_member a p) (has_member b p) (λ h. has_from b p (f p (has_gives a p h))) (λ h. has_from a p (g p (has_gives b p h)))) ∙ sym (set_picked v b t)

pub range_once : (a n p : ℕ) → a ≤ p → p < a + n → count (eqb p) (range_with_len a n) ≡ 1
range_once a zero p h k = absurd (omega arith)
range_once a (suc n) p h k = ⊎_elim (λ e. here e) (λ ne. there ne (range_once (a + 1) n p (omega arith) (omega arith))) (cases_eq p a)
  where
    here : p ≡ a → count (eqb p) (a ∷ range_with_len (a + 1) n) ≡ 1
    here e = rw (eq-eqb p a e) (ap suc (count_none (eqb p) (range_with_len (a + 1) n) (λ q i. let r = In-range_gives (a + 1) n q i in ne_eqb p q (omega (arith, r.0)))))

    there : (p ≡ a → ⊥) → count (eqb p) (range_with_len (a + 1) n) ≡ 1 → count (eqb p) (a ∷ range_with_len (a + 1) n) ≡ 1
    there ne more = rw (ne_eqb p a ne) more

pub numbers_equal : IsEquality eqb
numbers_equal = record { same = eqb-true; self = λ x. eq-eqb x x refl }

range_rises : (n : ℕ) → IsStrictlyIncreasing (range_with_len 0 n)
range_rises n k h =
    let long = length-range_with_len 0 n in
    omega (arith, get_or-range_with_len 0 n k 0 (omega (arith, h, long)), get_or-range_with_len 0 n (k + 1) 0 (omega (arith, h, long)))

-- a set of numbers is written in increasing order
pub set_rises : (n : ℕ) (set : List ℕ) → IsSet n set → IsStrictlyIncreasing set
set_rises n set is = subst IsStrictlyIncreasing (sym (set_picked n set is)) (IsStrictlyIncreasing-filter (has_member set) (range_with_len 0 n) (range_rises n))

-- the set of listed numbers
has_last : (xs : List ℕ) (x : ℕ) → has_member (xs ++ x ∷ []) x ≡ true
has_last [] x = rw (eq-eqb x x refl) refl
has_last (y ∷ xs) x = ap (λ v. eqb y x || v) (has_last xs x) ∙ or_true (eqb y x)
  where
    or_true : (v : Bool) → (v || true) ≡ true
    or_true true = refl
    or_true false = refl

has_other : (xs : List ℕ) (x i : ℕ) → i ≢ x → has_member (xs ++ x ∷ []) i ≡ has_member xs i
has_other [] x i h = rw (ne_eqb x i (λ e. h (sym e))) refl
has_other (y ∷ xs) x i h = ap (λ v. eqb y i || v) (has_other xs x i h)

pub set_none : (v : ℕ) → set_of v [] ≡ []
set_none v = nothing (range_with_len 0 v)
  where
    nothing : (xs : List ℕ) → filter (λ q. false) xs ≡ []
    nothing [] = refl
    nothing (x ∷ xs) = nothing xs

-- one more number, listed last or first
pub set_more : (v : ℕ) (xs : List ℕ) (x : ℕ) → x < v → with_member x (set_of v xs) ≡ set_of v (xs ++ x ∷ [])
set_more v xs x h = sym (placed (has_member xs) (has_member (xs ++ x ∷ [])) x (has_last xs x) (has_other xs x) 0 v (omega arith) (omega arith))

pub set_put : (v x : ℕ) (xs : List ℕ) → x < v → with_member x (set_of v xs) ≡ set_of v (x ∷ xs)
set_put v x xs h = sym (placed (has_member xs) (has_member (x ∷ xs)) x (ap (λ t. t || has_member xs x) (eq-eqb x x refl)) (λ i ne. ap (λ t. t || has_member xs i) (ne_eqb x i (λ e. ne (sym e)))) 0 v (omega arith) (omega arith))
