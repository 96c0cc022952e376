-- One more place of a list of residues.
use Rattle.std.proofs.Common.{◌≡◌, ℕ, zero, suc, ◌+◌, ◌-◌, ◌*◌, ◌/◌, ◌%◌, ◌<◌, ◌≤◌, List, [], ◌∷◌, ◌++◌, length, get_or, drop, refl, sym, ap, ◌∙◌, arith, append_assoc, append-nil, mul_assoc, add-mul, mul_comm, mod-eq_of_lt, mul-le-mul}
use Rattle.std.proofs.lemmas.Nat.{div-mul-add, div_below}
use Rattle.std.proofs.lemmas.List.{drop_more}
use Rattle.df_group.specs.Elements.{order_of, IsElement, number, residues, sum_of, negative_of, multiple_of, IsFactor, IsShape}
use Rattle.df_group.proofs.ElementLaws.{ArePositive, positive_shape, order_some, number_within}

pub element_length : (fs rs : List ℕ) → IsElement fs rs → length rs ≡ length fs
element_length [] rs h = ap length h
element_length (f ∷ fs) [] h = absurd h
element_length (f ∷ fs) (r ∷ rs) h = ap suc (element_length fs rs h.1)

pub element_at : (fs rs : List ℕ) (i : ℕ) → IsElement fs rs → i < length fs → get_or rs i 0 < get_or fs i 0
element_at [] rs i h l = absurd (omega arith)
element_at (f ∷ fs) [] i h l = absurd h
element_at (f ∷ fs) (r ∷ rs) zero h l = h.0
element_at (f ∷ fs) (r ∷ rs) (suc i) h l = element_at fs rs i h.1 (omega arith)

pub element_from : (fs rs : List ℕ) → length rs ≡ length fs → ((i : ℕ) → i < length fs → get_or rs i 0 < get_or fs i 0) → IsElement fs rs
element_from [] [] e h = refl
element_from [] (r ∷ rs) e h = absurd (omega arith)
element_from (f ∷ fs) [] e h = absurd (omega arith)
element_from (f ∷ fs) (r ∷ rs) e h = (h 0 (omega arith), element_from fs rs (omega arith) (λ i l. h (suc i) (omega arith)))

pub factor_at : (fs : List ℕ) → IsShape fs → (i : ℕ) → i < length fs → IsFactor (get_or fs i 0)
factor_at fs is i l = is.factors i 0 l

pub positive_drop : (fs : List ℕ) (i : ℕ) → ArePositive fs → ArePositive (drop i fs)
positive_drop fs zero p = p
positive_drop [] (suc i) p = tt
positive_drop (f ∷ fs) (suc i) p = positive_drop fs i p.1

pub order_drop : (fs : List ℕ) (i : ℕ) → IsShape fs → 0 < order_of (drop i fs)
order_drop fs i is = order_some (drop i fs) (positive_drop fs i (positive_shape fs is))

-- the product from one place on
pub order_at : (fs : List ℕ) (i : ℕ) → i < length fs → order_of (drop i fs) ≡ get_or fs i 0 * order_of (drop (i + 1) fs)
order_at fs i l = ap order_of (drop_more fs i 0 l)

pub order_less : (fs : List ℕ) (i : ℕ) → IsShape fs → i < length fs → order_of (drop i fs) / get_or fs i 0 ≡ order_of (drop (i + 1) fs)
order_less fs i is l =
    let f = get_or fs i 0 in
    let o = order_of (drop (i + 1) fs) in
    let few = factor_at fs is i l in
    let e : order_of (drop i fs) ≡ o * f + 0 = omega (arith, order_at fs i l, mul_comm f o) in
    ap (λ n. n / f) e ∙ div-mul-add o f 0 (omega (arith, few.0))

-- a residue and the rest
pub residues_at : (fs : List ℕ) (i rest : ℕ) → IsShape fs → i < length fs → rest < order_of (drop i fs) → residues (drop i fs) rest ≡ rest / order_of (drop (i + 1) fs) ∷ residues (drop (i + 1) fs) (rest % order_of (drop (i + 1) fs))
residues_at fs i rest is l h =
    let f = get_or fs i 0 in
    let o = order_of (drop (i + 1) fs) in
    let bound : rest < f * o = omega (arith, order_at fs i l) in
    let small = div_below rest o f (order_drop fs (i + 1) is) bound in
    ap (λ l. residues l rest) (drop_more fs i 0 l) ∙ ap (λ n. n ∷ residues (drop (i + 1) fs) (rest % o)) (mod-eq_of_lt small)

-- what is done and one more place
pub put_on : (done rest whole more : List ℕ) (x : ℕ) → done ++ rest ≡ whole → rest ≡ x ∷ more → (done ++ x ∷ []) ++ more ≡ whole
put_on done rest whole more x e s = append_assoc done (x ∷ []) more ∙ ap (λ l. done ++ l) (sym s) ∙ e

pub sum_at : (fs xs ys : List ℕ) (i : ℕ) → i < length fs → i < length xs → i < length ys → sum_of (drop i fs) (drop i xs) (drop i ys) ≡ (get_or xs i 0 + get_or ys i 0) % get_or fs i 0 ∷ sum_of (drop (i + 1) fs) (drop (i + 1) xs) (drop (i + 1) ys)
sum_at fs xs ys i l m n = rw (drop_more fs i 0 l, drop_more xs i 0 m, drop_more ys i 0 n) refl

pub negative_at : (fs xs : List ℕ) (i : ℕ) → i < length fs → i < length xs → negative_of (drop i fs) (drop i xs) ≡ (get_or fs i 0 - get_or xs i 0) % get_or fs i 0 ∷ negative_of (drop (i + 1) fs) (drop (i + 1) xs)
negative_at fs xs i l m = rw (drop_more fs i 0 l, drop_more xs i 0 m) refl

pub multiple_at : (fs : List ℕ) (k : ℕ) (xs : List ℕ) (i : ℕ) → i < length fs → i < length xs → multiple_of (drop i fs) k (drop i xs) ≡ (k * get_or xs i 0) % get_or fs i 0 ∷ multiple_of (drop (i + 1) fs) k (drop (i + 1) xs)
multiple_at fs k xs i l m = rw (drop_more fs i 0 l, drop_more xs i 0 m) refl

-- the number so far, and the rest of it
pub number_at : (fs rs : List ℕ) (i place : ℕ) → i < length fs → i < length rs → place * order_of (drop i fs) + number (drop i fs) (drop i rs) ≡ (place * get_or fs i 0 + get_or rs i 0) * order_of (drop (i + 1) fs) + number (drop (i + 1) fs) (drop (i + 1) rs)
number_at fs rs i place l m =
    let f = get_or fs i 0 in
    let r = get_or rs i 0 in
    let o = order_of (drop (i + 1) fs) in
    let n = number (drop (i + 1) fs) (drop (i + 1) rs) in
    let one = order_at fs i l in
    let two : number (drop i fs) (drop i rs) ≡ r * o + n = rw (drop_more fs i 0 l, drop_more rs i 0 m) refl in
    ap (λ n. place * n + number (drop i fs) (drop i rs)) one ∙ ap (λ n. place * (f * o) + n) two
    ∙ omega (arith, mul_assoc place f o, add-mul (place * f) r o)

-- so it stays small
pub number_small : (fs rs : List ℕ) (i place : ℕ) → IsShape fs → IsElement fs rs → place * order_of (drop i fs) + number (drop i fs) (drop i rs) ≡ number fs rs → place < 128
number_small fs rs i place is h e =
    let o = order_drop fs i is in
    let all = number_within fs rs h in
    let low : place * 1 ≤ place * order_of (drop i fs) = mul-le-mul (omega arith) o in
    omega (arith, low, is.small)

pub number_next : (fs rs : List ℕ) (i place : ℕ) → IsShape fs → IsElement fs rs → i < length fs → place * order_of (drop i fs) + number (drop i fs) (drop i rs) ≡ number fs rs → place * get_or fs i 0 + get_or rs i 0 < 128
number_next fs rs i place is h l e =
    number_small fs rs (i + 1) (place * get_or fs i 0 + get_or rs i 0) is h (sym (number_at fs rs i place l (omega (arith, element_length fs rs h))) ∙ e)

pub drop_end : (xs : List ℕ) (i : ℕ) → length xs ≤ i → drop i xs ≡ []
drop_end [] zero h = refl
drop_end [] (suc i) h = refl
drop_end (x ∷ xs) zero h = absurd (omega arith)
drop_end (x ∷ xs) (suc i) h = drop_end xs i (omega arith)

pub number_end : (fs rs : List ℕ) (i place n : ℕ) → length fs ≤ i → place * order_of (drop i fs) + number (drop i fs) (drop i rs) ≡ n → place ≡ n
number_end fs rs i place n l e =
    let h = ap (λ l. place * order_of l + number l (drop i rs)) (drop_end fs i l) in
    omega (arith, h, e)

pub put_all : (done rest whole : List ℕ) → done ++ rest ≡ whole → rest ≡ [] → done ≡ whole
put_all done rest whole e none = sym (append-nil done) ∙ ap (λ l. done ++ l) (sym none) ∙ e

-- the element before the place i comes in front of those from i on
pub drop_before : (xs : List ℕ) (i x : ℕ) → 0 < i → i ≤ length xs → x ≡ get_or xs (i - 1) x → drop (i - 1) xs ≡ x ∷ drop i xs
drop_before xs i x some within is =
    let back : i - 1 + 1 ≡ i = omega arith in
    drop_more xs (i - 1) x (omega arith) ∙ ap (λ y. y ∷ drop (i - 1 + 1) xs) (sym is) ∙ ap (λ k. x ∷ drop k xs) back
