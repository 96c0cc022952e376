-- Where two lists differ, as both are gone along; and the yes columns from a column on.
use Rattle.std.proofs.Common.{◌≡◌, ℕ, suc, zero, ◌+◌, ◌<◌, ◌≤◌, Bool, true, false, List, [], ◌∷◌, length, map, drop, Option, Some, None, slice_get, refl, sym, ap, ◌∙◌, arith, subst, add-one}
use Rattle.std.proofs.lemmas.Bool.{true≢false}
use Rattle.std.proofs.lemmas.List.{drop_all, map-id}
use Rattle.std.specs.Prelude.{cond, nat_eq}
use Rattle.df_lists.specs.Orders.{IsEquality}
use Rattle.df_walk.specs.Assignments.{Decisions}
use Rattle.df_walk.specs.Solutions.{yes_columns, yes_columns_from}
use Rattle.df_check.specs.Leaves.{is_yes, one_later, difference, is_same, stands_at}
use Rattle.df_check.specs.Checkers.{columns_differ}
use Rattle.df_check.specs.Laws.{IsDifference, DifferencesAreTold}

-- a difference that comes after members in common
abbrev pub later_by : ℕ → Option ℕ → Option ℕ
later_by n None = None
later_by n (Some place) = Some (n + place)

-- the list and what the yes columns stand for were gone along up to these places without a difference
abbrev pub AgreeTo : {X : Type 0} → (X → X → Bool) → (ℕ → X) → List X → Decisions → ℕ → ℕ → Type 0
AgreeTo same f given ds place column =
    difference same given (map f (yes_columns ds)) ≡ later_by place (difference same (drop place given) (map f (yes_columns_from column (drop column ds))))

later_zero : (o : Option ℕ) → o ≡ later_by 0 o
later_zero None = refl
later_zero (Some place) = ap Some (omega arith)

pub agree_first : {X : Type 0} (same : X → X → Bool) (f : ℕ → X) (given : List X) (ds : Decisions) → AgreeTo same f given ds 0 0
agree_first same f given ds = later_zero (difference same given (map f (yes_columns ds)))

pub here : {X : Type 0} (xs : List X) (place : ℕ) (x : X) → slice_get xs place ≡ Some x → drop place xs ≡ x ∷ drop (place + 1) xs
here [] place x h = absurd (let e = h in cc)
here (y ∷ xs) zero x h = let same : y ≡ x = cc in ap (λ z. z ∷ xs) same
here (y ∷ xs) (suc place) x h = here xs place x h ∙ ap (λ n. x ∷ drop n xs) (add-one place) ∙ ap (λ n. x ∷ drop n (y ∷ xs)) (sym (add-one (suc place)))

past : {X : Type 0} (xs : List X) (place : ℕ) → slice_get xs place ≡ None → drop place xs ≡ []
past [] place h = drop_all place [] (omega arith)
past (y ∷ xs) zero h = absurd (let e = h in cc)
past (y ∷ xs) (suc place) h = past xs place h

from_no : (column : ℕ) (d : Option Bool) (ds : Decisions) → is_yes d ≡ false → yes_columns_from column (d ∷ ds) ≡ yes_columns_from (column + 1) ds
from_no column None ds h = refl
from_no column (Some true) ds h = absurd (true≢false h)
from_no column (Some false) ds h = refl

from_yes : (column : ℕ) (d : Option Bool) (ds : Decisions) → is_yes d ≡ true → yes_columns_from column (d ∷ ds) ≡ column ∷ yes_columns_from (column + 1) ds
from_yes column None ds h = absurd (true≢false (sym h))
from_yes column (Some true) ds h = refl
from_yes column (Some false) ds h = absurd (true≢false (sym h))

-- a column that isn't yes is passed
pub agree_past : {X : Type 0} (same : X → X → Bool) (f : ℕ → X) (given : List X) (ds : Decisions) (place column : ℕ) (d : Option Bool) → slice_get ds column ≡ Some d → is_yes d ≡ false → AgreeTo same f given ds place column → AgreeTo same f given ds place (column + 1)
agree_past same f given ds place column d at not_yes so_far =
    so_far ∙ ap (λ ys. later_by place (difference same (drop place given) (map f ys))) (ap (yes_columns_from column) (here ds column d at) ∙ from_no column d (drop (column + 1) ds) not_yes)

one_more : (n : ℕ) (o : Option ℕ) → later_by n (one_later o) ≡ later_by (n + 1) o
one_more n None = refl
one_more n (Some place) = ap Some (omega arith)

same_head : {X : Type 0} (same : X → X → Bool) (x y : X) (xs ys : List X) → same x y ≡ true → difference same (x ∷ xs) (y ∷ ys) ≡ one_later (difference same xs ys)
same_head same x y xs ys e = rw e

other_head : {X : Type 0} (same : X → X → Bool) (x y : X) (xs ys : List X) → same x y ≡ false → difference same (x ∷ xs) (y ∷ ys) ≡ Some 0
other_head same x y xs ys e = rw e

from_column : (ds : Decisions) (column : ℕ) (d : Option Bool) → slice_get ds column ≡ Some d → is_yes d ≡ true → yes_columns_from column (drop column ds) ≡ column ∷ yes_columns_from (column + 1) (drop (column + 1) ds)
from_column ds column d at is = ap (yes_columns_from column) (here ds column d at) ∙ from_yes column d (drop (column + 1) ds) is

-- what stands at a place of a list goes on with what is wanted
goes_on : {X : Type 0} (same : X → X → Bool) (given : List X) (place : ℕ) (y : X) (ys : List X) (o : Option X) → slice_get given place ≡ o → is_same same o y ≡ true → later_by place (difference same (drop place given) (y ∷ ys)) ≡ later_by (place + 1) (difference same (drop (place + 1) given) ys)
goes_on same given place y ys None at is = absurd (true≢false (sym is))
goes_on same given place y ys (Some x) at is =
    ap (λ l. later_by place (difference same l (y ∷ ys))) (here given place x at) ∙ ap (later_by place) (same_head same x y (drop (place + 1) given) ys is) ∙ one_more place (difference same (drop (place + 1) given) ys)

no_more : (n : ℕ) → later_by n (Some 0) ≡ Some n
no_more n = ap Some (omega arith)

-- or it doesn't
ends_here : {X : Type 0} (same : X → X → Bool) (given : List X) (place : ℕ) (y : X) (ys : List X) (o : Option X) → slice_get given place ≡ o → is_same same o y ≡ false → later_by place (difference same (drop place given) (y ∷ ys)) ≡ Some place
ends_here same given place y ys None at is = ap (λ l. later_by place (difference same l (y ∷ ys))) (past given place at) ∙ no_more place
ends_here same given place y ys (Some x) at is =
    ap (λ l. later_by place (difference same l (y ∷ ys))) (here given place x at) ∙ ap (later_by place) (other_head same x y (drop (place + 1) given) ys is) ∙ no_more place

-- a yes column whose member stands in the list
pub agree_on : {X : Type 0} (same : X → X → Bool) (f : ℕ → X) (given : List X) (ds : Decisions) (place column : ℕ) (d : Option Bool) → slice_get ds column ≡ Some d → is_yes d ≡ true → stands_at same given place (f column) ≡ true → AgreeTo same f given ds place column → AgreeTo same f given ds (place + 1) (column + 1)
agree_on same f given ds place column d at is stands so_far =
    so_far ∙ ap (λ ys. later_by place (difference same (drop place given) (map f ys))) (from_column ds column d at is) ∙ goes_on same given place (f column) (map f (yes_columns_from (column + 1) (drop (column + 1) ds))) (slice_get given place) refl stands

-- one whose member doesn't
pub differ_at : {X : Type 0} (same : X → X → Bool) (f : ℕ → X) (given : List X) (ds : Decisions) (place column : ℕ) (d : Option Bool) → slice_get ds column ≡ Some d → is_yes d ≡ true → stands_at same given place (f column) ≡ false → AgreeTo same f given ds place column → difference same given (map f (yes_columns ds)) ≡ Some place
differ_at same f given ds place column d at is other so_far =
    so_far ∙ ap (λ ys. later_by place (difference same (drop place given) (map f ys))) (from_column ds column d at is) ∙ ends_here same given place (f column) (map f (yes_columns_from (column + 1) (drop (column + 1) ds))) (slice_get given place) refl other

-- past the last column
ended : {X : Type 0} (same : X → X → Bool) (f : ℕ → X) (given : List X) (ds : Decisions) (place column : ℕ) → length ds ≤ column → AgreeTo same f given ds place column → difference same given (map f (yes_columns ds)) ≡ later_by place (difference same (drop place given) [])
ended same f given ds place column end so_far = so_far ∙ ap (λ l. later_by place (difference same (drop place given) (map f (yes_columns_from column l)))) (drop_all column ds end)

left_over : {X : Type 0} (same : X → X → Bool) (given : List X) (place : ℕ) → place < length given → later_by place (difference same (drop place given) []) ≡ Some place
left_over same [] place within = absurd (omega (arith, within))
left_over same (x ∷ xs) zero within = refl
left_over same (x ∷ xs) (suc place) within = onward (difference same (drop place xs) []) place (left_over same xs place (omega (arith, within)))
  where
    onward : (o : Option ℕ) (n : ℕ) → later_by n o ≡ Some n → later_by (suc n) o ≡ Some (suc n)
    onward None n e = absurd (let f = e in cc)
    onward (Some m) n e = let same : n + m ≡ n = cc in ap Some (omega (arith, same))

pub differ_last : {X : Type 0} (same : X → X → Bool) (f : ℕ → X) (given : List X) (ds : Decisions) (place column : ℕ) → length ds ≤ column → place < length given → AgreeTo same f given ds place column → difference same given (map f (yes_columns ds)) ≡ Some place
differ_last same f given ds place column end within so_far = ended same f given ds place column end so_far ∙ left_over same given place within

pub agree_last : {X : Type 0} (same : X → X → Bool) (f : ℕ → X) (given : List X) (ds : Decisions) (place column : ℕ) → length ds ≤ column → length given ≤ place → AgreeTo same f given ds place column → difference same given (map f (yes_columns ds)) ≡ None
agree_last same f given ds place column end after so_far = ended same f given ds place column end so_far ∙ ap (λ l. later_by place (difference same l [])) (drop_all place given after)

-- there is no difference exactly where they are the same list
pub same_lists : {X : Type 0} (same : X → X → Bool) → IsEquality same → (xs ys : List X) → difference same xs ys ≡ None → xs ≡ ys
same_lists same is [] [] = λ h. refl
same_lists same is [] (y ∷ ys) = λ h. absurd (let e = h in cc)
same_lists same is (x ∷ xs) [] = λ h. absurd (let e = h in cc)
same_lists same is (x ∷ xs) (y ∷ ys) = go (same x y) (is.same x y) (difference same xs ys) (same_lists same is xs ys)
  where
    go : (b : Bool) → (b ≡ true → x ≡ y) → (o : Option ℕ) → (o ≡ None → xs ≡ ys) → cond b (one_later o) (Some 0) ≡ None → x ∷ xs ≡ y ∷ ys
    go true one None more h = let a = one refl in let b = more refl in cc
    go true one (Some n) more h = absurd (let e = h in cc)
    go false one o more h = absurd (let e = h in cc)

pub no_difference : {X : Type 0} (same : X → X → Bool) → IsEquality same → (xs : List X) → difference same xs xs ≡ None
no_difference same is [] = refl
no_difference same is (x ∷ xs) = same_head same x x xs xs (is.self x) ∙ ap one_later (no_difference same is xs)

-- the place of a difference
differ_here : {X : Type 0} (same : X → X → Bool) → IsEquality same → (xs ys : List X) (place : ℕ) → difference same xs ys ≡ Some place → IsDifference xs ys place
differ_here same is [] [] place = λ h. absurd (let e = h in cc)
differ_here {X} same is [] (y ∷ ys) place = λ h. let first : 0 ≡ place = cc in subst (λ p. IsDifference {X = X} [] (y ∷ ys) p) first (record { within = omega arith; common = refl; differs = λ e. cc })
differ_here {X} same is (x ∷ xs) [] place = λ h. let first : 0 ≡ place = cc in subst (λ p. IsDifference {X = X} (x ∷ xs) [] p) first (record { within = omega arith; common = refl; differs = λ e. cc })
differ_here same is (x ∷ xs) (y ∷ ys) place = go (same x y) (is.same x y) (λ other e. true≢false (sym (is.self y) ∙ sym (ap (λ z. same z y) e) ∙ other)) (difference same xs ys) (differ_here same is xs ys)
  where
    go : (b : Bool) → (b ≡ true → x ≡ y) → (b ≡ false → x ≡ y → ⊥) → (o : Option ℕ) → ((p : ℕ) → o ≡ Some p → IsDifference xs ys p) → cond b (one_later o) (Some 0) ≡ Some place → IsDifference (x ∷ xs) (y ∷ ys) place
    go true one other None more h = absurd (let e = h in cc)
    go true one other (Some n) more h =
        let at = more n refl in
        let k : suc n ≡ place = cc in
        subst (λ p. IsDifference (x ∷ xs) (y ∷ ys) p) k (record { within = omega (arith, at.within); common = let a = one refl in let b = at.common in cc; differs = at.differs })
    go false one other o more h =
        let k : 0 ≡ place = cc in
        subst (λ p. IsDifference (x ∷ xs) (y ∷ ys) p) k (record { within = omega arith; common = refl; differs = λ e. other refl (let d = e in cc) })

pub differences_told : {X : Type 0} (same : X → X → Bool) → IsEquality same → (xs ys : List X) → DifferencesAreTold same xs ys
differences_told same is xs ys = record { same = (same_lists same is xs ys, λ h. ap (difference same xs) (sym h) ∙ no_difference same is xs); told = differ_here same is xs ys }

-- columns stand for themselves
pub as_columns : (given : List ℕ) (ds : Decisions) (o : Option ℕ) → difference nat_eq given (map (λ (column : ℕ). column) (yes_columns ds)) ≡ o → o ≡ columns_differ given ds
as_columns given ds o h = sym h ∙ ap (difference nat_eq given) (map-id (yes_columns ds))

-- where a member stands is a place of the list
pub stands_within : {X : Type 0} (same : X → X → Bool) (xs : List X) (place : ℕ) (y : X) → stands_at same xs place y ≡ true → place < length xs
stands_within same [] place y h = absurd (true≢false (sym h))
stands_within same (x ∷ xs) zero y h = omega arith
stands_within same (x ∷ xs) (suc place) y h = let later = stands_within same xs place y h in omega (arith, later)
