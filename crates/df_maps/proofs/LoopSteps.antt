-- Tests, counts and earliest members over the maps by their numbers.
use Rattle.std.proofs.Common.{◌≡◌, ℕ, ◌+◌, ◌<◌, Bool, true, false, cond, ◌&&◌, ◌++◌, map, List, [], ◌∷◌, length, refl, sym, ap, ap₂, ◌∙◌}
use Rattle.std.proofs.lemmas.Bool.{false_from_ne_true, both_ways}
use Rattle.std.proofs.lemmas.List.{map-append}
use Rattle.std.specs.List.{list_all, range_with_len}
use Rattle.df_lists.specs.Membership.{count}
use Rattle.df_lists.proofs.RangeLaws.{range_more}
use Rattle.df_lists.proofs.MemberLaws.{count-append}
use Rattle.df_acting.specs.Representatives.{earliest}
use Rattle.df_lists.proofs.TestLaws.{all_gives}
use Rattle.df_lists.proofs.SetLaws.{In-points}

all-append : {X : Type 0} (t : X → Bool) (xs ys : List X) → list_all t (xs ++ ys) ≡ (list_all t xs && list_all t ys)
all-append t [] ys = refl
all-append t (x ∷ xs) ys = ap (λ b. t x && b) (all-append t xs ys) ∙ sym (and_assoc (t x) (list_all t xs) (list_all t ys))
  where
    and_assoc : (a b c : Bool) → ((a && b) && c) ≡ (a && (b && c))
    and_assoc true b c = refl
    and_assoc false b c = refl

pub all-map : {X Y : Type 0} (t : Y → Bool) (f : X → Y) (xs : List X) → list_all t (map f xs) ≡ list_all (λ x. t (f x)) xs
all-map t f [] = refl
all-map t f (x ∷ xs) = ap (λ b. t (f x) && b) (all-map t f xs)

-- one more number passes
pub all_more : (t : ℕ → Bool) (n : ℕ) → list_all t (range_with_len 0 n) ≡ true → t n ≡ true → list_all t (range_with_len 0 (n + 1)) ≡ true
all_more t n h k = ap (list_all t) (range_more n) ∙ all-append t (range_with_len 0 n) (n ∷ []) ∙ ap₂ (λ a b. a && (b && true)) h k

-- one of the numbers does not
pub all_fails : (t : ℕ → Bool) (i n : ℕ) → i < n → t i ≡ false → list_all t (range_with_len 0 n) ≡ false
all_fails t i n h k = false_from_ne_true (list_all t (range_with_len 0 n)) (λ l. both_ways (t i) k (all_gives t (range_with_len 0 n) l i (In-points n i h)))

earliest-append : {X : Type 0} (before : X → X → Bool) (x : X) (ys : List X) (z : X) → earliest before x (ys ++ z ∷ []) ≡ cond (before z (earliest before x ys)) z (earliest before x ys)
earliest-append before x [] z = refl
earliest-append before x (y ∷ ys) z = earliest-append before (cond (before y x) y x) ys z

-- the earliest, one number more
pub earliest_more : {X : Type 0} (before : X → X → Bool) (x : X) (f : ℕ → X) (n : ℕ) → earliest before x (map f (range_with_len 0 (n + 1))) ≡ cond (before (f n) (earliest before x (map f (range_with_len 0 n)))) (f n) (earliest before x (map f (range_with_len 0 n)))
earliest_more before x f n = ap (λ l. earliest before x (map f l)) (range_more n) ∙ ap (earliest before x) (map-append f (range_with_len 0 n) (n ∷ [])) ∙ earliest-append before x (map f (range_with_len 0 n)) (f n)

-- one more number is counted, or not
pub count_more : (t : ℕ → Bool) (n : ℕ) → count t (range_with_len 0 (n + 1)) ≡ count t (range_with_len 0 n) + cond (t n) 1 0
count_more t n = ap (count t) (range_more n) ∙ count-append t (range_with_len 0 n) (n ∷ []) ∙ ap (λ k. count t (range_with_len 0 n) + k) (elim (t n) as (λ b. length (cond b (n ∷ []) []) ≡ cond b 1 0) [ true ↦ refl | false ↦ refl ])
