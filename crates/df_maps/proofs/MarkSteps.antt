-- Sets of numbers that a loop over a list fills.
use Rattle.std.proofs.Common.{◌≡◌, ℕ, ◌+◌, ◌<◌, Bool, true, false, ◌||◌, List, length, get_or, take, refl, sym, ap, ◌∙◌, eqb}
use Rattle.std.specs.List.{list_any}
use Rattle.std.proofs.Math.Bool.{or_assoc}
use Rattle.df_lists.specs.NumberSets.{has_member, with_member}
use Rattle.df_lists.proofs.RisingLists.{has_more}
use Rattle.df_lists.proofs.TestLaws.{any_take_more}

pub or_none : (b : Bool) → (b || false) ≡ b
or_none true = refl
or_none false = refl

or_turned : (a b : Bool) → (a || b) ≡ (b || a)
or_turned true true = refl
or_turned true false = refl
or_turned false true = refl
or_turned false false = refl

-- one more member
pub has_one_more : (set : List ℕ) (k j : ℕ) → has_member (with_member k set) j ≡ (has_member set j || eqb k j)
has_one_more set k j = has_more k j set ∙ or_turned (eqb k j) (has_member set j)

-- the member that a loop over a list adds
pub member_more : (old set : List ℕ) (t : ℕ → ℕ) (xs : List ℕ) (i j : ℕ) → i < length xs
    → has_member set j ≡ (has_member old j || list_any (λ x. eqb (t x) j) (take i xs))
    → has_member (with_member (t (get_or xs i 0)) set) j ≡ (has_member old j || list_any (λ x. eqb (t x) j) (take (i + 1) xs))
member_more old set t xs i j h so_far =
    has_one_more set (t (get_or xs i 0)) j ∙ ap (λ b. b || eqb (t (get_or xs i 0)) j) so_far
    ∙ or_assoc (has_member old j) (list_any (λ x. eqb (t x) j) (take i xs)) (eqb (t (get_or xs i 0)) j)
    ∙ ap (λ b. has_member old j || b) (sym (any_take_more (λ x. eqb (t x) j) xs i 0 h))
