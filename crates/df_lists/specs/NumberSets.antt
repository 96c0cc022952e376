-- Sets of numbers, written as increasing lists.
use Rattle.std.specs.Prelude.{◌==◌, ◌≤◌, ◌<◌, ◌+◌, ℕ, Bool, List, [], ◌∷◌, filter, nat_lt, if◌then◌else◌}
use Rattle.std.specs.List.{range_with_len, list_any}

-- whether a number is a member
abbrev pub has_member : List ℕ → ℕ → Bool
has_member set p = list_any (λ q. q == p) set

-- the increasing list of these numbers, as far as they lie below n
abbrev pub set_of : ℕ → List ℕ → List ℕ
set_of n numbers = filter (has_member numbers) (range_with_len 0 n)

-- the set with one more member
abbrev pub with_member : ℕ → List ℕ → List ℕ
with_member p [] = p ∷ []
with_member p (q ∷ qs) = if nat_lt p q then p ∷ q ∷ qs else (if p == q then q ∷ qs else q ∷ with_member p qs)

-- the list rises strictly, from `low` on and below v
abbrev pub Rises : ℕ → ℕ → List ℕ → Type 0
Rises low v [] = Unit {0}
Rises low v (p ∷ b) = (low ≤ p) × (p < v) × Rises (p + 1) v b

-- a set of numbers below n, written as the increasing list of its members
abbrev pub IsSet : ℕ → List ℕ → Type 0
IsSet n set = Rises 0 n set
