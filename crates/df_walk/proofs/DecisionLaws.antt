-- What one decision does to what is taken and to the cap.
use Rattle.std.proofs.Common.{◌≡◌, ℕ, suc, zero, ◌+◌, ◌*◌, ◌≤◌, Bool, true, false, List, [], ◌∷◌, length, get_or, set, drop, Some, None, refl, ap, arith, ◌<◌}
use Rattle.std.specs.Prelude.{slice_get}
use Rattle.df_walk.specs.Systems.{System, entries, entry}
use Rattle.df_walk.specs.Assignments.{Decisions, open_values, taken, cap}
use Rattle.df_walk.specs.Walks.{decided}
use Rattle.df_walk.proofs.EntryLaws.{length-entries}

-- a yes takes the entry
pub taken-set_yes : (es : List ℕ) (ds : Decisions) (c : ℕ) → slice_get ds c ≡ Some None → taken es (set ds c (Some true)) ≡ taken es ds + get_or es c 0
taken-set_yes es [] c h = absurd (let e = h in cc)
taken-set_yes [] (d ∷ ds) zero h = omega arith
taken-set_yes [] (d ∷ ds) (suc c) h = omega arith
taken-set_yes (e ∷ es) (None ∷ ds) zero h = omega arith
taken-set_yes (e ∷ es) (Some b ∷ ds) zero h = absurd (let f = h in cc)
taken-set_yes (e ∷ es) (None ∷ ds) (suc c) h = taken-set_yes es ds c h
taken-set_yes (e ∷ es) (Some true ∷ ds) (suc c) h = omega (arith, taken-set_yes es ds c h)
taken-set_yes (e ∷ es) (Some false ∷ ds) (suc c) h = taken-set_yes es ds c h

-- a no takes nothing
pub taken-set_no : (es : List ℕ) (ds : Decisions) (c : ℕ) → slice_get ds c ≡ Some None → taken es (set ds c (Some false)) ≡ taken es ds
taken-set_no es [] c h = absurd (let e = h in cc)
taken-set_no [] (d ∷ ds) zero h = refl
taken-set_no [] (d ∷ ds) (suc c) h = refl
taken-set_no (e ∷ es) (None ∷ ds) zero h = refl
taken-set_no (e ∷ es) (Some b ∷ ds) zero h = absurd (let f = h in cc)
taken-set_no (e ∷ es) (None ∷ ds) (suc c) h = taken-set_no es ds c h
taken-set_no (e ∷ es) (Some true ∷ ds) (suc c) h = omega (arith, taken-set_no es ds c h)
taken-set_no (e ∷ es) (Some false ∷ ds) (suc c) h = taken-set_no es ds c h

-- either takes the entry out of the cap
pub cap-set : (es : List ℕ) (ds : Decisions) (c : ℕ) (b : Bool) → slice_get ds c ≡ Some None → cap es (set ds c (Some b)) + get_or es c 0 ≡ cap es ds
cap-set es [] c b h = absurd (let e = h in cc)
cap-set [] (d ∷ ds) zero b h = omega arith
cap-set [] (d ∷ ds) (suc c) b h = omega arith
cap-set (e ∷ es) (None ∷ ds) zero b h = omega arith
cap-set (e ∷ es) (Some a ∷ ds) zero b h = absurd (let f = h in cc)
cap-set (e ∷ es) (None ∷ ds) (suc c) b h = omega (arith, cap-set es ds c b h)
cap-set (e ∷ es) (Some a ∷ ds) (suc c) b h = cap-set es ds c b h

-- what is taken and the cap are at most what all columns have
pub taken_cap_le : (es : List ℕ) (ds : Decisions) → taken es ds + cap es ds ≤ cap es []
taken_cap_le [] [] = omega arith
taken_cap_le [] (d ∷ ds) = omega arith
taken_cap_le (e ∷ es) [] = omega arith
taken_cap_le (e ∷ es) (None ∷ ds) = omega (arith, taken_cap_le es ds)
taken_cap_le (e ∷ es) (Some true ∷ ds) = omega (arith, taken_cap_le es ds)
taken_cap_le (e ∷ es) (Some false ∷ ds) = omega (arith, taken_cap_le es ds)

-- past a path stand the undecided columns
pub open_values-decided : (es : List ℕ) (p : List Bool) → open_values es (decided p) ≡ drop (length p) es
open_values-decided [] [] = refl
open_values-decided [] (b ∷ p) = refl
open_values-decided (e ∷ es) [] = ap (λ l. e ∷ l) (open_values-decided es [])
open_values-decided (e ∷ es) (b ∷ p) = open_values-decided es p

cap_bounded : (es : List ℕ) (most : ℕ) → ((k : ℕ) → k < length es → get_or es k 0 ≤ most) → cap es [] ≤ most * length es
cap_bounded [] most h = omega arith
cap_bounded (e ∷ es) most h = omega (arith, h 0 (omega arith), cap_bounded es most (λ k l. h (suc k) (omega arith)))

pub sums_bounded : (s : System) (ds : Decisions) (row most : ℕ) → ((column : ℕ) → column < length s.columns → entry s row column ≤ most) → taken (entries s row) ds + cap (entries s row) ds ≤ most * length s.columns
sums_bounded s ds row most h =
    let long = length-entries s row in
    let bound = cap_bounded (entries s row) most (λ k l. h k (omega arith)) in
    let same = ap (λ n. most * n) long in
    omega (arith, taken_cap_le (entries s row) ds)
