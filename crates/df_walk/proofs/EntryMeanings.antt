-- What the entry of a path says of it.
use Rattle.std.proofs.Common.{◌≡◌, ℕ, ◌≤◌, Bool, true, false, List, [], ◌∷◌, length, Option, Some, None, refl, sym, ◌∙◌, arith}
use Rattle.std.specs.List.{list_any, list_all}
use Rattle.std.proofs.lemmas.Bool.{true≢false, ltb-false, eq-eqb, and_parts, and_from, or_parts}
use Rattle.df_walk.specs.declared.Rules.{Rules}
use Rattle.df_walk.specs.declared.Rules.TheVariants.{Plain, Divisor}
use Rattle.df_walk.specs.declared.Entry.{Entry}
use Rattle.df_walk.specs.declared.Entry.TheVariants.{Branch, Over, Under, Settled, Residue, Cut}
use Rattle.df_walk.specs.Systems.{System, rows_of, entries, target}
use Rattle.df_walk.specs.Assignments.{Decisions, open_values, taken, cap, divisor, is_over, is_under, is_met, has_residue, leaves_rest, is_settled, least_over, least_under, least_residue}
use Rattle.df_walk.specs.Logs.{RowPasses, is_residue}
use Rattle.df_walk.specs.Walks.{decided, entry_from, entry_at}
use Rattle.df_walk.proofs.CommonDivisors.{common_divisor_common}
use Rattle.df_walk.proofs.EntryLaws.{length-entries}
use Rattle.df_walk.proofs.RowTests.{least_row_passes, none_found}

-- by the divisor's rules no row has a residue
abbrev pub NoResidue : Rules → System → Decisions → Type 0
NoResidue Plain s ds = Unit {0}
NoResidue Divisor s ds = list_any (has_residue s ds) (rows_of s) ≡ false

-- the row's residue is looked for, and the number is its divisor
abbrev pub HasResidue : Rules → System → Decisions → ℕ → ℕ → Type 0
HasResidue rules s ds row m = (rules ≡ Divisor) × RowPasses s row (has_residue s ds) × (m ≡ divisor (entries s row) ds)

-- what an entry says
abbrev pub Says : Rules → System → List Bool → Entry → Type 0
Says rules s p (Over row) = RowPasses s row (is_over s (decided p))
Says rules s p (Under row) = RowPasses s row (is_under s (decided p))
Says rules s p (Residue row m) = HasResidue rules s (decided p) row m
Says rules s p (Cut ws) = ⊥
Says rules s p Settled = is_settled s (decided p) ≡ true
Says rules s p (Branch column) = (column ≡ length p) × (list_any (is_over s (decided p)) (rows_of s) ≡ false) × (list_any (is_under s (decided p)) (rows_of s) ≡ false) × NoResidue rules s (decided p) × (is_settled s (decided p) ≡ false)

found_residue : (rules : Rules) (s : System) (ds : Decisions) (row : ℕ) → least_residue rules s ds ≡ Some row → HasResidue rules s ds row (divisor (entries s row) ds)
found_residue Plain s ds row h = absurd (let e = h in cc)
found_residue Divisor s ds row h = (refl, (least_row_passes s (has_residue s ds) row h).0, refl)

no_residue : (rules : Rules) (s : System) (ds : Decisions) → least_residue rules s ds ≡ None → NoResidue rules s ds
no_residue Plain s ds h = tt
no_residue Divisor s ds h = none_found (has_residue s ds) (rows_of s) h

-- the entry of a path says what it must
pub entry_says : (rules : Rules) (s : System) (p : List Bool) → Says rules s p (entry_at rules s p)
entry_says rules s p = go (least_over s (decided p)) (least_under s (decided p)) (least_residue rules s (decided p)) (is_settled s (decided p)) refl refl refl refl
  where
    go : (o u r : Option ℕ) (m : Bool) → least_over s (decided p) ≡ o → least_under s (decided p) ≡ u → least_residue rules s (decided p) ≡ r → is_settled s (decided p) ≡ m → Says rules s p (entry_from o u r (λ row. divisor (entries s row) (decided p)) m (length p))
    go (Some row) u r m a b c d = (least_row_passes s (is_over s (decided p)) row a).0
    go None (Some row) r m a b c d = (least_row_passes s (is_under s (decided p)) row b).0
    go None None (Some row) m a b c d = found_residue rules s (decided p) row c
    go None None None true a b c d = d
    go None None None false a b c d = (refl, none_found (is_over s (decided p)) (rows_of s) a, none_found (is_under s (decided p)) (rows_of s) b, no_residue rules s (decided p) c, d)

-- with every column decided nothing may come
cap_decided : (es : List ℕ) (p : List Bool) → length es ≤ length p → cap es (decided p) ≡ 0
cap_decided [] p h = refl
cap_decided (e ∷ es) [] h = absurd (omega arith)
cap_decided (e ∷ es) (b ∷ p) h = cap_decided es p (omega arith)

whole_met : (s : System) (p : List Bool) (rs : List ℕ) → length s.columns ≤ length p → list_any (is_over s (decided p)) rs ≡ false → list_any (is_under s (decided p)) rs ≡ false → list_all (is_met s (decided p)) rs ≡ true
whole_met s p [] long o u = refl
whole_met s p (row ∷ rs) long o u =
    let over = or_parts (is_over s (decided p) row) (list_any (is_over s (decided p)) rs) o in
    let under = or_parts (is_under s (decided p) row) (list_any (is_under s (decided p)) rs) u in
    let none = cap_decided (entries s row) p (omega (arith, length-entries s row)) in
    let high = ltb-false (target s row) (taken (entries s row) (decided p)) over.0 in
    let low = ltb-false _ (target s row) under.0 in
    and_from (is_met s (decided p) row) (list_all (is_met s (decided p)) rs) (eq-eqb (target s row) (taken (entries s row) (decided p)) (omega arith)) (whole_met s p rs long over.1 under.1)

-- with every column decided a path that is neither over nor under is settled
pub whole_settled : (s : System) (p : List Bool) → length s.columns ≤ length p → list_any (is_over s (decided p)) (rows_of s) ≡ false → list_any (is_under s (decided p)) (rows_of s) ≡ false → is_settled s (decided p) ≡ true
whole_settled s p long o u = whole_met s p (rows_of s) long o u

-- a branch has a column left
pub branch_short : (rules : Rules) (s : System) (p : List Bool) (column : ℕ) → Says rules s p (Branch column) → length s.columns ≤ length p → ⊥
branch_short rules s p column h long = true≢false (sym (whole_settled s p long h.1 h.2) ∙ h.4)

-- a row with a residue is one for its divisor
pub residue_passes : (rules : Rules) (s : System) (ds : Decisions) (row m : ℕ) → HasResidue rules s ds row m → RowPasses s row (is_residue s ds m)
residue_passes rules s ds row m h =
    let parts = and_parts _ (leaves_rest s ds (divisor (entries s row) ds) row) h.1.1 in
    let common = common_divisor_common (open_values (entries s row) ds) in
    (h.1.0, rw (h.2) (and_from _ (leaves_rest s ds (divisor (entries s row) ds) row) (and_from _ _ parts.0 common.divides) parts.1))
