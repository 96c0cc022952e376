-- A path as the decisions of all columns: padding changes nothing.
use Rattle.std.proofs.Common.{◌≡◌, ℕ, suc, zero, ◌+◌, ◌-◌, ◌<◌, Bool, true, false, List, [], ◌∷◌, ◌++◌, length, set, Some, None, refl, ap, arith, length-append}
use Rattle.std.specs.Prelude.{slice_get, replicate, ◌&&◌}
use Rattle.df_walk.specs.declared.Rules.{Rules}
use Rattle.df_walk.specs.declared.Rules.TheVariants.{Plain, Divisor}
use Rattle.df_walk.specs.Systems.{System, rows_of, entries}
use Rattle.df_walk.specs.Assignments.{open_values, common_divisor, taken, divisor, is_over, is_under, is_met, has_residue, leaves_rest, is_settled, least_over, least_under, least_residue}
use Rattle.df_walk.specs.Solutions.{keeps, is_solution, solutions, solutions_with}
use Rattle.df_walk.specs.Walks.{decided}
use Rattle.df_walk.specs.Logs.{is_residue}
use Rattle.df_walk.specs.Remains.{padded, turned}
use Rattle.df_walk.proofs.VectorFilters.{vectors_agree}
use Rattle.df_walk.proofs.RowTests.{least_row_agrees, rows_agree}

taken-none : (es : List ℕ) (k : ℕ) → taken es (replicate k None) ≡ 0
taken-none es zero = refl
taken-none [] (suc k) = refl
taken-none (e ∷ es) (suc k) = taken-none es k

open_values-none : {X : Type 0} (xs : List X) (k : ℕ) → open_values xs (replicate k None) ≡ open_values xs []
open_values-none xs zero = refl
open_values-none [] (suc k) = refl
open_values-none (x ∷ xs) (suc k) = ap (λ l. x ∷ l) (open_values-none xs k)

pub open_values-open : {X : Type 0} (xs : List X) (p : List Bool) (k : ℕ) → open_values xs (decided p ++ replicate k None) ≡ open_values xs (decided p)
open_values-open xs [] k = open_values-none xs k
open_values-open [] (b ∷ p) k = refl
open_values-open (x ∷ xs) (b ∷ p) k = open_values-open xs p k

pub taken-open : (es : List ℕ) (p : List Bool) (k : ℕ) → taken es (decided p ++ replicate k None) ≡ taken es (decided p)
taken-open es [] k = taken-none es k
taken-open [] (b ∷ p) k = refl
taken-open (e ∷ es) (true ∷ p) k = ap (λ m. e + m) (taken-open es p k)
taken-open (e ∷ es) (false ∷ p) k = taken-open es p k

pub is_over-padded : (s : System) (columns : ℕ) (p : List Bool) (row : ℕ) → is_over s (padded columns p) row ≡ is_over s (decided p) row
is_over-padded s columns p row = rw (taken-open (entries s row) p (columns - length p))

pub is_under-padded : (s : System) (columns : ℕ) (p : List Bool) (row : ℕ) → is_under s (padded columns p) row ≡ is_under s (decided p) row
is_under-padded s columns p row = rw (taken-open (entries s row) p (columns - length p), open_values-open (entries s row) p (columns - length p))

pub is_met-padded : (s : System) (columns : ℕ) (p : List Bool) (row : ℕ) → is_met s (padded columns p) row ≡ is_met s (decided p) row
is_met-padded s columns p row = rw (taken-open (entries s row) p (columns - length p))

pub divisor-padded : (s : System) (columns : ℕ) (p : List Bool) (row : ℕ) → divisor (entries s row) (padded columns p) ≡ divisor (entries s row) (decided p)
divisor-padded s columns p row = ap common_divisor (open_values-open (entries s row) p (columns - length p))

pub leaves_rest-padded : (s : System) (columns : ℕ) (p : List Bool) (m row : ℕ) → leaves_rest s (padded columns p) m row ≡ leaves_rest s (decided p) m row
leaves_rest-padded s columns p m row = rw (taken-open (entries s row) p (columns - length p))

pub has_residue-padded : (s : System) (columns : ℕ) (p : List Bool) (row : ℕ) → has_residue s (padded columns p) row ≡ has_residue s (decided p) row
has_residue-padded s columns p row = rw (divisor-padded s columns p row, leaves_rest-padded s columns p (divisor (entries s row) (decided p)) row)

pub is_residue-padded : (s : System) (columns : ℕ) (p : List Bool) (m row : ℕ) → is_residue s (padded columns p) m row ≡ is_residue s (decided p) m row
is_residue-padded s columns p m row = rw (open_values-open (entries s row) p (columns - length p), leaves_rest-padded s columns p m row)

pub padded_over : (s : System) (p : List Bool) → least_over s (padded (length s.columns) p) ≡ least_over s (decided p)
padded_over s p = least_row_agrees s (is_over s (padded (length s.columns) p)) (is_over s (decided p)) (is_over-padded s (length s.columns) p)

pub padded_under : (s : System) (p : List Bool) → least_under s (padded (length s.columns) p) ≡ least_under s (decided p)
padded_under s p = least_row_agrees s (is_under s (padded (length s.columns) p)) (is_under s (decided p)) (is_under-padded s (length s.columns) p)

pub padded_residue : (rules : Rules) (s : System) (p : List Bool) → least_residue rules s (padded (length s.columns) p) ≡ least_residue rules s (decided p)
padded_residue Plain s p = refl
padded_residue Divisor s p = least_row_agrees s (has_residue s (padded (length s.columns) p)) (has_residue s (decided p)) (has_residue-padded s (length s.columns) p)

pub padded_settled : (s : System) (p : List Bool) → is_settled s (padded (length s.columns) p) ≡ is_settled s (decided p)
padded_settled s p = rows_agree (is_met s (padded (length s.columns) p)) (is_met s (decided p)) (rows_of s) (is_met-padded s (length s.columns) p)

open_free : (p : List Bool) (k : ℕ) → slice_get (decided p ++ replicate (suc k) None) (length p) ≡ Some None
open_free [] k = refl
open_free (b ∷ p) k = open_free p k

open_push : (p : List Bool) (b : Bool) (k : ℕ) → set (decided p ++ replicate (suc k) None) (length p) (Some b) ≡ decided (p ++ b ∷ []) ++ replicate k None
open_push [] b k = refl
open_push (a ∷ p) b k = ap (λ l. Some a ∷ l) (open_push p b k)

open_pop : (p : List Bool) (b : Bool) (k : ℕ) → set (decided (p ++ b ∷ []) ++ replicate k None) (length p) None ≡ decided p ++ replicate (suc k) None
open_pop [] b k = refl
open_pop (a ∷ p) b k = ap (λ l. Some a ∷ l) (open_pop p b k)

one_left : (columns : ℕ) (p : List Bool) (b : Bool) → length p < columns → columns - length p ≡ suc (columns - length (p ++ b ∷ []))
one_left columns p b h = omega (arith, length-append p (b ∷ []))

-- the next column is undecided
pub padded_free : (columns : ℕ) (p : List Bool) → length p < columns → slice_get (padded columns p) (length p) ≡ Some None
padded_free columns p h = rw (one_left columns p true h) (open_free p (columns - length (p ++ true ∷ [])))

-- and may be decided
pub padded_push : (columns : ℕ) (p : List Bool) (b : Bool) → length p < columns → set (padded columns p) (length p) (Some b) ≡ padded columns (p ++ b ∷ [])
padded_push columns p b h = rw (one_left columns p b h) (open_push p b (columns - length (p ++ b ∷ [])))

-- and undecided again
pub padded_pop : (columns : ℕ) (p : List Bool) (b : Bool) → length p < columns → set (padded columns (p ++ b ∷ [])) (length p) None ≡ padded columns p
padded_pop columns p b h = rw (one_left columns p b h) (open_pop p b (columns - length (p ++ b ∷ [])))

pub turned_yes : (p : List Bool) → turned (p ++ true ∷ []) ≡ Some (p ++ false ∷ [])
turned_yes [] = refl
turned_yes (b ∷ p) = rw (turned_yes p)

pub turned_no : (p : List Bool) → turned (p ++ false ∷ []) ≡ turned p
turned_no [] = refl
turned_no (b ∷ p) = rw (turned_no p)

keeps-none : (n : ℕ) (x : List Bool) → length x ≡ n → keeps (replicate n None) x ≡ true
keeps-none zero x h = refl
keeps-none (suc n) [] h = absurd (omega arith)
keeps-none (suc n) (b ∷ x) h = keeps-none n x (omega arith)

-- with nothing decided all solutions are left
pub solutions_with-none : (s : System) → solutions_with s (replicate (length s.columns) None) ≡ solutions s
solutions_with-none s = vectors_agree (length s.columns) (λ x. keeps (replicate (length s.columns) None) x && is_solution s x) (is_solution s) (λ x l. rw (keeps-none (length s.columns) x l))
