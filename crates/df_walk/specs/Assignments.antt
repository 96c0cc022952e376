-- What decisions for some columns leave of each row: its need, its cap and its divisor.
use Rattle.std.specs.Prelude.{ℕ, zero, suc, ◌+◌, ◌%◌, Bool, true, false, not, ◌&&◌, if◌then◌else◌, ◌==◌, nat_lt, List, [], ◌∷◌, Option, Some, None, ℤ, pos, ◌-ℤ◌, find}
use Rattle.std.specs.List.{list_all}
use Rattle.df_walk.specs.declared.Rules.{Rules}
use Rattle.df_walk.specs.declared.Rules.TheVariants.{Plain, Divisor}
use Rattle.df_walk.specs.Systems.{System, rows_of, entries, target}

-- a decision for each column, the first column first: yes, no, or none yet. Columns past the end have none yet, so that a path is a list of decisions too
abbrev pub Decisions : Type 0
Decisions = List (Option Bool)

-- the values that stand at the yes columns
abbrev pub yes_values : {X : Type 0} → List X → Decisions → List X
yes_values xs [] = []
yes_values [] (d ∷ ds) = []
yes_values (x ∷ xs) (None ∷ ds) = yes_values xs ds
yes_values (x ∷ xs) (Some true ∷ ds) = x ∷ yes_values xs ds
yes_values (x ∷ xs) (Some false ∷ ds) = yes_values xs ds

-- the values that stand at the undecided columns
abbrev pub open_values : {X : Type 0} → List X → Decisions → List X
open_values [] ds = []
open_values (x ∷ xs) [] = x ∷ open_values xs []
open_values (x ∷ xs) (None ∷ ds) = x ∷ open_values xs ds
open_values (x ∷ xs) (Some b ∷ ds) = open_values xs ds

abbrev pub total : List ℕ → ℕ
total [] = 0
total (n ∷ ns) = n + total ns

-- n is a multiple of m
abbrev pub is_multiple : ℕ → ℕ → Bool
is_multiple m n = n % m == 0

-- the greatest number up to the bound that divides each of the numbers, and 0 at bound 0
abbrev pub greatest_dividing : ℕ → List ℕ → ℕ
greatest_dividing zero ns = 0
greatest_dividing (suc m) ns = if list_all (is_multiple (suc m)) ns then suc m else greatest_dividing m ns

-- the greatest common divisor, and 0 where all are 0
abbrev pub common_divisor : List ℕ → ℕ
common_divisor ns = greatest_dividing (total ns) ns

-- the sum of a row's entries at the yes columns
abbrev pub taken : List ℕ → Decisions → ℕ
taken es ds = total (yes_values es ds)

-- the sum of its entries at the undecided columns
abbrev pub cap : List ℕ → Decisions → ℕ
cap es ds = total (open_values es ds)

-- the greatest common divisor of its entries at the undecided columns
abbrev pub divisor : List ℕ → Decisions → ℕ
divisor es ds = common_divisor (open_values es ds)

-- the target less what is taken
abbrev pub need : System → Decisions → ℕ → ℤ
need s ds row = pos (target s row) -ℤ pos (taken (entries s row) ds)

-- the need is negative
abbrev pub is_over : System → Decisions → ℕ → Bool
is_over s ds row = nat_lt (target s row) (taken (entries s row) ds)

-- the need is above the cap
abbrev pub is_under : System → Decisions → ℕ → Bool
is_under s ds row = nat_lt (taken (entries s row) ds + cap (entries s row) ds) (target s row)

-- the need isn't a multiple of m: the target and what is taken leave different rests
abbrev pub leaves_rest : System → Decisions → ℕ → ℕ → Bool
leaves_rest s ds m row = not (target s row % m == taken (entries s row) ds % m)

-- the row's divisor is at least 2 and doesn't divide the need
abbrev pub has_residue : System → Decisions → ℕ → Bool
has_residue s ds row = nat_lt 1 (divisor (entries s row) ds) && leaves_rest s ds (divisor (entries s row) ds) row

-- the need is 0
abbrev pub is_met : System → Decisions → ℕ → Bool
is_met s ds row = target s row == taken (entries s row) ds

-- all needs are 0
abbrev pub is_settled : System → Decisions → Bool
is_settled s ds = list_all (is_met s ds) (rows_of s)

-- the least row that passes a test
abbrev pub least_row : System → (ℕ → Bool) → Option ℕ
least_row s test = find test (rows_of s)

abbrev pub least_over : System → Decisions → Option ℕ
least_over s ds = least_row s (is_over s ds)

abbrev pub least_under : System → Decisions → Option ℕ
least_under s ds = least_row s (is_under s ds)

-- the least row with a residue, which is looked for by the divisor's rules alone
abbrev pub least_residue : Rules → System → Decisions → Option ℕ
least_residue Plain s ds = None
least_residue Divisor s ds = least_row s (has_residue s ds)
