-- What the rows of a path have, by its yes columns: the same as by its decisions.
use Rattle.std.proofs.Common.{◌≡◌, ℕ, zero, suc, ◌+◌, Bool, true, false, List, [], ◌∷◌, ◌++◌, length, drop, refl, sym, ap, ◌∙◌, arith}
use Rattle.std.specs.Prelude.{replicate, nat_lt, not, ◌&&◌, ◌%◌, ◌==◌, slice_index}
use Rattle.std.specs.List.{list_all}
use Rattle.df_walk.specs.declared.Rules.{Rules}
use Rattle.df_walk.specs.declared.Rules.TheVariants.{Plain, Divisor}
use Rattle.df_walk.specs.Systems.{System, rows_of, entries, entry, target}
use Rattle.df_walk.specs.Assignments.{total, taken, cap, divisor, common_divisor, is_over, is_under, is_met, has_residue, is_settled, least_row, least_over, least_under, least_residue}
use Rattle.df_walk.specs.Walks.{decided}
use Rattle.df_walk.proofs.RowTests.{least_row_agrees, rows_agree}
use Rattle.df_walk.proofs.DecisionLaws.{open_values-decided}
use Rattle.df_system.specs.PathRows.{Yeses, taken_in, taken_by, is_over_in, is_met_in, is_short_from, has_residue_from, divisor_from, least_residue_by}
use Rattle.df_search.specs.HeldPaths.{IsTrail}

nos_take_none : (es : List ℕ) (n : ℕ) → taken es (decided (replicate n false)) ≡ 0
nos_take_none es zero = refl
nos_take_none [] (suc n) = refl
nos_take_none (e ∷ es) (suc n) = nos_take_none es n

-- further no's take nothing
taken-nos : (es : List ℕ) (p : List Bool) (n : ℕ) → taken es (decided (p ++ replicate n false)) ≡ taken es (decided p)
taken-nos es [] n = nos_take_none es n
taken-nos [] (b ∷ p) n = refl
taken-nos (e ∷ es) (true ∷ p) n = ap (λ k. e + k) (taken-nos es p n)
taken-nos (e ∷ es) (false ∷ p) n = taken-nos es p n

-- a yes takes the next entry
pub taken-yes : (es : List ℕ) (p : List Bool) → taken es (decided (p ++ true ∷ [])) ≡ taken es (decided p) + slice_index es (length p)
taken-yes [] [] = refl
taken-yes (e ∷ es) [] = omega arith
taken-yes [] (b ∷ p) = refl
taken-yes (e ∷ es) (true ∷ p) = ap (λ k. e + k) (taken-yes es p) ∙ omega arith
taken-yes (e ∷ es) (false ∷ p) = taken-yes es p

-- a path takes what its yes columns take
pub trail_taken : (s : System) (row : ℕ) (t : List ℕ) (q : List Bool) → IsTrail t q → taken_in s row t ≡ taken (entries s row) (decided q)
trail_taken s row [] q h = sym (ap (λ l. taken (entries s row) (decided l)) h ∙ nos_take_none (entries s row) (length q))
trail_taken s row (column ∷ earlier) q h =
    let es = entries s row in
    let p = h.0 in
    let all : taken es (decided q) ≡ taken es (decided p) + slice_index es (length p) = ap (λ l. taken es (decided l)) h.2 ∙ taken-nos es (p ++ true ∷ []) h.1 ∙ taken-yes es p in
    let here : slice_index es (length p) ≡ entry s row column = ap (λ c. entry s row c) h.3 in
    omega (arith, all, here, trail_taken s row earlier p h.4)

module _ (y : Yeses) (q : List Bool) (t : IsTrail y.chosen q) where
  has : (row : ℕ) → taken_by y row ≡ taken (entries y.system row) (decided q)
  has row = trail_taken y.system row y.chosen q t

  rest : (row : ℕ) → cap (entries y.system row) (decided q) ≡ total (drop (length q) (entries y.system row))
  rest row = ap total (open_values-decided (entries y.system row) q)

  pub same_over : (row : ℕ) → is_over_in y row ≡ is_over y.system (decided q) row
  same_over row = ap (λ n. nat_lt (target y.system row) n) (has row)

  same_met : (row : ℕ) → is_met_in y row ≡ is_met y.system (decided q) row
  same_met row = ap (λ n. target y.system row == n) (has row)

  pub same_short : (row : ℕ) → is_short_from y (length q) row ≡ is_under y.system (decided q) row
  same_short row = ap (λ n. nat_lt (n + total (drop (length q) (entries y.system row))) (target y.system row)) (has row) ∙ ap (λ n. nat_lt (taken (entries y.system row) (decided q) + n) (target y.system row)) (sym (rest row))

  pub same_divisor : (row : ℕ) → divisor_from y.system (length q) row ≡ divisor (entries y.system row) (decided q)
  same_divisor row = ap common_divisor (sym (open_values-decided (entries y.system row) q))

  pub same_residue : (row : ℕ) → has_residue_from y (length q) row ≡ has_residue y.system (decided q) row
  same_residue row =
      let goal = target y.system row in
      ap (λ n. nat_lt 1 (divisor_from y.system (length q) row) && not (goal % divisor_from y.system (length q) row == n % divisor_from y.system (length q) row)) (has row) ∙ ap (λ d. nat_lt 1 d && not (goal % d == taken (entries y.system row) (decided q) % d)) (same_divisor row)

  pub held_over : least_row y.system (is_over_in y) ≡ least_over y.system (decided q)
  held_over = least_row_agrees y.system (is_over_in y) (is_over y.system (decided q)) same_over

  pub held_short : least_row y.system (is_short_from y (length q)) ≡ least_under y.system (decided q)
  held_short = least_row_agrees y.system (is_short_from y (length q)) (is_under y.system (decided q)) same_short

  residue_by : (rules : Rules) → least_residue_by rules y (length q) ≡ least_residue rules y.system (decided q)
  residue_by Plain = refl
  residue_by Divisor = least_row_agrees y.system (has_residue_from y (length q)) (has_residue y.system (decided q)) same_residue

  pub held_residue : least_residue_by y.rules y (length q) ≡ least_residue y.rules y.system (decided q)
  held_residue = residue_by y.rules

  pub held_settled : list_all (is_met_in y) (rows_of y.system) ≡ is_settled y.system (decided q)
  held_settled = rows_agree (is_met_in y) (is_met y.system (decided q)) (rows_of y.system) same_met
