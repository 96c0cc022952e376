-- The entries of a walk may stand in a dossier.
use Rattle.std.proofs.Common.{◌≡◌, ℕ, zero, suc, ◌+◌, ◌<◌, ◌≤◌, Bool, true, false, ltb, List, [], ◌∷◌, ◌++◌, length, length-append, Option, Some, None, IfSome, inl, inr, refl, arith, tests}
use Rattle.std.specs.Prelude.{slice_index}
use Rattle.std.specs.List.{list_all}
use Rattle.std.proofs.lemmas.Bool.{and_parts, cases_eq}
use Rattle.std.proofs.lemmas.Nat.Gcd.{le_of_dvd}
use Rattle.df_lists.specs.Membership.{In}
use Rattle.df_lists.proofs.MemberLaws.{In-append_cases}
use Rattle.df_io.specs.Joined.{Each}
use Rattle.df_walk.specs.declared.Rules.{Rules}
use Rattle.df_walk.specs.declared.Rules.TheVariants.{Plain, Divisor}
use Rattle.df_walk.specs.declared.Entry.{Entry}
use Rattle.df_walk.specs.declared.Entry.TheVariants.{Branch, Over, Under, Settled, Residue, Cut}
use Rattle.df_walk.specs.Systems.{System, entries, entry}
use Rattle.df_walk.specs.Assignments.{Decisions, open_values, total, is_multiple, common_divisor, divisor, is_over, is_under, leaves_rest, has_residue, is_settled, least_row, least_over, least_under, least_residue}
use Rattle.df_walk.specs.Walks.{Step, decided, entry_from, entry_at, below, walk_from}
use Rattle.df_walk.proofs.CommonDivisors.{dvd_from_is_multiple, common_divisor_common}
use Rattle.df_walk.proofs.EntryLaws.{length-entries}
use Rattle.df_walk.proofs.RowTests.{least_row_passes}
use Rattle.df_dossier.specs.RoundTrips.{IsLogged}

-- the greatest common divisor is at most the greatest number
shared_small : (g most : ℕ) (ns : List ℕ) → list_all (is_multiple g) ns ≡ true → Each (λ n. n ≤ most) ns → 0 < total ns → g ≤ most
shared_small g most [] all each some = absurd (omega arith)
shared_small g most (n ∷ ns) all each some =
    let parts = and_parts (is_multiple g n) (list_all (is_multiple g) ns) all in
    elim (cases_eq n 0) [
      | inl none ↦ shared_small g most ns parts.1 each.1 (omega (arith, none, some))
      | inr there ↦
          let positive : 0 < n = omega (arith, there) in
          let low = le_of_dvd positive (dvd_from_is_multiple g n parts.0) in omega (arith, low, each.0)
    ]

divisor_small : (most : ℕ) (ns : List ℕ) → Each (λ n. n ≤ most) ns → 0 < common_divisor ns → common_divisor ns ≤ most
divisor_small most ns each some = shared_small (common_divisor ns) most ns (common_divisor_common ns).divides each (by_total (total ns) refl)
  where
    by_total : (t : ℕ) → total ns ≡ t → 0 < total ns
    by_total zero none = let no : common_divisor ns ≡ 0 = rw none refl in absurd (omega (arith, no, some))
    by_total (suc t) is = omega (arith, is)

open_small : (most : ℕ) (ns : List ℕ) (ds : Decisions) → Each (λ n. n ≤ most) ns → Each (λ n. n ≤ most) (open_values ns ds)
open_small most [] ds each = tt
open_small most (n ∷ ns) [] each = (each.0, open_small most ns [] each.1)
open_small most (n ∷ ns) (None ∷ ds) each = (each.0, open_small most ns ds each.1)
open_small most (n ∷ ns) (Some b ∷ ds) each = open_small most ns ds each.1

each_small : (most : ℕ) (ns : List ℕ) → ((k : ℕ) → k < length ns → slice_index ns k ≤ most) → Each (λ n. n ≤ most) ns
each_small most [] at = tt
each_small most (n ∷ ns) at = (at 0 (omega arith), each_small most ns (λ k h. at (suc k) (omega (arith, h))))

-- a row with a residue, where one is looked for
abbrev FitsResidue : Rules → (ℕ → ℕ) → Option ℕ → Type 0
FitsResidue rules divisors None = Unit {0}
FitsResidue Plain divisors (Some row) = ⊥
FitsResidue Divisor divisors (Some row) = (row ≤ 4294967295) × (2 ≤ divisors row) × (divisors row ≤ 4294967295)

entry_fits : (rules : Rules) (over under residue : Option ℕ) (divisors : ℕ → ℕ) (met : Bool) (column : ℕ) → IfSome over (λ row. row ≤ 4294967295) → IfSome under (λ row. row ≤ 4294967295) → FitsResidue rules divisors residue → column ≤ 4294967295
    → IsLogged rules (entry_from over under residue divisors met column)
entry_fits rules (Some row) under residue divisors met column o u r c = o
entry_fits rules None (Some row) residue divisors met column o u r c = u
entry_fits Plain None None (Some row) divisors met column o u r c = absurd r
entry_fits Divisor None None (Some row) divisors met column o u r c = r
entry_fits rules None None None divisors true column o u r c = tt
entry_fits rules None None None divisors false column o u r c = c

-- a system whose rows, columns and entries are numbers that may stand in a dossier
pub record IsNumbered (s : System) : Type 0 where
  pub columns : length s.columns ≤ 4294967295
  pub rows : length s.targets ≤ 4294967295
  pub entries : (row column : ℕ) → row < length s.targets → column < length s.columns → entry s row column ≤ 4294967295

-- a step of a walk: an entry of a path of columns
pub record IsStepOf (rules : Rules) (s : System) (step : Step) : Type 0 where
  pub entry : step.1 ≡ entry_at rules s step.0
  pub short : length step.0 ≤ length s.columns

module _ (s : System) (is : IsNumbered s) where
  row_small : (test : ℕ → Bool) → IfSome (least_row s test) (λ row. row ≤ 4294967295)
  row_small test = go (least_row s test) refl
    where
      go : (o : Option ℕ) → least_row s test ≡ o → IfSome o (λ row. row ≤ 4294967295)
      go None e = tt
      go (Some row) e = let passes = least_row_passes s test row e in omega (arith, passes.0.0, is.rows)

  row_entries : (row : ℕ) → row < length s.targets → Each (λ n. n ≤ 4294967295) (entries s row)
  row_entries row there = each_small 4294967295 (entries s row) (λ k h. is.entries row k there (omega (arith, h, length-entries s row)))

  residue_fits : (rules : Rules) (ds : Decisions) → FitsResidue rules (λ row. divisor (entries s row) ds) (least_residue rules s ds)
  residue_fits Plain ds = tt
  residue_fits Divisor ds = go (least_row s (has_residue s ds)) refl
    where
      go : (o : Option ℕ) → least_row s (has_residue s ds) ≡ o → FitsResidue Divisor (λ row. divisor (entries s row) ds) o
      go None e = tt
      go (Some row) e =
          let passes = (least_row_passes s (has_residue s ds) row e).0 in
          let parts = and_parts (ltb 1 (divisor (entries s row) ds)) (leaves_rest s ds (divisor (entries s row) ds) row) passes.1 in
          let much = parts.0 in
          let some : 1 < divisor (entries s row) ds = grind (arith, tests, much) in
          let small = divisor_small 4294967295 (open_values (entries s row) ds) (open_small 4294967295 (entries s row) ds (row_entries row passes.0)) (omega (arith, some)) in
          (omega (arith, passes.0, is.rows), omega (arith, some), small)

  -- each entry of the walk may stand in a dossier
  pub entry_logged : (rules : Rules) (p : List Bool) → length p ≤ length s.columns → IsLogged rules (entry_at rules s p)
  entry_logged rules p short =
      entry_fits rules (least_over s (decided p)) (least_under s (decided p)) (least_residue rules s (decided p)) (λ row. divisor (entries s row) (decided p)) (is_settled s (decided p)) (length p)
      (row_small (is_over s (decided p))) (row_small (is_under s (decided p))) (residue_fits rules (decided p)) (omega (arith, short, is.columns))

  pub step_logged : (rules : Rules) (step : Step) → IsStepOf rules s step → IsLogged rules step.1
  step_logged rules step h = let e = h.entry in rw e (entry_logged rules step.0 h.short)

in_below : (e : Entry) (more : List Step) (step : Step) → In (below e more) step → In more step
in_below (Branch column) more step i = i
in_below Settled more step i = absurd i
in_below (Over row) more step i = absurd i
in_below (Under row) more step i = absurd i
in_below (Residue row m) more step i = absurd i
in_below (Cut ws) more step i = absurd i

step_here : (rules : Rules) (s : System) (p : List Bool) (step : Step) → length p ≤ length s.columns → (p, entry_at rules s p) ≡ step → IsStepOf rules s step
step_here rules s p step h same = rw (← same) (record { entry = refl; short = h })

-- the steps of a walk
pub walk_steps : (rules : Rules) (s : System) (left : ℕ) (p : List Bool) (step : Step) → left + length p ≤ length s.columns → In (walk_from rules s left p) step → IsStepOf rules s step
walk_steps rules s zero p step h i =
    elim i [
      | inl same ↦ step_here rules s p step (omega (arith, h)) same
      | inr none ↦ absurd none
    ]
walk_steps rules s (suc left) p step h i =
    elim i [
      | inl same ↦ step_here rules s p step (omega (arith, h)) same
      | inr later ↦
          elim (In-append_cases (walk_from rules s left (p ++ true ∷ [])) (walk_from rules s left (p ++ false ∷ [])) step (in_below (entry_at rules s p) _ step later)) [
            | inl with_yes ↦ walk_steps rules s left (p ++ true ∷ []) step (omega (arith, h, length-append p (true ∷ []))) with_yes
            | inr with_no ↦ walk_steps rules s left (p ++ false ∷ []) step (omega (arith, h, length-append p (false ∷ []))) with_no
          ]
    ]
