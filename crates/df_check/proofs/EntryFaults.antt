-- An entry has no fault exactly where it holds.
use Rattle.std.proofs.Common.{◌≡◌, ℕ, ◌<◌, Bool, true, false, List, [], ◌∷◌, length, Option, Some, None, slice_get, refl, sym, ap, ◌∙◌, arith}
use Rattle.std.proofs.lemmas.Bool.{ltb-true, lt-ltb, and_parts, and_from}
use Rattle.std.specs.Prelude.{not, ◌&&◌, nat_lt, find, cond}
use Rattle.std.specs.List.{list_all, AllByRecursion}
use Rattle.df_walk.specs.declared.CutRow.{CutRow}
use Rattle.df_walk.specs.Systems.{System, rows_of}
use Rattle.df_walk.specs.Assignments.{Decisions, is_met, is_settled}
use Rattle.df_walk.specs.Logs.{RowPasses, CutPasses}
use Rattle.df_walk.specs.Cuts.{is_cut, least_weight, greatest_weight}
use Rattle.df_check.specs.declared.LogFault.{LogFault}
use Rattle.df_check.specs.declared.LogFault.TheVariants.{RowRange, NotCut}
use Rattle.df_check.specs.Entries.{unless, row_fault, branch_fault, least_unmet, unmet_fault, are_rows, cut_fault}

unless_holds : (holds : Bool) (fault : LogFault) → unless holds fault ≡ None → holds ≡ true
unless_holds true fault h = refl
unless_holds false fault h = absurd (let e = h in cc)

-- a row that is there passes
pub row_holds : (s : System) (row : ℕ) (test : ℕ → Bool) (fault : LogFault) → row_fault s row (test row) fault ≡ None → RowPasses s row test
row_holds s row test fault = go (nat_lt row (length s.targets)) (ltb-true row (length s.targets))
  where
    go : (b : Bool) → (b ≡ true → row < length s.targets) → cond b (unless (test row) fault) (Some RowRange) ≡ None → RowPasses s row test
    go true within h = (within refl, unless_holds (test row) fault h)
    go false within h = absurd (let e = h in cc)

pub row_has_none : (s : System) (row : ℕ) (test : ℕ → Bool) (fault : LogFault) → RowPasses s row test → row_fault s row (test row) fault ≡ None
row_has_none s row test fault h = let within = lt-ltb row (length s.targets) h.0 in rw (within, h.1)

-- a branch's column is undecided
pub branch_holds : (d : Option (Option Bool)) → branch_fault d ≡ None → d ≡ Some None
branch_holds None h = absurd (let e = h in cc)
branch_holds (Some None) h = refl
branch_holds (Some (Some b)) h = absurd (let e = h in cc)

-- nothing is found exactly where all pass
found_none : (p : ℕ → Bool) (xs : List ℕ) → find (λ x. not (p x)) xs ≡ None → list_all p xs ≡ true
found_none p [] = λ h. refl
found_none p (x ∷ xs) = go (p x) (found_none p xs)
  where
    go : (b : Bool) → (find (λ x. not (p x)) xs ≡ None → list_all p xs ≡ true) → cond (not b) (Some x) (find (λ x. not (p x)) xs) ≡ None → (b && list_all p xs) ≡ true
    go true more h = more h
    go false more h = absurd (let e = h in cc)

none_found : (p : ℕ → Bool) (xs : List ℕ) → list_all p xs ≡ true → find (λ x. not (p x)) xs ≡ None
none_found p [] = λ h. refl
none_found p (x ∷ xs) = go (p x) (none_found p xs)
  where
    go : (b : Bool) → (list_all p xs ≡ true → find (λ x. not (p x)) xs ≡ None) → (b && list_all p xs) ≡ true → cond (not b) (Some x) (find (λ x. not (p x)) xs) ≡ None
    go true more h = more h
    go false more h = absurd (let e = h in cc)

-- all needs are 0
pub settled_holds : (s : System) (ds : Decisions) → unmet_fault s ds (least_unmet s ds) ≡ None → is_settled s ds ≡ true
settled_holds s ds h = found_none (is_met s ds) (rows_of s) (none (least_unmet s ds) h)
  where
    none : (o : Option ℕ) → unmet_fault s ds o ≡ None → o ≡ None
    none None h = refl
    none (Some row) h = absurd (let e = h in cc)

pub settled_none : (s : System) (ds : Decisions) → is_settled s ds ≡ true → least_unmet s ds ≡ None
settled_none s ds h = none_found (is_met s ds) (rows_of s) h

pub settled_has_none : (s : System) (ds : Decisions) → is_settled s ds ≡ true → unmet_fault s ds (least_unmet s ds) ≡ None
settled_has_none s ds h = ap (unmet_fault s ds) (none_found (is_met s ds) (rows_of s) h)

-- the rows are there, and they leave no solution
rows_there : (n : ℕ) (ws : List CutRow) → list_all (λ w. nat_lt w.row n) ws ≡ true → AllByRecursion (λ w. w.row < n) ws
rows_there n [] h = tt
rows_there n (w ∷ ws) h = let parts = and_parts (nat_lt w.row n) (list_all (λ w. nat_lt w.row n) ws) h in (ltb-true w.row n parts.0, rows_there n ws parts.1)

rows_all : (n : ℕ) (ws : List CutRow) → AllByRecursion (λ w. w.row < n) ws → list_all (λ w. nat_lt w.row n) ws ≡ true
rows_all n [] h = refl
rows_all n (w ∷ ws) h = and_from (nat_lt w.row n) (list_all (λ w. nat_lt w.row n) ws) (lt-ltb w.row n h.0) (rows_all n ws h.1)

pub cut_holds : (s : System) (ds : Decisions) (ws : List CutRow) → cut_fault s ds ws ≡ None → CutPasses s ds ws
cut_holds s ds ws = go (are_rows s ws) (rows_there (length s.targets) ws)
  where
    go : (b : Bool) → (b ≡ true → AllByRecursion (λ w. w.row < length s.targets) ws) → cond b (unless (is_cut s ds ws) (NotCut (least_weight s ds ws) (greatest_weight s ds ws))) (Some RowRange) ≡ None → CutPasses s ds ws
    go true there h = (there refl, unless_holds (is_cut s ds ws) (NotCut (least_weight s ds ws) (greatest_weight s ds ws)) h)
    go false there h = absurd (let e = h in cc)

pub cut_has_none : (s : System) (ds : Decisions) (ws : List CutRow) → CutPasses s ds ws → cut_fault s ds ws ≡ None
cut_has_none s ds ws h = let there = rows_all (length s.targets) ws h.0 in rw (there, h.1)
