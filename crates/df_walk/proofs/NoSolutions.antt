-- Where the decisions are over, under or have a residue no solution keeps them.
use Rattle.std.proofs.Common.{◌≡◌, ℕ, ◌+◌, ◌*◌, ◌%◌, ◌<◌, Bool, true, false, List, [], ◌∷◌, length, Some, None, refl, sym, ap, ◌∙◌, arith}
use Rattle.std.specs.Prelude.{◌&&◌, ◌==◌}
use Rattle.std.specs.List.{list_all}
use Rattle.std.proofs.lemmas.Bool.{false≢true, true≢false, and_parts, ltb-true, eqb-true, eq-eqb, not_from_true, false_from_ne_true}
use Rattle.std.proofs.Math.Nat.{add-mul-mod_self_right}
use Rattle.df_walk.specs.Systems.{System, entries, target}
use Rattle.df_walk.specs.Assignments.{Decisions, open_values, is_multiple, taken, is_over, is_under, leaves_rest}
use Rattle.df_walk.specs.Solutions.{keeps, product, is_solution, solutions_with}
use Rattle.df_walk.specs.Logs.{RowPasses, is_residue}
use Rattle.df_walk.proofs.VectorFilters.{vectors_none}
use Rattle.df_walk.proofs.RowBounds.{taken_le, le_cap}
use Rattle.df_walk.proofs.RowTests.{row_passes}
use Rattle.df_walk.proofs.CommonDivisors.{times_of}

-- a solution that keeps the decisions
pub record KeepsAndSolves (s : System) (ds : Decisions) (x : List Bool) : Type 0 where
  pub kept : keeps ds x ≡ true
  pub solved : (row : ℕ) → row < length s.targets → target s row ≡ product (entries s row) x

pub keeps_and_solves : (s : System) (ds : Decisions) (x : List Bool) → (keeps ds x && is_solution s x) ≡ true → KeepsAndSolves s ds x
keeps_and_solves s ds x h =
    let both = and_parts (keeps ds x) (is_solution s x) h in
    record {
      kept = both.0;
      solved = λ row within. eqb-true (target s row) (product (entries s row) x) (row_passes s (λ row. target s row == product (entries s row) x) row both.1 within);
    }

pub none_solves : (s : System) (ds : Decisions) → ((x : List Bool) → length x ≡ length s.columns → KeepsAndSolves s ds x → ⊥) → solutions_with s ds ≡ []
none_solves s ds h = vectors_none (length s.columns) (λ x. keeps ds x && is_solution s x) (λ x l. false_from_ne_true (keeps ds x && is_solution s x) (λ t. h x l (keeps_and_solves s ds x t)))

pub over_none : (s : System) (ds : Decisions) (row : ℕ) → RowPasses s row (is_over s ds) → solutions_with s ds ≡ []
over_none s ds row h = none_solves s ds (λ x l k.
    let low = taken_le (entries s row) ds x k.kept in
    let above = ltb-true (target s row) (taken (entries s row) ds) h.1 in
    omega (arith, k.solved row h.0))

pub under_none : (s : System) (ds : Decisions) (row : ℕ) → RowPasses s row (is_under s ds) → solutions_with s ds ≡ []
under_none s ds row h = none_solves s ds (λ x l k.
    let high = le_cap (entries s row) ds x k.kept in
    let below = ltb-true _ (target s row) h.1 in
    omega (arith, k.solved row h.0))

-- what is taken and a multiple of what divides each undecided entry
pub multiple_more : (es : List ℕ) (ds : Decisions) (x : List Bool) (m : ℕ) → list_all (is_multiple m) (open_values es ds) ≡ true → keeps ds x ≡ true → (k : ℕ) × (product es x ≡ taken es ds + k * m)
multiple_more es [] [] m a k = (0, omega arith)
multiple_more es (d ∷ ds) [] m a k = absurd (false≢true k)
multiple_more [] [] (b ∷ x) m a k = (0, omega arith)
multiple_more [] (d ∷ ds) (b ∷ x) m a k = (0, omega arith)
multiple_more (e ∷ es) [] (true ∷ x) m a k =
    let parts = and_parts (is_multiple m e) _ a in
    let t = times_of m e parts.0 in
    let r = multiple_more es [] x m parts.1 refl in
    (t.0 + r.0, omega (arith, t.1, r.1))
multiple_more (e ∷ es) [] (false ∷ x) m a k = let parts = and_parts (is_multiple m e) _ a in multiple_more es [] x m parts.1 refl
multiple_more (e ∷ es) (None ∷ ds) (true ∷ x) m a k =
    let parts = and_parts (is_multiple m e) _ a in
    let t = times_of m e parts.0 in
    let r = multiple_more es ds x m parts.1 k in
    (t.0 + r.0, omega (arith, t.1, r.1))
multiple_more (e ∷ es) (None ∷ ds) (false ∷ x) m a k = let parts = and_parts (is_multiple m e) _ a in multiple_more es ds x m parts.1 k
multiple_more (e ∷ es) (Some true ∷ ds) (true ∷ x) m a k = let r = multiple_more es ds x m a k in (r.0, omega (arith, r.1))
multiple_more (e ∷ es) (Some true ∷ ds) (false ∷ x) m a k = absurd (false≢true k)
multiple_more (e ∷ es) (Some false ∷ ds) (true ∷ x) m a k = absurd (false≢true k)
multiple_more (e ∷ es) (Some false ∷ ds) (false ∷ x) m a k = multiple_more es ds x m a k

-- the rests differ
pub rests_differ : (s : System) (ds : Decisions) (m row : ℕ) → leaves_rest s ds m row ≡ true → target s row % m ≡ taken (entries s row) ds % m → ⊥
rests_differ s ds m row h e = true≢false (sym h ∙ not_from_true _ (eq-eqb (target s row % m) (taken (entries s row) ds % m) e))

pub residue_none : (s : System) (ds : Decisions) (row m : ℕ) → RowPasses s row (is_residue s ds m) → solutions_with s ds ≡ []
residue_none s ds row m h =
    let parts = and_parts _ (leaves_rest s ds m row) h.1 in
    let all = and_parts _ (list_all (is_multiple m) (open_values (entries s row) ds)) parts.0 in
    none_solves s ds (λ x l k.
    let more = multiple_more (entries s row) ds x m all.1 k.kept in
    rests_differ s ds m row parts.1 (ap (λ n. n % m) (k.solved row h.0 ∙ more.1) ∙ add-mul-mod_self_right (taken (entries s row) ds) more.0 m))
