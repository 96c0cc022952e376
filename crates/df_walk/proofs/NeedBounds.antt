-- The needs of a solution that keeps the decisions, and that each solution is listed once.
use Rattle.std.proofs.Common.{◌≡◌, ℕ, ◌<◌, Bool, true, false, List, [], ◌∷◌, length, map, Some, refl, sym, ap, ◌∙◌, arith}
use Rattle.std.specs.Prelude.{filter, ◌&&◌}
use Rattle.std.proofs.lemmas.Bool.{false≢true, and_parts, and_from}
use Rattle.df_lists.proofs.TestLaws.{filter-filter}
use Rattle.df_walk.specs.Systems.{System, entries}
use Rattle.df_walk.specs.Assignments.{Decisions, open_values, divisor}
use Rattle.df_walk.specs.Solutions.{keeps, is_solution, solutions, vectors}
use Rattle.df_walk.specs.LawStatements.{NeedIsWithin}
use Rattle.df_walk.proofs.VectorFilters.{vectors_one}
use Rattle.df_walk.proofs.CommonDivisors.{common_divisor_common}
use Rattle.df_walk.proofs.RowBounds.{taken_le, le_cap}
use Rattle.df_walk.proofs.NoSolutions.{keeps_and_solves, multiple_more}

pub need_within : (s : System) (ds : Decisions) (x : List Bool) (row : ℕ) → is_solution s x ≡ true → keeps ds x ≡ true → row < length s.targets → NeedIsWithin s ds row
need_within s ds x row solves kept within =
    let k = keeps_and_solves s ds x (and_from (keeps ds x) (is_solution s x) kept solves) in
    let is = k.solved row within in
    let more = multiple_more (entries s row) ds x (divisor (entries s row) ds) (common_divisor_common (open_values (entries s row) ds)).divides kept in
    record {
      not_negative = omega (arith, taken_le (entries s row) ds x kept);
      at_most_cap = omega (arith, le_cap (entries s row) ds x kept);
      multiple = (more.0, is ∙ more.1);
    }

-- a vector keeps its own values, and no other of its length does
keeps_self : (x : List Bool) → keeps (map Some x) x ≡ true
keeps_self [] = refl
keeps_self (true ∷ x) = keeps_self x
keeps_self (false ∷ x) = keeps_self x

keeps_same : (x y : List Bool) → length y ≡ length x → keeps (map Some x) y ≡ true → y ≡ x
keeps_same [] [] l h = refl
keeps_same [] (b ∷ y) l h = absurd (omega arith)
keeps_same (a ∷ x) [] l h = absurd (omega arith)
keeps_same (true ∷ x) (true ∷ y) l h = ap (λ z. true ∷ z) (keeps_same x y (omega arith) h)
keeps_same (true ∷ x) (false ∷ y) l h = absurd (false≢true h)
keeps_same (false ∷ x) (true ∷ y) l h = absurd (false≢true h)
keeps_same (false ∷ x) (false ∷ y) l h = ap (λ z. false ∷ z) (keeps_same x y (omega arith) h)

pub solution_once : (s : System) (x : List Bool) → length x ≡ length s.columns → is_solution s x ≡ true → filter (keeps (map Some x)) (solutions s) ≡ x ∷ []
solution_once s x l solves =
    filter-filter (keeps (map Some x)) (is_solution s) (vectors (length s.columns)) ∙ vectors_one (length s.columns) (λ y. is_solution s y && keeps (map Some x) y) x l (and_from (is_solution s x) (keeps (map Some x) x) solves (keeps_self x)) (λ y m h. keeps_same x y (m ∙ sym l) ((and_parts (is_solution s y) (keeps (map Some x) y) h).1))
