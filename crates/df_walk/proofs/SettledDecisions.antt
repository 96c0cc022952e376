-- Where all needs are 0 one solution keeps the decisions: the yes columns alone.
use Rattle.std.proofs.Common.{◌≡◌, ◌⊎◌, inl, inr, ℕ, suc, zero, ◌+◌, ◌<◌, ◌≤◌, Bool, true, false, List, [], ◌∷◌, length, get_or, Some, None, refl, sym, ap, ◌∙◌, arith}
use Rattle.std.specs.Prelude.{◌&&◌, ◌==◌}
use Rattle.std.proofs.lemmas.Bool.{false≢true, and_from, eqb-true, eq-eqb}
use Rattle.df_walk.specs.Systems.{System, IsSystem, entries, target}
use Rattle.df_walk.specs.Assignments.{Decisions, taken, is_met, is_settled}
use Rattle.df_walk.specs.Solutions.{keeps, product, is_solution, solutions_with, yes_vector}
use Rattle.df_walk.proofs.VectorFilters.{vectors_one}
use Rattle.df_walk.proofs.RowBounds.{taken_le}
use Rattle.df_walk.proofs.RowTests.{row_passes, rows_pass}
use Rattle.df_walk.proofs.EntryLaws.{has_positive}
use Rattle.df_walk.proofs.NoSolutions.{keeps_and_solves}

pub length-yes_vector : (n : ℕ) (ds : Decisions) → length (yes_vector n ds) ≡ n
length-yes_vector zero ds = refl
length-yes_vector (suc n) [] = ap suc (length-yes_vector n [])
length-yes_vector (suc n) (None ∷ ds) = ap suc (length-yes_vector n ds)
length-yes_vector (suc n) (Some b ∷ ds) = ap suc (length-yes_vector n ds)

pub keeps-yes_vector : (n : ℕ) (ds : Decisions) → length ds ≤ n → keeps ds (yes_vector n ds) ≡ true
keeps-yes_vector n [] h = refl
keeps-yes_vector zero (d ∷ ds) h = absurd (omega arith)
keeps-yes_vector (suc n) (None ∷ ds) h = keeps-yes_vector n ds (omega arith)
keeps-yes_vector (suc n) (Some true ∷ ds) h = keeps-yes_vector n ds (omega arith)
keeps-yes_vector (suc n) (Some false ∷ ds) h = keeps-yes_vector n ds (omega arith)

pub product-yes_vector : (n : ℕ) (es : List ℕ) (ds : Decisions) → length ds ≤ n → product es (yes_vector n ds) ≡ taken es ds
product-yes_vector zero es [] h = refl
product-yes_vector zero es (d ∷ ds) h = absurd (omega arith)
product-yes_vector (suc n) [] [] h = refl
product-yes_vector (suc n) (e ∷ es) [] h = product-yes_vector n es [] (omega arith)
product-yes_vector (suc n) [] (None ∷ ds) h = refl
product-yes_vector (suc n) [] (Some b ∷ ds) h = refl
product-yes_vector (suc n) (e ∷ es) (None ∷ ds) h = product-yes_vector n es ds (omega arith)
product-yes_vector (suc n) (e ∷ es) (Some true ∷ ds) h = ap (λ m. e + m) (product-yes_vector n es ds (omega arith))
product-yes_vector (suc n) (e ∷ es) (Some false ∷ ds) h = product-yes_vector n es ds (omega arith)

-- a vector that keeps the decisions and has a yes at an undecided column makes at least that column's entry more, in each row
pub record HasMore (ds : Decisions) (x : List Bool) (n : ℕ) : Type 0 where
  pub column : ℕ
  pub within : column < n
  pub more : (es : List ℕ) → taken es ds + get_or es column 0 ≤ product es x

-- one column further
later : (ds after : Decisions) (b : Bool) (x : List Bool) (n : ℕ) → taken [] after ≡ 0 → ((e : ℕ) (es : List ℕ) (m : ℕ) → taken es ds + m ≤ product es x → taken (e ∷ es) after + m ≤ product (e ∷ es) (b ∷ x)) → HasMore ds x n → HasMore after (b ∷ x) (suc n)
later ds after b x n none step h =
    record {
      column = suc h.column;
      within = omega (arith, h.within);
      more = later_more;
    }
  where
    later_more : (es : List ℕ) → taken es after + get_or es (suc h.column) 0 ≤ product es (b ∷ x)
    later_more [] = omega (arith, none)
    later_more (e ∷ es) = step e es (get_or es h.column 0) (h.more es)

-- the same vector, or one with more, after one more column
one_further : (ds after : Decisions) (b : Bool) (x : List Bool) (n : ℕ) → yes_vector (suc n) after ≡ b ∷ yes_vector n ds → taken [] after ≡ 0 → ((e : ℕ) (es : List ℕ) (m : ℕ) → taken es ds + m ≤ product es x → taken (e ∷ es) after + m ≤ product (e ∷ es) (b ∷ x)) → (x ≡ yes_vector n ds) ⊎ HasMore ds x n → (b ∷ x ≡ yes_vector (suc n) after) ⊎ HasMore after (b ∷ x) (suc n)
one_further ds after b x n v none step (inl e) = inl (ap (λ t. b ∷ t) e ∙ sym v)
one_further ds after b x n v none step (inr h) = inr (later ds after b x n none step h)

-- a yes at an undecided column
here : (ds : Decisions) (x : List Bool) (n : ℕ) → keeps ds x ≡ true → HasMore (None ∷ ds) (true ∷ x) (suc n)
here ds x n k = record { column = 0; within = omega arith; more = more_here }
  where
    more_here : (es : List ℕ) → taken es (None ∷ ds) + get_or es 0 0 ≤ product es (true ∷ x)
    more_here [] = omega arith
    more_here (e ∷ es) = omega (arith, taken_le es ds x k)

here_past : (x : List Bool) (n : ℕ) → HasMore [] (true ∷ x) (suc n)
here_past x n = record { column = 0; within = omega arith; more = more_here }
  where
    more_here : (es : List ℕ) → taken es [] + get_or es 0 0 ≤ product es (true ∷ x)
    more_here [] = omega arith
    more_here (e ∷ es) = omega arith

-- a vector that keeps the decisions is the decided one, or has more
pub only_or_more : (n : ℕ) (ds : Decisions) (x : List Bool) → length x ≡ n → keeps ds x ≡ true → (x ≡ yes_vector n ds) ⊎ HasMore ds x n
only_or_more zero ds [] l k = inl refl
only_or_more zero ds (b ∷ x) l k = absurd (omega arith)
only_or_more (suc n) ds [] l k = absurd (omega arith)
only_or_more (suc n) [] (true ∷ x) l k = inr (here_past x n)
only_or_more (suc n) [] (false ∷ x) l k = one_further [] [] false x n refl refl (λ e es m h. h) (only_or_more n [] x (omega arith) refl)
only_or_more (suc n) (None ∷ ds) (true ∷ x) l k = inr (here ds x n k)
only_or_more (suc n) (None ∷ ds) (false ∷ x) l k = one_further ds (None ∷ ds) false x n refl refl (λ e es m h. h) (only_or_more n ds x (omega arith) k)
only_or_more (suc n) (Some true ∷ ds) (true ∷ x) l k = one_further ds (Some true ∷ ds) true x n refl refl (λ e es m h. omega arith) (only_or_more n ds x (omega arith) k)
only_or_more (suc n) (Some true ∷ ds) (false ∷ x) l k = absurd (false≢true k)
only_or_more (suc n) (Some false ∷ ds) (true ∷ x) l k = absurd (false≢true k)
only_or_more (suc n) (Some false ∷ ds) (false ∷ x) l k = one_further ds (Some false ∷ ds) false x n refl refl (λ e es m h. h) (only_or_more n ds x (omega arith) k)

-- at settled decisions no vector with more solves
contradiction : (s : System) (ds : Decisions) (x : List Bool) → IsSystem s → is_settled s ds ≡ true → (keeps ds x && is_solution s x) ≡ true → HasMore ds x (length s.columns) → ⊥
contradiction s ds x ok met solves more =
    let at = has_positive s more.column ok more.within in
    let row = at.0 in
    let k = keeps_and_solves s ds x solves in
    let here = eqb-true (target s row) (taken (entries s row) ds) (row_passes s (is_met s ds) row met at.1) in
    omega (arith, k.solved row at.1, more.more (entries s row), at.2)

pub settled_one : (s : System) (ds : Decisions) → IsSystem s → length ds ≤ length s.columns → is_settled s ds ≡ true → solutions_with s ds ≡ yes_vector (length s.columns) ds ∷ []
settled_one s ds ok short met =
    vectors_one (length s.columns) (λ x. keeps ds x && is_solution s x) (yes_vector (length s.columns) ds) (length-yes_vector (length s.columns) ds) passes only
  where
    solves : is_solution s (yes_vector (length s.columns) ds) ≡ true
    solves = rows_pass s (λ row. target s row == product (entries s row) (yes_vector (length s.columns) ds)) (λ row within. eq-eqb (target s row) _ (eqb-true (target s row) (taken (entries s row) ds) (row_passes s (is_met s ds) row met within) ∙ sym (product-yes_vector (length s.columns) (entries s row) ds short)))

    passes : (keeps ds (yes_vector (length s.columns) ds) && is_solution s (yes_vector (length s.columns) ds)) ≡ true
    passes = and_from (keeps ds (yes_vector (length s.columns) ds)) _ (keeps-yes_vector (length s.columns) ds short) solves

    only : (x : List Bool) → length x ≡ length s.columns → (keeps ds x && is_solution s x) ≡ true → x ≡ yes_vector (length s.columns) ds
    only x l h =
        let k = keeps_and_solves s ds x h in
        elim (only_or_more (length s.columns) ds x l k.kept) [
          | inl e ↦ e
          | inr more ↦ absurd (contradiction s ds x ok met h more)
        ]
