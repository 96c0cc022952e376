-- Entries and targets, row by row, and cell by cell.
use Rattle.std.proofs.Common.{◌≡◌, ℕ, zero, suc, ◌+◌, ◌<◌, ◌≤◌, ◌&&◌, Bool, true, false, cond, map, ◌++◌, List, [], ◌∷◌, length, get_or, refl, sym, ap, ap₂, ◌∙◌, arith, nat_le}
use Rattle.std.specs.List.{list_all, zip}
use Rattle.std.proofs.lemmas.Bool.{le-leb, lt-ltb}
use Rattle.df_system.specs.Storage.{positive_cells}

abbrev pub all_within : List ℕ → List ℕ → Bool
all_within es ts = list_all (λ e. nat_le e.0 e.1) (zip es ts)

pub within_append : (es more ts others : List ℕ) → length es ≡ length ts → all_within (es ++ more) (ts ++ others) ≡ (all_within es ts && all_within more others)
within_append [] more [] others h = refl
within_append [] more (t ∷ ts) others h = absurd (omega (arith, h))
within_append (e ∷ es) more [] others h = absurd (omega (arith, h))
within_append (e ∷ es) more (t ∷ ts) others h =
    elim (nat_le e t) as (λ b. (b && all_within (es ++ more) (ts ++ others)) ≡ ((b && all_within es ts) && all_within more others)) [
      | true ↦ within_append es more ts others (omega (arith, h))
      | false ↦ refl
    ]

-- the entries are within the targets where the positive ones are
pub within_cells : (all es ts : List ℕ) (m : ℕ) → length es ≡ length ts → ((i : ℕ) → i < length ts → get_or all (m + i) 0 ≡ get_or ts i 0) → all_within es ts ≡ list_all (λ cell. nat_le cell.value (get_or all cell.row 0)) (positive_cells m es)
within_cells all [] ts m h look = refl
within_cells all (e ∷ es) [] m h look = absurd (omega (arith, h))
within_cells all (e ∷ es) (t ∷ ts) m h look = one e (within_cells all es ts (m + 1) (omega (arith, h)) later)
  where
    first : get_or all m 0 ≡ t
    first = ap (λ i. get_or all i 0) {x = m} {y = m + 0} (omega arith) ∙ look 0 (omega arith)

    later : (i : ℕ) → i < length ts → get_or all (m + 1 + i) 0 ≡ get_or ts i 0
    later i l = ap (λ i. get_or all i 0) {x = m + 1 + i} {y = m + suc i} (omega arith) ∙ look (suc i) (omega (arith, l))

    one : (e : ℕ) → all_within es ts ≡ list_all (λ cell. nat_le cell.value (get_or all cell.row 0)) (positive_cells (m + 1) es) → (nat_le e t && all_within es ts) ≡ list_all (λ cell. nat_le cell.value (get_or all cell.row 0)) (positive_cells m (e ∷ es))
    one zero ih = ap (λ b. b && all_within es ts) (le-leb 0 t (omega arith)) ∙ ih
    one (suc e) ih =
        ap₂ (λ a b. nat_le (suc e) a && b) (sym first) ih
        ∙ sym (ap (λ b. list_all (λ cell. nat_le cell.value (get_or all cell.row 0)) (cond b (record { row = m; value = suc e } ∷ positive_cells (m + 1) es) (positive_cells (m + 1) es))) (lt-ltb 0 (suc e) (omega arith)))

-- nothing is needed twice
pub within_ones : {X : Type 0} (f : X → ℕ) (xs : List X) → ((x : X) → f x ≤ 1) → all_within (map f xs) (map (λ x. 1) xs) ≡ true
within_ones f [] small = refl
within_ones f (x ∷ xs) small = ap₂ (λ a b. a && b) (le-leb (f x) 1 (small x)) (within_ones f xs small)
