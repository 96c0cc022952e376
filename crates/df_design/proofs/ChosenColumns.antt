-- The columns that a vector chooses, one after another.
use Rattle.std.proofs.Common.{◌≡◌, ℕ, suc, zero, ◌+◌, ◌-◌, ◌<◌, Bool, true, false, List, [], ◌∷◌, length, get_or, drop, refl, sym, ap, ap₂, ◌∙◌, arith}
use Rattle.std.proofs.lemmas.Bool.{false≢true}
use Rattle.std.proofs.lemmas.List.{drop-drop, get_or-drop, length-drop}
use Rattle.df_families.specs.Families.{picked}
use Rattle.df_lang.specs.Problems.{Stated}
use Rattle.df_kramer_mesner.specs.OrbitSystems.{columns_of, column_at}
use Rattle.df_design.specs.LeftBlocks.{chosen_from, IsFirstYes}

-- where no value is 1, nothing is picked
pub picked_none : {X : Type 0} (xs : List X) (v : List Bool) → ((k : ℕ) → k < length v → get_or v k false ≡ false) → picked xs v ≡ []
picked_none [] v h = refl
picked_none (x ∷ xs) [] h = refl
picked_none (x ∷ xs) (true ∷ v) h = absurd (false≢true (sym (h 0 (omega arith))))
picked_none (x ∷ xs) (false ∷ v) h = picked_none xs v (λ k l. h (suc k) (omega (arith, l)))

-- the member at the first 1 is picked first, and then what is picked after it
pub picked_next : {X : Type 0} (xs : List X) (v : List Bool) (k : ℕ) (d : X) → length v ≡ length xs → k < length v → get_or v k false ≡ true → ((j : ℕ) → j < k → get_or v j false ≡ false)
    → picked xs v ≡ get_or xs k d ∷ picked (drop (suc k) xs) (drop (suc k) v)
picked_next [] v k d e l h none = absurd (omega (arith, e, l))
picked_next (x ∷ xs) [] k d e l h none = absurd (omega (arith, l))
picked_next (x ∷ xs) (true ∷ v) zero d e l h none = refl
picked_next (x ∷ xs) (false ∷ v) zero d e l h none = absurd (false≢true h)
picked_next (x ∷ xs) (true ∷ v) (suc k) d e l h none = absurd (false≢true (sym (none 0 (omega arith))))
picked_next (x ∷ xs) (false ∷ v) (suc k) d e l h none = picked_next xs v k d (omega (arith, e)) (omega (arith, l)) h (λ j m. none (suc j) (omega (arith, m)))

-- no column is chosen from a column on
pub chosen_none : (s : Stated) (x : List Bool) (column : ℕ) → ((k : ℕ) → k < length (drop column x) → get_or (drop column x) k false ≡ false) → chosen_from s x column ≡ []
chosen_none s x column h = picked_none (drop column (columns_of s)) (drop column x) h

-- the first chosen column from a column on, and then those that are chosen after it
pub chosen_next : (s : Stated) (x : List Bool) (column k : ℕ) → length x ≡ length (columns_of s) → IsFirstYes (drop column x) k → chosen_from s x column ≡ column_at s (column + k) ∷ chosen_from s x (column + k + 1)
chosen_next s x column k long first =
    let columns = columns_of s in
    let after : column + suc k ≡ column + k + 1 = omega arith in
    picked_next (drop column columns) (drop column x) k [] (length-drop column x ∙ ap (λ n. n - column) long ∙ sym (length-drop column columns)) first.within first.yes first.before_it
    ∙ ap₂ (λ b l. b ∷ l) (get_or-drop column columns k []) (ap₂ picked (drop-drop (suc k) column columns ∙ ap (λ n. drop n columns) after) (drop-drop (suc k) column x ∙ ap (λ n. drop n x) after))
