-- The limit on blocks, which is judged first.
use Rattle.std.proofs.Common.{◌≡◌, ◌⊎◌, refl, ap, ◌∙◌, inl, inr, Option, Some, None, Result, Ok, Err}
use Rattle.std.specs.Option.{option_map}
use Rattle.df_lang.specs.Problems.{Stated}
use Rattle.df_orbits.specs.declared.orbits.OrbitError.{OrbitError}
use Rattle.df_orbits.specs.declared.orbits.OrbitError.TheVariants as orbits
use Rattle.df_matrix.specs.declared.matrix.MatrixError.{MatrixError}
use Rattle.df_matrix.specs.declared.matrix.MatrixError.TheVariants.{OutOfMemory}
use Rattle.df_matrix.specs.Limits.{subset_limit, passed_by, column_limit, entry_limit, or_else, limit_passed}

-- the first limit is passed
limit_first : (s : Stated) (e : OrbitError) → subset_limit s ≡ Some e → limit_passed s ≡ Some (passed_by e)
unfolding limit_passed
limit_first s e h = ap (λ o. or_else (option_map passed_by o) (or_else (column_limit s) (entry_limit s))) h

-- the first limit isn't
pub limit_later : (s : Stated) (o : Option MatrixError) → subset_limit s ≡ None → or_else (column_limit s) (entry_limit s) ≡ o → limit_passed s ≡ o
unfolding limit_passed
limit_later s o h k = ap (λ o. or_else (option_map passed_by o) (or_else (column_limit s) (entry_limit s))) h ∙ k

-- where the orbits are there, there aren't too many blocks
pub not_passed : {T : Type 0} (s : Stated) (x : T) → ((e : OrbitError) → subset_limit s ≡ Some e → ◌≡◌ {A = Result T OrbitError} (Ok x) (Err e)) → subset_limit s ≡ None
not_passed {T = T} s x above = go (subset_limit s) refl
  where
    go : (o : Option OrbitError) → subset_limit s ≡ o → subset_limit s ≡ None
    go None h = h
    go (Some e) h = absurd (let f = above e h in cc)

-- and where they aren't, there are too many or memory was wanting
pub passed_first : {T : Type 0} (s : Stated) (e : OrbitError) (m : MatrixError) → m ≡ passed_by e → ((d : OrbitError) → subset_limit s ≡ Some d → ◌≡◌ {A = Result T OrbitError} (Err e) (Err d)) → (subset_limit s ≡ None → e ≡ orbits.OutOfMemory) → (limit_passed s ≡ Some m) ⊎ (m ≡ OutOfMemory)
passed_first {T = T} s e m same above below = go (subset_limit s) refl
  where
    go : (o : Option OrbitError) → subset_limit s ≡ o → (limit_passed s ≡ Some m) ⊎ (m ≡ OutOfMemory)
    go None h = inr (same ∙ ap passed_by (below h))
    go (Some d) h = inl (limit_first s d h ∙ ap Some (ap passed_by {x = d} {y = e} (let f = above d h in cc) ∙ (let g = same in cc)))
