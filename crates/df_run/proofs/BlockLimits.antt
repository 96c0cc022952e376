-- The limit on blocks, as it is printed.
use Rattle.std.proofs.Common.{◌≡◌, refl, sym, ap, ◌∙◌, Option, Some, None, Result, Ok, Err}
use Rattle.std.specs.Option.{option_map, option_and_then}
use Rattle.std.proofs.lemmas.Option.{same_Some}
use Rattle.df_lang.specs.Problems.{Stated}
use Rattle.df_orbits.specs.declared.orbits.OrbitError.{OrbitError}
use Rattle.df_orbits.specs.declared.orbits.OrbitError.TheVariants as orbit
use Rattle.df_matrix.specs.Limits.{subset_limit, passed_by}
use Rattle.df_tell.specs.declared.limits.Limit.{Limit}
use Rattle.df_tell.specs.declared.limits.Limit.TheVariants.{Subsets, SizedSubsets}
use Rattle.df_run.specs.Limits.{limit_error, limit_of, subsets_limit}
use Rattle.df_run.specs.declared.limits.LimitError.TheVariants.{Above, OutOfMemory}

-- what an error prints
printed : (e : OrbitError) (limit : Limit) → limit_of (passed_by e) ≡ Some limit → limit_error e ≡ Above limit
printed (orbit.TooManySubsets v k) limit h = ap Above (same_Some (Subsets k v) limit h)
printed (orbit.TooManySummed v sum) limit h = ap Above (same_Some (SizedSubsets v) limit h)
printed orbit.OutOfMemory limit h = absurd (let f = h in cc)

nothing : (e : OrbitError) → limit_of (passed_by e) ≡ None → limit_error e ≡ OutOfMemory
nothing (orbit.TooManySubsets v k) h = absurd (let f = h in cc)
nothing (orbit.TooManySummed v sum) h = absurd (let f = h in cc)
nothing orbit.OutOfMemory h = refl

shown : (s : Stated) (o : Option OrbitError) → subset_limit s ≡ o → subsets_limit s ≡ option_and_then limit_of (option_map passed_by o)
shown s o h = ap (λ o. option_and_then limit_of (option_map passed_by o)) h

-- where the orbits are there, the problem is within the limit
pub is_within : {T : Type 0} (s : Stated) (x : T) → ((e : OrbitError) → subset_limit s ≡ Some e → ◌≡◌ {A = Result T OrbitError} (Ok x) (Err e)) → subsets_limit s ≡ None
is_within s x above = go (subset_limit s) refl
  where
    go : (o : Option OrbitError) → subset_limit s ≡ o → subsets_limit s ≡ None
    go None h = shown s None h
    go (Some e) h = absurd (let f = above e h in cc)

-- where they aren't, it is above it, or out of memory
module _ {T : Type 0} (s : Stated) (e : OrbitError) (above : (d : OrbitError) → subset_limit s ≡ Some d → ◌≡◌ {A = Result T OrbitError} (Err e) (Err d)) (below : subset_limit s ≡ None → e ≡ orbit.OutOfMemory) where
  pub is_above : (limit : Limit) → subsets_limit s ≡ Some limit → limit_error e ≡ Above limit
  is_above limit k = go (subset_limit s) refl
    where
      go : (o : Option OrbitError) → subset_limit s ≡ o → limit_error e ≡ Above limit
      go None h = absurd (let f = sym (shown s None h) ∙ k in cc)
      go (Some d) h =
          let same : e ≡ d = let f = above d h in cc in
          ap limit_error same ∙ printed d limit (sym (shown s (Some d) h) ∙ k)

  pub is_none : subsets_limit s ≡ None → limit_error e ≡ OutOfMemory
  is_none k = go (subset_limit s) refl
    where
      go : (o : Option OrbitError) → subset_limit s ≡ o → limit_error e ≡ OutOfMemory
      go None h = ap limit_error (below h)
      go (Some d) h =
          let same : e ≡ d = let f = above d h in cc in
          ap limit_error same ∙ nothing d (sym (shown s (Some d) h) ∙ k)
