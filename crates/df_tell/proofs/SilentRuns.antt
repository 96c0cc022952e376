-- What is printed of steps without a log: the designs of their solutions.
use Rattle.std.proofs.Common.{◌≡◌, ◌++◌, ◌∷◌, [], Bool, false, List, map, Option, None, Some, refl, ap}
use Rattle.std.specs.List.{flat_map}
use Rattle.df_walk.specs.Walks.{Step, solution_of, solutions_in}
use Rattle.df_lang.specs.Problems.{Stated}
use Rattle.df_kramer_mesner.specs.OrbitSystems.{orbit_system}
use Rattle.df_correspondence.specs.Designs.{design}
use Rattle.df_tell.specs.declared.run.Shown.{Shown}
use Rattle.df_tell.specs.Run.{design_lines, step_lines}

pub silent_lines : (shown : Shown) (s : Stated) (steps : List Step) → shown.log ≡ false → flat_map (step_lines shown s) steps ≡ flat_map (design_lines shown s) (map (design s) (solutions_in (orbit_system s) steps))
silent_lines shown s [] silent = refl
silent_lines shown s (step ∷ steps) silent = go (solution_of (orbit_system s) step) refl (silent_lines shown s steps silent)
  where
    go : (o : Option (List Bool)) → solution_of (orbit_system s) step ≡ o → flat_map (step_lines shown s) steps ≡ flat_map (design_lines shown s) (map (design s) (solutions_in (orbit_system s) steps))
        → flat_map (step_lines shown s) (step ∷ steps) ≡ flat_map (design_lines shown s) (map (design s) (solutions_in (orbit_system s) (step ∷ steps)))
    go None is more = rw (is, silent) more
    go (Some x) is more = rw (is, silent) (ap (λ l. design_lines shown s (design s x) ++ l) more)
