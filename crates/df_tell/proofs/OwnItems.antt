-- What a log has of the steps of a run: each entry, and after a settled one the design of its solution.
use Rattle.std.proofs.Common.{◌≡◌, ℕ, Bool, true, false, cond, List, [], ◌∷◌, ◌++◌, length, map, Option, Some, None, inl, inr, refl, ap, ◌∙◌}
use Rattle.std.specs.List.{flat_map}
use Rattle.std.proofs.lemmas.List.Elements.{filter_map-append}
use Rattle.df_walk.specs.declared.Entry.TheVariants.{Branch, Over, Under, Settled, Residue, Cut}
use Rattle.df_walk.specs.Solutions.{yes_vector}
use Rattle.df_walk.specs.Walks.{Step, decided, solution_of, solutions_in, entries_in}
use Rattle.df_lang.specs.Problems.{Stated}
use Rattle.df_kramer_mesner.specs.OrbitSystems.{orbit_system}
use Rattle.df_correspondence.specs.Designs.{design, base}
use Rattle.df_dossier.specs.Designs.{design_text, design_of}
use Rattle.df_dossier.specs.DossiersBack.{item_of, items_of}
use Rattle.df_check.specs.Lines.{Line, entries_of, leaves_of, AreInOrder}
use Rattle.df_tell.specs.declared.run.Shown.{Shown}
use Rattle.df_tell.proofs.SpentRuns.{comment_of, logged_solution, logged_step, logged}

-- the base blocks of the design of a solution, where there is one
abbrev design_items : Stated → Option (List Bool) → List (Line (List (List ℕ)))
design_items s None = []
design_items s (Some x) = inr (base s (design s x)) ∷ []

abbrev pub step_items : Stated → Step → List (Line (List (List ℕ)))
step_items s step = inl step.1 ∷ design_items s (solution_of (orbit_system s) step)

-- the lines of the steps of a run
abbrev pub run_items : Stated → List Step → List (Line (List (List ℕ)))
run_items s steps = flat_map (step_items s) steps

-- comments say nothing
comments_items : (s : Stated) (blocks : List (List ℕ)) → items_of s (map (comment_of s) blocks) ≡ []
comments_items s [] = refl
comments_items s (b ∷ bs) = comments_items s bs

shown_items : (s : Stated) (blocks : List (List ℕ)) (b : Bool) → items_of s (cond b (map (comment_of s) blocks) []) ≡ []
shown_items s blocks true = comments_items s blocks
shown_items s blocks false = refl

module _ (s : Stated) (b : Bool) (read : (x : List Bool) → design_of s (design_text s.group (base s (design s x))) ≡ Some (base s (design s x))) where
  abbrev with_log : Shown
  with_log = record { log = true; blocks = b }

  solution_items : (o : Option (List Bool)) → items_of s (logged_solution with_log s o) ≡ design_items s o
  solution_items None = refl
  solution_items (Some x) =
      let e = read x in rw e (ap (λ l. inr (base s (design s x)) ∷ l) (shown_items s (design s x) b))

  -- a log is read as these lines
  pub logged_items : (steps : List Step) → items_of s (logged with_log s steps) ≡ run_items s steps
  logged_items [] = refl
  logged_items (step ∷ steps) =
      filter_map-append (item_of s) (logged_step with_log s step) (logged with_log s steps)
      ∙ ap (λ l. l ++ items_of s (logged with_log s steps)) (ap (λ l. inl step.1 ∷ l) (solution_items (solution_of (orbit_system s) step)))
      ∙ ap (λ l. step_items s step ++ l) (logged_items steps)

-- each design comes after its settled entry
pub items_in_order : (s : Stated) (steps : List Step) → AreInOrder (run_items s steps)
items_in_order s [] = tt
items_in_order s ((p, Settled) ∷ steps) = items_in_order s steps
items_in_order s ((p, Branch column) ∷ steps) = items_in_order s steps
items_in_order s ((p, Over row) ∷ steps) = items_in_order s steps
items_in_order s ((p, Under row) ∷ steps) = items_in_order s steps
items_in_order s ((p, Residue row m) ∷ steps) = items_in_order s steps
items_in_order s ((p, Cut ws) ∷ steps) = items_in_order s steps

-- the entries are those of the steps
pub entries_are : (s : Stated) (steps : List Step) → entries_of (run_items s steps) ≡ entries_in steps
entries_are s [] = refl
entries_are s ((p, Settled) ∷ steps) = ap (λ l. Settled ∷ l) (entries_are s steps)
entries_are s ((p, Branch column) ∷ steps) = ap (λ l. Branch column ∷ l) (entries_are s steps)
entries_are s ((p, Over row) ∷ steps) = ap (λ l. Over row ∷ l) (entries_are s steps)
entries_are s ((p, Under row) ∷ steps) = ap (λ l. Under row ∷ l) (entries_are s steps)
entries_are s ((p, Residue row m) ∷ steps) = ap (λ l. Residue row m ∷ l) (entries_are s steps)
entries_are s ((p, Cut ws) ∷ steps) = ap (λ l. Cut ws ∷ l) (entries_are s steps)

-- the leaves are the base blocks of the designs of their solutions
pub leaves_are : (s : Stated) (steps : List Step) → leaves_of (run_items s steps) ≡ map (λ x. base s (design s x)) (solutions_in (orbit_system s) steps)
leaves_are s [] = refl
leaves_are s ((p, Settled) ∷ steps) = ap (λ l. base s (design s (yes_vector (length (orbit_system s).columns) (decided p))) ∷ l) (leaves_are s steps)
leaves_are s ((p, Branch column) ∷ steps) = leaves_are s steps
leaves_are s ((p, Over row) ∷ steps) = leaves_are s steps
leaves_are s ((p, Under row) ∷ steps) = leaves_are s steps
leaves_are s ((p, Residue row m) ∷ steps) = leaves_are s steps
leaves_are s ((p, Cut ws) ∷ steps) = leaves_are s steps
