-- The walk has the solutions, in order.
use Rattle.std.proofs.Common.{◌≡◌, ℕ, suc, zero, ◌+◌, ◌-◌, ◌≤◌, Bool, true, false, List, [], ◌∷◌, ◌++◌, length, Some, refl, sym, ◌∙◌, arith, length-append}
use Rattle.std.proofs.lemmas.List.{length-map}
use Rattle.std.proofs.lemmas.List.Elements.{filter_map-append}
use Rattle.df_walk.specs.declared.Rules.{Rules}
use Rattle.df_walk.specs.declared.Entry.{Entry}
use Rattle.df_walk.specs.declared.Entry.TheVariants.{Branch, Over, Under, Settled, Residue, Cut}
use Rattle.df_walk.specs.Systems.{System, IsSystem}
use Rattle.df_walk.specs.Solutions.{solutions, solutions_with}
use Rattle.df_walk.specs.Walks.{Step, decided, entry_at, below, walk_from, walk, solution_of, solutions_in}
use Rattle.df_walk.proofs.NoSolutions.{over_none, under_none, residue_none}
use Rattle.df_walk.proofs.SettledDecisions.{settled_one}
use Rattle.df_walk.proofs.DecisionSplits.{path_split}
use Rattle.df_walk.proofs.EntryMeanings.{Says, entry_says, branch_short, residue_passes}

-- below another entry than a branch no solution is left but a settled path's
leaf_solutions : (rules : Rules) (s : System) (p : List Bool) (e : Entry) (more : List Step) → IsSystem s → length p ≤ length s.columns → Says rules s p e → ((column : ℕ) → e ≡ Branch column → ⊥) → solutions_in s ((p, e) ∷ below e more) ≡ solutions_with s (decided p)
leaf_solutions rules s p (Over row) more ok short h leaf = sym (over_none s (decided p) row h)
leaf_solutions rules s p (Under row) more ok short h leaf = sym (under_none s (decided p) row h)
leaf_solutions rules s p (Residue row m) more ok short h leaf = sym (residue_none s (decided p) row m (residue_passes rules s (decided p) row m h))
leaf_solutions rules s p (Cut ws) more ok short h leaf = absurd h
leaf_solutions rules s p Settled more ok short h leaf = sym (settled_one s (decided p) ok (omega (arith, length-map p Some)) h)
leaf_solutions rules s p (Branch column) more ok short h leaf = absurd (leaf column refl)

-- the solutions of the walk from p are those with p's decisions
pub solutions_in-walk_from : (rules : Rules) (s : System) (left : ℕ) (p : List Bool) → IsSystem s → length p + left ≡ length s.columns → solutions_in s (walk_from rules s left p) ≡ solutions_with s (decided p)
solutions_in-walk_from rules s zero p ok long = go (entry_at rules s p) (entry_says rules s p)
  where
    go : (e : Entry) → Says rules s p e → solutions_in s ((p, e) ∷ []) ≡ solutions_with s (decided p)
    go (Over row) h = leaf_solutions rules s p (Over row) [] ok (omega arith) h (λ c e. cc)
    go (Under row) h = leaf_solutions rules s p (Under row) [] ok (omega arith) h (λ c e. cc)
    go (Residue row m) h = leaf_solutions rules s p (Residue row m) [] ok (omega arith) h (λ c e. cc)
    go (Cut ws) h = absurd h
    go Settled h = leaf_solutions rules s p Settled [] ok (omega arith) h (λ c e. cc)
    go (Branch column) h = absurd (branch_short rules s p column h (omega arith))
solutions_in-walk_from rules s (suc left) p ok long =
    go (entry_at rules s p) (entry_says rules s p) (solutions_in-walk_from rules s left (p ++ true ∷ []) ok (omega (arith, length-append p (true ∷ [])))) (solutions_in-walk_from rules s left (p ++ false ∷ []) ok (omega (arith, length-append p (false ∷ []))))
  where
    ys : List Step
    ys = walk_from rules s left (p ++ true ∷ [])

    ns : List Step
    ns = walk_from rules s left (p ++ false ∷ [])

    go : (e : Entry) → Says rules s p e → solutions_in s ys ≡ solutions_with s (decided (p ++ true ∷ [])) → solutions_in s ns ≡ solutions_with s (decided (p ++ false ∷ [])) → solutions_in s ((p, e) ∷ below e (ys ++ ns)) ≡ solutions_with s (decided p)
    go (Over row) h a b = leaf_solutions rules s p (Over row) (ys ++ ns) ok (omega arith) h (λ c e. cc)
    go (Under row) h a b = leaf_solutions rules s p (Under row) (ys ++ ns) ok (omega arith) h (λ c e. cc)
    go (Residue row m) h a b = leaf_solutions rules s p (Residue row m) (ys ++ ns) ok (omega arith) h (λ c e. cc)
    go (Cut ws) h a b = absurd h
    go Settled h a b = leaf_solutions rules s p Settled (ys ++ ns) ok (omega arith) h (λ c e. cc)
    go (Branch column) h a b = filter_map-append (solution_of s) ys ns ∙ rw (a, b) (sym (path_split s p (omega arith)))

-- the walk's solutions, in order, are the solutions
pub solutions_in-walk : (rules : Rules) (s : System) → IsSystem s → solutions_in s (walk rules s []) ≡ solutions s
solutions_in-walk rules s ok = solutions_in-walk_from rules s (length s.columns - 0) [] ok (omega arith)
