-- What is left of the solutions and of the walk from a path on.
use Rattle.std.proofs.Common.{◌≡◌, ◌+◌, ◌-◌, ◌≤◌, Bool, true, false, List, [], ◌∷◌, ◌++◌, length, refl, sym, ap, ◌∙◌, arith, length-append}
use Rattle.std.specs.Prelude.{filter, ◌&&◌}
use Rattle.std.proofs.lemmas.Bool.{false≢true}
use Rattle.std.proofs.lemmas.List.{append_assoc, append-nil}
use Rattle.std.proofs.lemmas.List.Elements.{filter_agree, filter_map-append}
use Rattle.std.proofs.Math.Bool.{and_comm}
use Rattle.df_lists.proofs.TestLaws.{filter-filter, filter_never}
use Rattle.df_walk.specs.declared.Rules.{Rules}
use Rattle.df_walk.specs.Systems.{System, IsSystem}
use Rattle.df_walk.specs.Solutions.{keeps, is_solution, solutions, solutions_with, vectors}
use Rattle.df_walk.specs.Walks.{decided, walk, solutions_in, solution_of}
use Rattle.df_walk.specs.Paths.{not_before, rest}
use Rattle.df_walk.specs.Remains.{later_walk, walk_on}
use Rattle.df_walk.proofs.DecisionSplits.{filter_path}
use Rattle.df_walk.proofs.WalkSolutions.{solutions_in-walk_from}

-- nothing is before the empty path
pub rest_all : (s : System) → rest s [] ≡ solutions s
rest_all s = go (solutions s)
  where
    go : (xs : List (List Bool)) → filter (not_before []) xs ≡ xs
    go [] = refl
    go (x ∷ xs) = ap (λ l. x ∷ l) (go xs)

-- what a kept path says of the order
not_before_kept : (p x : List Bool) → keeps (decided p) x ≡ true → not_before p x ≡ true
not_before_kept [] x k = refl
not_before_kept (b ∷ p) [] k = absurd (false≢true k)
not_before_kept (true ∷ p) (true ∷ x) k = not_before_kept p x k
not_before_kept (true ∷ p) (false ∷ x) k = refl
not_before_kept (false ∷ p) (true ∷ x) k = absurd (false≢true k)
not_before_kept (false ∷ p) (false ∷ x) k = not_before_kept p x k

after_yes : (p q x : List Bool) → keeps (decided (p ++ false ∷ [])) x ≡ true → not_before (p ++ true ∷ q) x ≡ true
after_yes [] q [] k = absurd (false≢true k)
after_yes [] q (true ∷ x) k = absurd (false≢true k)
after_yes [] q (false ∷ x) k = refl
after_yes (b ∷ p) q [] k = absurd (false≢true k)
after_yes (true ∷ p) q (true ∷ x) k = after_yes p q x k
after_yes (true ∷ p) q (false ∷ x) k = refl
after_yes (false ∷ p) q (true ∷ x) k = absurd (false≢true k)
after_yes (false ∷ p) q (false ∷ x) k = after_yes p q x k

before_no : (p q x : List Bool) → keeps (decided (p ++ true ∷ [])) x ≡ true → not_before (p ++ false ∷ q) x ≡ false
before_no [] q [] k = absurd (false≢true k)
before_no [] q (true ∷ x) k = refl
before_no [] q (false ∷ x) k = absurd (false≢true k)
before_no (b ∷ p) q [] k = absurd (false≢true k)
before_no (true ∷ p) q (true ∷ x) k = before_no p q x k
before_no (true ∷ p) q (false ∷ x) k = absurd (false≢true k)
before_no (false ∷ p) q (true ∷ x) k = refl
before_no (false ∷ p) q (false ∷ x) k = before_no p q x k

-- a conjunct that another one gives or rules out
and_given : (k b t : Bool) → (k ≡ true → b ≡ true) → (k && (b && t)) ≡ (k && t)
and_given true b t h = rw (h refl)
and_given false b t h = refl

and_ruled_out : (k b t : Bool) → (k ≡ true → b ≡ false) → (k && (b && t)) ≡ false
and_ruled_out true b t h = rw (h refl)
and_ruled_out false b t h = refl

-- the solutions after those that extend `before ++ p`
abbrev later_solutions : System → List Bool → List Bool → List (List Bool)
later_solutions s before [] = []
later_solutions s before (true ∷ p) = later_solutions s (before ++ true ∷ []) p ++ solutions_with s (decided (before ++ false ∷ []))
later_solutions s before (false ∷ p) = later_solutions s (before ++ false ∷ []) p

solutions_on : (s : System) (before p : List Bool) → length before + length p ≤ (length s.columns) → filter (λ x. keeps (decided before) x && (not_before (before ++ p) x && is_solution s x)) (vectors (length s.columns)) ≡ solutions_with s (decided (before ++ p)) ++ later_solutions s before p
solutions_on s before [] h =
    rw (append-nil before, append-nil (solutions_with s (decided before))) (filter_agree _ (λ x. keeps (decided before) x && is_solution s x) (λ x. and_given (keeps (decided before) x) (not_before before x) (is_solution s x) (not_before_kept before x)) (vectors (length s.columns)))
solutions_on s before (true ∷ p) h =
    let split = filter_path before (λ x. not_before (before ++ true ∷ p) x && is_solution s x) (length s.columns) (omega arith) in
    let no = filter_agree (λ x. keeps (decided (before ++ false ∷ [])) x && (not_before (before ++ true ∷ p) x && is_solution s x)) (λ x. keeps (decided (before ++ false ∷ [])) x && is_solution s x) (λ x. and_given (keeps (decided (before ++ false ∷ [])) x) (not_before (before ++ true ∷ p) x) (is_solution s x) (after_yes before p x)) (vectors (length s.columns)) in
    let yes = rw (append_assoc before (true ∷ []) p) at (solutions_on s (before ++ true ∷ []) p (omega (arith, length-append before (true ∷ [])))) in
    split ∙ rw (yes, no) (append_assoc (solutions_with s (decided (before ++ true ∷ p))) (later_solutions s (before ++ true ∷ []) p) (solutions_with s (decided (before ++ false ∷ []))))
solutions_on s before (false ∷ p) h =
    let split = filter_path before (λ x. not_before (before ++ false ∷ p) x && is_solution s x) (length s.columns) (omega arith) in
    let yes = filter_agree (λ x. keeps (decided (before ++ true ∷ [])) x && (not_before (before ++ false ∷ p) x && is_solution s x)) (λ x. false) (λ x. and_ruled_out (keeps (decided (before ++ true ∷ [])) x) (not_before (before ++ false ∷ p) x) (is_solution s x) (before_no before p x)) (vectors (length s.columns)) ∙ filter_never (vectors (length s.columns)) in
    let no = rw (append_assoc before (false ∷ []) p) at (solutions_on s (before ++ false ∷ []) p (omega (arith, length-append before (false ∷ [])))) in
    split ∙ rw (yes, no)

solutions_in-later_walk : (rules : Rules) (s : System) (before p : List Bool) → IsSystem s → length before + length p ≤ (length s.columns) → solutions_in s (later_walk rules s before p) ≡ later_solutions s before p
solutions_in-later_walk rules s before [] ok h = refl
solutions_in-later_walk rules s before (true ∷ p) ok h =
    let walked = solutions_in-walk_from rules s ((length s.columns) - length (before ++ false ∷ [])) (before ++ false ∷ []) ok (omega (arith, length-append before (false ∷ []))) in
    rw (filter_map-append (solution_of s) (later_walk rules s (before ++ true ∷ []) p) (walk rules s (before ++ false ∷ [])), solutions_in-later_walk rules s (before ++ true ∷ []) p ok (omega (arith, length-append before (true ∷ []))), walked)
solutions_in-later_walk rules s before (false ∷ p) ok h = solutions_in-later_walk rules s (before ++ false ∷ []) p ok (omega (arith, length-append before (false ∷ [])))

-- what is left of the walk has the rest of the solutions, in order
pub solutions_in-walk_on : (rules : Rules) (s : System) (p : List Bool) → IsSystem s → length p ≤ (length s.columns) → solutions_in s (walk_on rules s p) ≡ rest s p
solutions_in-walk_on rules s p ok h =
    let left = filter-filter (not_before p) (is_solution s) (vectors (length s.columns)) ∙ filter_agree _ (λ x. not_before p x && is_solution s x) (λ x. and_comm (is_solution s x) (not_before p x)) (vectors (length s.columns)) ∙ solutions_on s [] p (omega arith) in
    let walked = solutions_in-walk_from rules s ((length s.columns) - length p) p ok (omega arith) in
    rw (filter_map-append (solution_of s) (walk rules s p) (later_walk rules s [] p), walked, solutions_in-later_walk rules s [] p ok (omega arith)) (sym left)
