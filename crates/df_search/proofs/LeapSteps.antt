-- A leap passes its nodes and their dead leaves, and no solution.
use Rattle.std.proofs.Common.{◌≡◌, ℕ, zero, suc, ◌+◌, Bool, true, false, List, [], ◌∷◌, ◌++◌, length, refl, sym, ap, ◌∙◌, arith}
use Rattle.std.specs.Prelude.{replicate}
use Rattle.std.proofs.lemmas.List.{append_assoc, append-nil}
use Rattle.df_walk.specs.declared.Rules.{Rules}
use Rattle.df_walk.specs.declared.Entry.TheVariants as entry
use Rattle.df_walk.specs.Systems.{System}
use Rattle.df_walk.specs.Walks.{Step, entry_at, solutions_in, nodes_in}
use Rattle.df_walk.specs.Remains.{walk_on, IsVisited}
use Rattle.df_walk.proofs.WalkSteps.{walk_on_branch, walk_on_over, past_yes}
use Rattle.df_search.specs.Leaps.{IsLeap, Leaps, leap_steps}
use Rattle.df_search.proofs.SearchSteps.{is_branch_is, visited_more}

-- one leap over one column
walk_on_leap : (rules : Rules) (s : System) (p : List Bool) → IsLeap rules s p → walk_on rules s p ≡ (p, entry_at rules s p) ∷ (p ++ true ∷ [], entry_at rules s (p ++ true ∷ [])) ∷ walk_on rules s (p ++ false ∷ [])
walk_on_leap rules s p h =
    let b = is_branch_is (entry_at rules s p) h.0 in
    let row = h.1.0 in
    let dead = h.1.1 in
    let step : Step = (p ++ true ∷ [], entry_at rules s (p ++ true ∷ [])) in
    walk_on_branch rules s p b.0 b.1 ∙ ap (λ l. (p, entry.Branch b.0) ∷ l) (walk_on_over rules s (p ++ true ∷ []) row dead ∙ ap (λ l. (p ++ true ∷ [], entry.Over row) ∷ l) (past_yes rules s p)) ∙ ap (λ e. (p, entry.Branch b.0) ∷ (p ++ true ∷ [], e) ∷ walk_on rules s (p ++ false ∷ [])) (sym dead) ∙ ap (λ e. (p, e) ∷ step ∷ walk_on rules s (p ++ false ∷ [])) (sym b.1)

first_leap : (rules : Rules) (s : System) (p : List Bool) (n : ℕ) → Leaps rules s p (suc n) → IsLeap rules s p
first_leap rules s p n h = rw (append-nil p) at (h 0 (omega arith))

later_leaps : (rules : Rules) (s : System) (p : List Bool) (n : ℕ) → Leaps rules s p (suc n) → Leaps rules s (p ++ false ∷ []) n
later_leaps rules s p n h k lt = rw (append_assoc p (false ∷ []) (replicate k false)) (h (suc k) (omega arith))

-- the steps of a leap, and what remains after it
leap_from : (rules : Rules) (s : System) (n : ℕ) (p : List Bool) → Leaps rules s p n → walk_on rules s p ≡ leap_steps rules s p n ++ walk_on rules s (p ++ replicate n false)
leap_from rules s zero p h = rw (append-nil p)
leap_from rules s (suc n) p h =
    let more = leap_from rules s n (p ++ false ∷ []) (later_leaps rules s p n h) in
    let rest = rw (append_assoc p (false ∷ []) (replicate n false)) at more in
    walk_on_leap rules s p (first_leap rules s p n h) ∙ ap (λ l. (p, entry_at rules s p) ∷ (p ++ true ∷ [], entry_at rules s (p ++ true ∷ [])) ∷ l) rest

leap_pair : (rules : Rules) (s : System) (p : List Bool) (c row : ℕ) (more : List Step) → entry_at rules s p ≡ entry.Branch c → entry_at rules s (p ++ true ∷ []) ≡ entry.Over row → solutions_in s ((p, entry_at rules s p) ∷ (p ++ true ∷ [], entry_at rules s (p ++ true ∷ [])) ∷ more) ≡ solutions_in s more
leap_pair rules s p c row more is dead = rw (is, dead) refl

node_pair : (rules : Rules) (s : System) (p : List Bool) (c row : ℕ) (more : List Step) → entry_at rules s p ≡ entry.Branch c → entry_at rules s (p ++ true ∷ []) ≡ entry.Over row → length (nodes_in ((p, entry_at rules s p) ∷ (p ++ true ∷ [], entry_at rules s (p ++ true ∷ [])) ∷ more)) ≡ suc (length (nodes_in more))
node_pair rules s p c row more is dead = rw (is, dead) refl

leap_solutions : (rules : Rules) (s : System) (n : ℕ) (p : List Bool) → Leaps rules s p n → solutions_in s (leap_steps rules s p n) ≡ []
leap_solutions rules s zero p h = refl
leap_solutions rules s (suc n) p h =
    let one = first_leap rules s p n h in
    let b = is_branch_is (entry_at rules s p) one.0 in
    leap_pair rules s p b.0 one.1.0 (leap_steps rules s (p ++ false ∷ []) n) b.1 one.1.1 ∙ leap_solutions rules s n (p ++ false ∷ []) (later_leaps rules s p n h)

leap_nodes : (rules : Rules) (s : System) (n : ℕ) (p : List Bool) → Leaps rules s p n → length (nodes_in (leap_steps rules s p n)) ≡ n
leap_nodes rules s zero p h = refl
leap_nodes rules s (suc n) p h =
    let one = first_leap rules s p n h in
    let b = is_branch_is (entry_at rules s p) one.0 in
    node_pair rules s p b.0 one.1.0 (leap_steps rules s (p ++ false ∷ []) n) b.1 one.1.1 ∙ ap suc (leap_nodes rules s n (p ++ false ∷ []) (later_leaps rules s p n h))

leap_length : (rules : Rules) (s : System) (n : ℕ) (p : List Bool) → length (leap_steps rules s p n) ≡ n + n
leap_length rules s zero p = refl
leap_length rules s (suc n) p = omega (arith, leap_length rules s n (p ++ false ∷ []))

-- what a leap of n no's from a path passes
pub record LeapsOver (rules : Rules) (s : System) (p : List Bool) (n : ℕ) (steps : List Step) : Type 0 where
  pub joined : walk_on rules s p ≡ steps ++ walk_on rules s (p ++ replicate n false)
  pub no_solutions : solutions_in s steps ≡ []
  pub nodes : length (nodes_in steps) ≡ n
  pub count : length steps ≡ n + n

pub leaps_over : (rules : Rules) (s : System) (p : List Bool) (n : ℕ) → Leaps rules s p n → LeapsOver rules s p n (leap_steps rules s p n)
leaps_over rules s p n h =
    record {
      joined = leap_from rules s n p h;
      no_solutions = leap_solutions rules s n p h;
      nodes = leap_nodes rules s n p h;
      count = leap_length rules s n p;
    }

-- the walk comes by the path after a leap
pub leaps_visited : (rules : Rules) (s : System) (n : ℕ) (p : List Bool) → Leaps rules s p n → IsVisited rules s p → IsVisited rules s (p ++ replicate n false)
leaps_visited rules s zero p h v = rw (append-nil p) v
leaps_visited rules s (suc n) p h v =
    let next = visited_more rules s [] p false v (first_leap rules s p n h).0 in
    rw (append_assoc p (false ∷ []) (replicate n false)) at (leaps_visited rules s n (p ++ false ∷ []) (later_leaps rules s p n h) next)
