-- Entries that a search passes.
use Rattle.std.proofs.Common.{◌≡◌, ℕ, suc, zero, ◌+◌, ◌*◌, ◌≤◌, ◌<◌, Bool, List, [], ◌∷◌, ◌++◌, length, Some, refl, sym, ap, ◌∙◌, subst, arith, length-append}
use Rattle.std.proofs.lemmas.List.{append_assoc}
use Rattle.std.proofs.lemmas.List.Elements.{filter_map-append}
use Rattle.df_walk.specs.declared.Entry.TheVariants as entry
use Rattle.df_walk.specs.Solutions.{yes_vector}
use Rattle.df_walk.specs.declared.Entry.{Entry}
use Rattle.df_walk.specs.Walks.{Step, decided, entry_at, solution_of, solutions_in, node_of, nodes_in}
use Rattle.df_walk.specs.Paths.{IsNode}
use Rattle.df_walk.proofs.WalkSteps.{walk_on_first}
use Rattle.df_walk.proofs.NodeVisits.{node_of_start}
use Rattle.df_search.specs.declared.Event.{Event}
use Rattle.df_search.specs.declared.Event.TheVariants.{Solution, Spent, Finished}
use Rattle.df_search.specs.Searches.{Searching, StandsBefore, rest_solutions, rest_nodes, AdvancesBy, Advances, Passes, Finds, Stops, Ends, answered, stopped}

-- what was passed and what remains are what remained
pub passes_of : {q new : Searching} {budget after : ℕ} {found : List (List Bool)} (passed : List Step) → q.rest ≡ passed ++ new.rest → solutions_in q.system passed ≡ found → budget ≡ length (nodes_in passed) + after → new.system ≡ q.system → new.rules ≡ q.rules → Passes q budget new after found
passes_of {q} {new} {budget} {after} {found} passed joined solutions nodes system rules =
    let split : rest_solutions q ≡ found ++ solutions_in q.system new.rest = ap (solutions_in q.system) joined ∙ filter_map-append (solution_of q.system) passed new.rest ∙ ap (λ l. l ++ solutions_in q.system new.rest) solutions in
    let count : rest_nodes q ≡ length (nodes_in passed) + rest_nodes new = ap (λ l. length (nodes_in l)) joined ∙ ap length (filter_map-append node_of passed new.rest) ∙ length-append (nodes_in passed) (nodes_in new.rest) in
    record {
      passed = passed;
      joined = joined;
      solutions = solutions;
      nodes = nodes;
      solutions_remain = split ∙ ap (λ s. found ++ solutions_in s new.rest) (sym system);
      nodes_remain = omega (arith, count, nodes);
      system = system;
      rules = rules;
    }

-- nothing is passed yet
pub none_passed : (q : Searching) (budget : ℕ) → Passes q budget q budget []
none_passed q budget = passes_of [] refl refl (omega arith) refl refl

-- how many entries were passed
pub passed_count : {q new : Searching} {budget after : ℕ} {found : List (List Bool)} → Passes q budget new after found → length new.rest ≤ length q.rest
passed_count {q} {new} h = let e = ap length h.joined in omega (arith, length-append h.passed new.rest)

-- one more entry
pub pass_one : {q mid : Searching} {budget b : ℕ} (x : Step) (new : Searching) (after : ℕ) (found : List (List Bool)) → Passes q budget mid b [] → mid.rest ≡ x ∷ new.rest → new.system ≡ mid.system → new.rules ≡ mid.rules → solutions_in q.system (x ∷ []) ≡ found → b ≡ length (nodes_in (x ∷ [])) + after → Passes q budget new after found
pass_one {q} {mid} {budget} {b} x new after found h is system rules found_is nodes =
    let e = ap length (filter_map-append node_of h.passed (x ∷ [])) in
    passes_of (h.passed ++ x ∷ []) (h.joined ∙ ap (λ l. h.passed ++ l) is ∙ sym (append_assoc h.passed (x ∷ []) new.rest)) (filter_map-append (solution_of q.system) h.passed (x ∷ []) ∙ rw (h.solutions, found_is) refl) (omega (arith, h.nodes, length-append (nodes_in h.passed) (nodes_in (x ∷ [])))) (system ∙ h.system) (rules ∙ h.rules)

-- an entry that is no solution was passed, and what is left is shorter
pub record Skips (q : Searching) (budget : ℕ) (mid new : Searching) (after : ℕ) : Type 0 where
  pub passes : Passes q budget new after []
  pub shorter : length mid.rest ≡ length new.rest + 1

skip_one : {q mid : Searching} {budget b : ℕ} (x : Step) (new : Searching) (more : List Step) (after : ℕ) → Passes q budget mid b [] → mid.rest ≡ x ∷ more → new ≡ answered mid x.0 more → solutions_in q.system (x ∷ []) ≡ [] → b ≡ length (nodes_in (x ∷ [])) + after → Skips q budget mid new after
skip_one {q} {mid} x new more after h is new_is none nodes =
    let left : new.rest ≡ more = ap (λ n. n.rest) new_is in
    let first : mid.rest ≡ x ∷ new.rest = is ∙ ap (λ l. x ∷ l) (sym left) in
    let e = ap length first in
    record { passes = pass_one x new after [] h first (ap (λ n. n.system) new_is) (ap (λ n. n.rules) new_is) none nodes; shorter = omega arith }

pub skips : {q : Searching} {budget : ℕ} (mid new : Searching) (b after : ℕ) (e : Event) → Passes q budget mid b [] → Advances mid b e new after → (e ≡ Solution → ⊥) → (e ≡ Spent → ⊥) → (e ≡ Finished → ⊥) → Skips q budget mid new after
skips {q} {budget} mid new b after e h a n1 n2 n3 = go mid.rest b refl h a
  where
    go : (l : List Step) (b : ℕ) → mid.rest ≡ l → Passes q budget mid b [] → AdvancesBy mid l b e new after → Skips q budget mid new after
    go [] b is h a = absurd (n3 a.0)
    go ((p, entry.Over r) ∷ more) b is h a = skip_one (p, entry.Over r) new more after h is a.1 refl (omega (arith, a.2))
    go ((p, entry.Under r) ∷ more) b is h a = skip_one (p, entry.Under r) new more after h is a.1 refl (omega (arith, a.2))
    go ((p, entry.Residue r m) ∷ more) b is h a = skip_one (p, entry.Residue r m) new more after h is a.1 refl (omega (arith, a.2))
    go ((p, entry.Cut ws) ∷ more) b is h a = absurd a
    go ((p, entry.Settled) ∷ more) zero is h a = absurd (n2 a.0)
    go ((p, entry.Settled) ∷ more) (suc b) is h a = absurd (n1 a.0)
    go ((p, entry.Branch c) ∷ more) zero is h a = absurd (n2 a.0)
    go ((p, entry.Branch c) ∷ more) (suc b) is h a = skip_one (p, entry.Branch c) new more after h is a.1 refl (omega (arith, a.2))

-- a solution is found
pub record FindsNext (q : Searching) (budget : ℕ) (mid new : Searching) (after : ℕ) : Type 0 where
  pub finds : Finds q budget new after
  pub shorter : length mid.rest ≡ length new.rest + 1

pub finds_next : {q : Searching} {budget : ℕ} (mid new : Searching) (b after : ℕ) → Passes q budget mid b [] → Advances mid b Solution new after → FindsNext q budget mid new after
finds_next {q} {budget} mid new b after h a = go mid.rest b refl h a
  where
    go : (l : List Step) (b : ℕ) → mid.rest ≡ l → Passes q budget mid b [] → AdvancesBy mid l b Solution new after → FindsNext q budget mid new after
    go [] b is h a = absurd (let e = a.0 in cc)
    go ((p, entry.Over r) ∷ more) b is h a = absurd (let e = a.0 in cc)
    go ((p, entry.Under r) ∷ more) b is h a = absurd (let e = a.0 in cc)
    go ((p, entry.Residue r m) ∷ more) b is h a = absurd (let e = a.0 in cc)
    go ((p, entry.Cut ws) ∷ more) b is h a = absurd a
    go ((p, entry.Settled) ∷ more) zero is h a = absurd (let e = a.0 in cc)
    go ((p, entry.Settled) ∷ more) (suc b) is h a =
        let x = yes_vector (length q.system.columns) (decided p) in
        let left : new.rest ≡ more = ap (λ n. n.rest) a.1 in
        let path : new.path ≡ p = ap (λ n. n.path) a.1 in
        let first : mid.rest ≡ (p, entry.Settled) ∷ new.rest = is ∙ ap (λ l. (p, entry.Settled) ∷ l) (sym left) in
        let e = ap length first in
        record {
          finds = record {
            solution = x;
            passes = pass_one (p, entry.Settled) new after (x ∷ []) h first (ap (λ n. n.system) a.1) (ap (λ n. n.rules) a.1) refl (omega (arith, a.2));
            before = h.passed;
            entries = h.joined ∙ ap (λ l. h.passed ++ l) (first ∙ ap (λ r. (r, entry.Settled) ∷ new.rest) (sym path));
            none_before = h.solutions;
            solution_is = ap (λ r. yes_vector (length q.system.columns) (decided r)) (sym path);
            chosen = ap (λ n. n.chosen) a.1 ∙ ap (λ s. Some (yes_vector (length s.columns) (decided p))) h.system;
          };
          shorter = omega arith;
        }
    go ((p, entry.Branch c) ∷ more) zero is h a = absurd (let e = a.0 in cc)
    go ((p, entry.Branch c) ∷ more) (suc b) is h a = absurd (let e = a.0 in cc)

-- the entry of the first step
first_entry : {x y : Step} {xs ys : List Step} → x ∷ xs ≡ y ∷ ys → x.1 ≡ y.1
first_entry {x} {y} e = ap (λ l. entry_of_first l x.1) e
  where
    entry_of_first : List Step → Entry → Entry
    entry_of_first [] other = other
    entry_of_first (step ∷ steps) other = step.1

-- where the first entry that remains counts as a node, the place is one
stop_node : {q : Searching} (e : Entry) (more : List Step) → StandsBefore q q.path → q.rest ≡ (q.path, e) ∷ more → node_of (q.path, e) ≡ Some q.path → IsNode q.rules q.system q.path
stop_node {q} e more stands first counts =
    let begin = walk_on_first q.rules q.system q.path in
    let same : e ≡ entry_at q.rules q.system q.path = first_entry (sym first ∙ stands.goes_on ∙ begin.1) in
    node_of_start q.rules q.system q.path stands.start (subst (λ e. node_of (q.path, e) ≡ Some q.path) same counts)

-- the search stays
stop_one : {q mid : Searching} {budget b : ℕ} (p : List Bool) (e : Entry) (new : Searching) (more : List Step) (after : ℕ) → Passes q budget mid b [] → mid.rest ≡ (p, e) ∷ more → new ≡ stopped mid p → b ≡ 0 → after ≡ 0 → ((r : List Bool) → node_of (r, e) ≡ Some r) → 0 < length (nodes_in ((p, e) ∷ more)) → StandsBefore new new.path → Stops q budget new after
stop_one {q} {mid} {budget} {b} p e new more after h is new_is none spent counts some stands =
    let left : new.rest ≡ mid.rest = ap (λ n. n.rest) new_is in
    let path : new.path ≡ p = ap (λ n. n.path) new_is in
    let first : new.rest ≡ (new.path, e) ∷ more = left ∙ is ∙ ap (λ r. (r, e) ∷ more) (sym path) in
    record {
      node = stop_node e more stands first (counts new.path);
      next = e;
      later = more;
      first = first;
      counts = counts new.path;
      passes = passes_of h.passed (h.joined ∙ ap (λ l. h.passed ++ l) (sym left)) h.solutions (omega (arith, h.nodes)) (ap (λ n. n.system) new_is ∙ h.system) (ap (λ n. n.rules) new_is ∙ h.rules);
      spent = spent;
      stands = stands;
      more = rw (left ∙ is) some;
    }

pub stops : {q : Searching} {budget : ℕ} (mid new : Searching) (b after : ℕ) → Passes q budget mid b [] → Advances mid b Spent new after → StandsBefore new new.path → Stops q budget new after
stops {q} {budget} mid new b after h a stands = go mid.rest b refl h a
  where
    go : (l : List Step) (b : ℕ) → mid.rest ≡ l → Passes q budget mid b [] → AdvancesBy mid l b Spent new after → Stops q budget new after
    go [] b is h a = absurd (let e = a.0 in cc)
    go ((p, entry.Over r) ∷ more) b is h a = absurd (let e = a.0 in cc)
    go ((p, entry.Under r) ∷ more) b is h a = absurd (let e = a.0 in cc)
    go ((p, entry.Residue r m) ∷ more) b is h a = absurd (let e = a.0 in cc)
    go ((p, entry.Cut ws) ∷ more) b is h a = absurd a
    go ((p, entry.Settled) ∷ more) zero is h a = stop_one p entry.Settled new more after h is a.1 refl a.2 (λ r. refl) (omega arith) stands
    go ((p, entry.Settled) ∷ more) (suc b) is h a = absurd (let e = a.0 in cc)
    go ((p, entry.Branch c) ∷ more) zero is h a = stop_one p (entry.Branch c) new more after h is a.1 refl a.2 (λ r. refl) (omega arith) stands
    go ((p, entry.Branch c) ∷ more) (suc b) is h a = absurd (let e = a.0 in cc)

-- the length of what is left stays, where the search does
pub stops_left : (mid new : Searching) (b after : ℕ) → Advances mid b Spent new after → length new.rest ≡ length mid.rest
stops_left mid new b after a = go mid.rest b a
  where
    go : (l : List Step) (b : ℕ) → AdvancesBy mid l b Spent new after → length new.rest ≡ length mid.rest
    go [] b a = absurd (let e = a.0 in cc)
    go ((p, entry.Over r) ∷ more) b a = absurd (let e = a.0 in cc)
    go ((p, entry.Under r) ∷ more) b a = absurd (let e = a.0 in cc)
    go ((p, entry.Residue r m) ∷ more) b a = absurd (let e = a.0 in cc)
    go ((p, entry.Cut ws) ∷ more) b a = absurd a
    go ((p, entry.Settled) ∷ more) zero a = ap (λ n. length n.rest) a.1
    go ((p, entry.Settled) ∷ more) (suc b) a = absurd (let e = a.0 in cc)
    go ((p, entry.Branch c) ∷ more) zero a = ap (λ n. length n.rest) a.1
    go ((p, entry.Branch c) ∷ more) (suc b) a = absurd (let e = a.0 in cc)

-- nothing is left
pub ends : {q : Searching} {budget : ℕ} (mid new : Searching) (b after : ℕ) → Passes q budget mid b [] → Advances mid b Finished new after → Ends q budget new after × (length new.rest ≡ length mid.rest)
ends {q} {budget} mid new b after h a = go mid.rest b refl h a
  where
    go : (l : List Step) (b : ℕ) → mid.rest ≡ l → Passes q budget mid b [] → AdvancesBy mid l b Finished new after → Ends q budget new after × (length new.rest ≡ length mid.rest)
    go [] b is h a =
        let left : new.rest ≡ [] = ap (λ n. n.rest) a.1 in (
          record {
            passes = passes_of h.passed (h.joined ∙ ap (λ l. h.passed ++ l) (is ∙ sym left)) h.solutions (omega (arith, h.nodes, a.2)) (ap (λ n. n.system) a.1 ∙ h.system) (ap (λ n. n.rules) a.1 ∙ h.rules);
            end = left;
            path = ap (λ n. n.path) a.1;
          },
          ap length (left ∙ sym is),
        )
    go ((p, entry.Over r) ∷ more) b is h a = absurd (let e = a.0 in cc)
    go ((p, entry.Under r) ∷ more) b is h a = absurd (let e = a.0 in cc)
    go ((p, entry.Residue r m) ∷ more) b is h a = absurd (let e = a.0 in cc)
    go ((p, entry.Cut ws) ∷ more) b is h a = absurd a
    go ((p, entry.Settled) ∷ more) zero is h a = absurd (let e = a.0 in cc)
    go ((p, entry.Settled) ∷ more) (suc b) is h a = absurd (let e = a.0 in cc)
    go ((p, entry.Branch c) ∷ more) zero is h a = absurd (let e = a.0 in cc)
    go ((p, entry.Branch c) ∷ more) (suc b) is h a = absurd (let e = a.0 in cc)

-- the steps of one more call
pub cost_more : (w start mid new a m z k j : ℕ) → mid + w * m ≤ start + w * (3 * k + a) → new + w * z ≤ mid + w * (m + 3) → j ≡ k + 1 → new + w * z ≤ start + w * (3 * j + a)
cost_more w start mid new a m z k j h more is = rw is (omega arith)
