-- Entries that a leap passes, and what they cost.
use Rattle.std.proofs.Common.{◌≡◌, ℕ, ◌+◌, ◌-◌, ◌*◌, ◌≤◌, Bool, true, false, List, [], ◌∷◌, ◌++◌, length, refl, sym, ap, ◌∙◌, subst, arith, length-append}
use Rattle.std.specs.Prelude.{replicate, IsSome}
use Rattle.std.proofs.lemmas.Bool.{false≢true}
use Rattle.std.proofs.lemmas.List.{append_assoc}
use Rattle.std.proofs.lemmas.List.Elements.{filter_map-append}
use Rattle.df_walk.specs.declared.Rules.{Rules}
use Rattle.df_walk.specs.declared.Entry.{Entry}
use Rattle.df_walk.specs.declared.Entry.TheVariants as entry
use Rattle.df_walk.specs.Systems.{System, widest}
use Rattle.df_walk.specs.Walks.{entry_at, solution_of, solutions_in, node_of, nodes_in}
use Rattle.df_walk.specs.Remains.{later_walk, walk_on}
use Rattle.df_walk.proofs.WalkSteps.{walk_on_over, walk_on_under, walk_on_residue}
use Rattle.df_search.specs.declared.search.State.{State}
use Rattle.df_search.specs.declared.search.State.TheVariants.{Past}
use Rattle.df_search.specs.HeldPaths.{Held}
use Rattle.df_search.specs.Leaps.{Leaps, leap_steps, is_leaf}
use Rattle.df_search.specs.Searches.{Searching, Passes, PassesLeaf, place_of, search_of, stopped}
use Rattle.df_search.proofs.LeapSteps.{leaps_over}
use Rattle.df_search.proofs.SearchSteps.{asked_on, asked_again, asked_path}
use Rattle.df_search.proofs.PassedSteps.{passes_of, passed_count, pass_one, Skips}

-- n nodes were passed, each with its dead leaf
pub record PassesLeap (q : Searching) (budget : ℕ) (new : Searching) (after n : ℕ) : Type 0 where
  pub passes : Passes q budget new after []
  pub count : length q.rest ≡ length new.rest + (n + n)

pub passes_leap : (st : State) (rules : Rules) (old new : Held) (n budget after : ℕ) → IsSome (place_of st old.path) → new ≡ record old { path = old.path ++ replicate n false } → Leaps rules old.system old.path n → budget ≡ n + after → PassesLeap (search_of st rules old) budget (search_of st rules new) after n
passes_leap st rules old new n budget after asked is leaps paid =
    let s = old.system in
    let p = old.path in
    let q = p ++ replicate n false in
    let over = leaps_over rules s p n leaps in
    let steps = leap_steps rules s p n in
    let to : Held = record old { path = q } in
    let joined : (search_of st rules old).rest ≡ steps ++ (search_of st rules to).rest = asked_on st rules s p asked ∙ over.joined ∙ ap (λ l. steps ++ l) (sym (asked_on st rules s q (asked_again st p q asked))) in
    let gone : PassesLeap (search_of st rules old) budget (search_of st rules to) after n = record {
      passes = passes_of steps joined over.no_solutions (omega (arith, over.nodes)) refl refl;
      count = ap length joined ∙ length-append steps (search_of st rules to).rest ∙ omega (arith, over.count);
    } in
    subst (λ h. PassesLeap (search_of st rules old) budget (search_of st rules h) after n) (sym is) gone

-- what was passed before and after
pub pass_more : {q mid : Searching} {budget b : ℕ} (new : Searching) (after : ℕ) (found : List (List Bool)) → Passes q budget mid b [] → Passes mid b new after found → Passes q budget new after found
pass_more {q} {mid} {budget} {b} new after found h k =
    let e = ap length (filter_map-append node_of h.passed k.passed) in
    passes_of (h.passed ++ k.passed) (h.joined ∙ ap (λ l. h.passed ++ l) k.joined ∙ sym (append_assoc h.passed k.passed new.rest)) (filter_map-append (solution_of q.system) h.passed k.passed ∙ rw (h.solutions) (ap (λ s. solutions_in s k.passed) (sym h.system) ∙ k.solutions)) (omega (arith, h.nodes, k.nodes, length-append (nodes_in h.passed) (nodes_in k.passed))) (k.system ∙ h.system) (k.rules ∙ h.rules)

-- the search comes to its next path
pub pass_stopped : {q mid : Searching} {budget b : ℕ} (new : Searching) (p : List Bool) → Passes q budget mid b [] → new ≡ stopped mid p → Passes q budget new b []
pass_stopped {q} {mid} {budget} {b} new p h is =
    passes_of h.passed (h.joined ∙ ap (λ l. h.passed ++ l) (sym (ap (λ n. n.rest) is))) h.solutions h.nodes (ap (λ n. n.system) is ∙ h.system) (ap (λ n. n.rules) is ∙ h.rules)

-- a search comes to its next path, leaps, and stays at the last path of the leap
pub pass_on : {q mid : Searching} {budget b : ℕ} (come leap new : Searching) (after : ℕ) → Passes q budget mid b [] → come ≡ stopped mid come.path → Passes come b leap after [] → new ≡ leap → Passes q budget new after []
pass_on {q} {mid} {budget} {b} come leap new after h is k kept = subst (λ n. Passes q budget n after []) (sym kept) (pass_more leap after [] (pass_stopped come come.path h is) k)

cost_by : (w start s0 s1 s2 a m0 m1 z k j n : ℕ) → s0 + w * m0 ≤ start + w * (3 * k + a) → s1 + w * m1 ≤ s0 + w * (m0 + 2) → s2 + w * m1 ≤ s1 + w * (z + 1) → z ≡ m1 + n → j ≡ k + (n + n) + 1 → s2 + w * z ≤ start + w * (3 * j + a)
cost_by w start s0 s1 s2 a m0 m1 z k j n h come leap z_is j_is = rw (z_is, j_is) (omega (arith, rw z_is at leap))

-- the steps of all this where one entry more is passed, or one call more answers no entry
pub cost_on : {q mid : Searching} {budget b after : ℕ} (come leap : Searching) (start s0 s1 s2 z j : ℕ) → Passes q budget mid b [] → come ≡ stopped mid come.path → Passes come b leap after [] → length come.path ≤ length leap.path → length come.rest + (length come.path + length come.path) ≡ length leap.rest + (length leap.path + length leap.path) → s0 + widest q.system.columns * length mid.path ≤ start + widest q.system.columns * (3 * (length q.rest - length mid.rest) + length q.path) → s1 + widest mid.system.columns * length come.path ≤ s0 + widest mid.system.columns * (length mid.path + 2) → s2 + widest come.system.columns * length come.path ≤ s1 + widest come.system.columns * (length leap.path + 1) → z ≡ length leap.path → j ≡ length q.rest - length leap.rest + 1 → s2 + widest q.system.columns * z ≤ start + widest q.system.columns * (3 * j + length q.path)
cost_on {q} {mid} {budget} {b} {after} come leap start s0 s1 s2 z j h is k longer count before coming leaping z_is j_is =
    let at = pass_stopped come come.path h is in
    let same = ap (λ n. length n.rest) is in
    cost_by (widest q.system.columns) start s0 s1 s2 (length q.path) (length mid.path) (length come.path) z (length q.rest - length mid.rest) j (length leap.path - length come.path) before (rw (h.system) at coming) (rw z_is (rw (at.system) at leaping)) (omega arith) (omega (arith, passed_count h, passed_count k))

-- the path that is given up is passed
leaf_rest : (rules : Rules) (s : System) (p : List Bool) (e : Entry) → entry_at rules s p ≡ e → is_leaf e ≡ true → walk_on rules s p ≡ (p, e) ∷ later_walk rules s [] p
leaf_rest rules s p (entry.Over r) is h = walk_on_over rules s p r is
leaf_rest rules s p (entry.Under r) is h = walk_on_under rules s p r is
leaf_rest rules s p (entry.Residue r m) is h = walk_on_residue rules s p r m is
leaf_rest rules s p (entry.Branch c) is h = absurd (false≢true h)
leaf_rest rules s p entry.Settled is h = absurd (false≢true h)
leaf_rest rules s p (entry.Cut ws) is h = absurd (false≢true h)

pub passes_leaf : (st : State) (rules : Rules) (held : Held) → IsSome (place_of st held.path) → is_leaf (entry_at rules held.system held.path) ≡ true → PassesLeaf (search_of st rules held) (search_of Past rules held)
passes_leaf st rules held asked dead =
    record {
      leaf = entry_at rules held.system held.path;
      gives_up = dead;
      first = asked_on st rules held.system held.path asked ∙ leaf_rest rules held.system held.path (entry_at rules held.system held.path) refl dead;
      system = refl;
      rules = refl;
      path = sym (asked_path st held.path asked);
    }

-- what was passed with it
pub pass_leaf : {q mid : Searching} {budget b : ℕ} (new : Searching) → Passes q budget mid b [] → PassesLeaf mid new → Skips q budget mid new b
pass_leaf {q} {mid} {budget} {b} new h leaf = go leaf.leaf leaf.gives_up leaf.first
  where
    go : (e : Entry) → is_leaf e ≡ true → mid.rest ≡ (new.path, e) ∷ new.rest → Skips q budget mid new b
    go (entry.Over r) dead is = record { passes = pass_one (new.path, entry.Over r) new b [] h is leaf.system leaf.rules refl (omega arith); shorter = ap length is ∙ omega arith }
    go (entry.Under r) dead is = record { passes = pass_one (new.path, entry.Under r) new b [] h is leaf.system leaf.rules refl (omega arith); shorter = ap length is ∙ omega arith }
    go (entry.Residue r m) dead is = record { passes = pass_one (new.path, entry.Residue r m) new b [] h is leaf.system leaf.rules refl (omega arith); shorter = ap length is ∙ omega arith }
    go (entry.Branch c) dead is = absurd (false≢true dead)
    go entry.Settled dead is = absurd (false≢true dead)
    go (entry.Cut ws) dead is = absurd (false≢true dead)
