-- Steps that a writer of a run passes, and the run that is left.
use Rattle.std.proofs.Common.{◌≡◌, ◌++◌, ◌∷◌, [], ℕ, ◌+◌, ◌<◌, ◌≤◌, Bool, true, false, List, length, map, Option, None, Some, Result, Ok, Err, refl, sym, ap, ap₂, ◌∙◌, subst, arith, append-nil, append_assoc, length-append}
use Rattle.std.specs.Result.{IsErr}
use Rattle.std.specs.List.{flat_map, AllByRecursion}
use Rattle.std.proofs.lemmas.Grind.{flat_map-append}
use Rattle.std.proofs.lemmas.List.Elements.{filter_map-append}
use Rattle.df_io.specs.declared.bytes.WriteFault.{WriteFault}
use Rattle.df_walk.specs.declared.Entry.{Entry}
use Rattle.df_walk.specs.declared.Entry.TheVariants.{Branch, Over, Under, Settled, Residue, Cut}
use Rattle.df_walk.specs.Systems.{System}
use Rattle.df_walk.specs.Solutions.{yes_vector}
use Rattle.df_walk.specs.Walks.{Step, decided, solution_of, solutions_in, node_of, nodes_in}
use Rattle.df_walk.specs.Paths.{is_node}
use Rattle.df_runs.specs.Runs.{run_over, run_of, then_run, IsCounted}
use Rattle.df_lists.proofs.MemberLaws.{all_front}
use Rattle.df_runs.proofs.CountedSteps.{run_after, steps-counted}
use Rattle.df_search.specs.Searches.{Searching, StandsBefore, Passes, Gives, Finds}
use Rattle.df_lang.specs.Problems.{Stated}
use Rattle.df_kramer_mesner.specs.OrbitSystems.{orbit_system}
use Rattle.df_correspondence.specs.Designs.{design}
use Rattle.df_design.specs.RemainingDesigns.{Remaining}
use Rattle.df_dossier.specs.Entries.{entry_text}
use Rattle.df_tell.specs.declared.run.Shown.{Shown}
use Rattle.df_tell.specs.declared.run.Counts.{Counts}
use Rattle.df_tell.specs.declared.run.RunEnd.{RunEnd}
use Rattle.df_tell.specs.Run.{step_lines, design_lines, solution_lines, as_written}
use Rattle.df_tell.specs.RunSteps.{IsOf, AreCounted, run_left, Pays, Tells, stop_at, IsOver, IsRan}
use Rattle.df_tell.specs.Gathered.{Gathers}
use Rattle.df_tell.proofs.GatheredTexts.{gathers_nothing, gathers_as, gathers_then, gathers_stopped}
use Rattle.df_tell.proofs.SilentRuns.{silent_lines}

-- each solution stands at a node
pub sols_few : (y : System) (steps : List Step) → length (solutions_in y steps) ≤ length (nodes_in steps)
sols_few y [] = omega arith
sols_few y ((p, Settled) ∷ steps) = omega (arith, sols_few y steps)
sols_few y ((p, Branch column) ∷ steps) = omega (arith, sols_few y steps)
sols_few y ((p, Over row) ∷ steps) = sols_few y steps
sols_few y ((p, Under row) ∷ steps) = sols_few y steps
sols_few y ((p, Residue row m) ∷ steps) = sols_few y steps
sols_few y ((p, Cut ws) ∷ steps) = sols_few y steps

-- the steps passed are paid, and the run left is that of the budget left
pub run_passed : (q new : Searching) (steps : List Step) (n m : ℕ) → AreCounted q → q.rest ≡ steps ++ new.rest → n ≡ length (nodes_in steps) + m → new.system ≡ q.system → new.rules ≡ q.rules
    → run_left q n ≡ then_run (record { taken = steps; stop = None }) (run_left new m)
run_passed q new steps n m counted joined nodes system rules =
    let node = is_node q.rules q.system in
    let front = all_front (IsCounted node) steps new.rest (subst (AllByRecursion (IsCounted node)) joined counted) in
    ap (run_over node n) joined ∙ ap (λ k. run_over node k (steps ++ new.rest)) nodes ∙ run_after node m steps new.rest front
    ∙ ap₂ (λ r y. then_run (record { taken = steps; stop = None }) (run_over (is_node r y) m new.rest)) (sym rules) (sym system)

-- where the search stands at a place, what is left is counted, and its run is that from the place
pub stands_counted : (q : Searching) (p : List Bool) → StandsBefore q p → AreCounted q
stands_counted q p stands = subst (AllByRecursion (IsCounted (is_node q.rules q.system))) (sym stands.entries) (steps-counted q.rules q.system p)

pub stands_run : (q : Searching) (p : List Bool) (n : ℕ) → StandsBefore q p → run_left q n ≡ run_of q.rules q.system p n
stands_run q p n stands = ap (run_over (is_node q.rules q.system) n) stands.entries

-- an answer is what it equals
pub tells_as : {K : Type 0} {w : K → Option (List ℕ)} {f : K → ℕ} {shown : Shown} {s : Stated} {q new : Remaining} {c d : Counts} {a b : K} {g h : List ℕ} {t r : Result (Unit {0}) WriteFault} → t ≡ r → Tells w f shown s q new c d a b g h r → Tells w f shown s q new c d a b g h t
tells_as {w = w} {f = f} {shown = shown} {s = s} {q = q} {new = new} {c = c} {d = d} {a = a} {b = b} {g = g} {h = h} is tells = subst (λ t. Tells w f shown s q new c d a b g h t) (sym is) tells

-- nothing was passed yet
unfoldable pub paid_nothing : {s : Stated} {q : Remaining} {c : Counts} → Pays s q q c c
paid_nothing = record {
  steps = [];
  joined = refl;
  nodes = omega arith;
  designs = omega arith;
  few = omega arith;
  problem = refl;
  system = refl;
  rules = refl;
}

pub tells_nothing : {K : Type 0} {w : K → Option (List ℕ)} {f : K → ℕ} {shown : Shown} {s : Stated} {q : Remaining} {c : Counts} {a : K} {g : List ℕ} → Tells w f shown s q q c c a a g g (Ok tt)
unfolding paid_nothing
tells_nothing = record { pays = paid_nothing; gathers = gathers_nothing }

-- steps, and then steps
unfoldable pub paid_then : {s : Stated} {q0 q1 q2 : Remaining} {c0 c1 c2 : Counts} → Pays s q0 q1 c0 c1 → Pays s q1 q2 c1 c2 → Pays s q0 q2 c0 c2
paid_then {s = s} first second =
    let y = orbit_system s in
    record {
      steps = first.steps ++ second.steps;
      joined = first.joined ∙ ap (λ l. first.steps ++ l) second.joined ∙ sym (append_assoc first.steps second.steps _);
      nodes = omega (arith, first.nodes, second.nodes, ap length (filter_map-append node_of first.steps second.steps), length-append (nodes_in first.steps) (nodes_in second.steps));
      designs = omega (arith, first.designs, second.designs, ap length (filter_map-append (solution_of y) first.steps second.steps), length-append (solutions_in y first.steps) (solutions_in y second.steps));
      few = omega (arith, first.few, second.few);
      problem = second.problem ∙ first.problem;
      system = second.system ∙ first.system;
      rules = second.rules ∙ first.rules;
    }

pub tells_then : {K : Type 0} {w : K → Option (List ℕ)} {f : K → ℕ} {shown : Shown} {s : Stated} {q0 q1 q2 : Remaining} {c0 c1 c2 : Counts} {a0 a1 a2 : K} {g0 g1 g2 : List ℕ} {r : Result (Unit {0}) WriteFault}
    → Tells w f shown s q0 q1 c0 c1 a0 a1 g0 g1 (Ok tt) → Tells w f shown s q1 q2 c1 c2 a1 a2 g1 g2 r → Tells w f shown s q0 q2 c0 c2 a0 a2 g0 g2 r
unfolding paid_then
tells_then {shown = shown} {s = s} first second = record {
  pays = paid_then first.pays second.pays;
  gathers = gathers_as (sym (flat_map-append (step_lines shown s) first.pays.steps second.pays.steps)) (gathers_then first.gathers second.gathers);
}

-- the first entry was passed
pub gives_tells : {K : Type 0} {w : K → Option (List ℕ)} {f : K → ℕ} {shown : Shown} {s : Stated} {q new : Remaining} {c d : Counts} {a b : K} {g h : List ℕ} {r : Result (Unit {0}) WriteFault} (e : Entry)
    → new.problem ≡ q.problem → Gives q.search c.left e new.search d.left
    → d.designs ≡ c.designs + length (solutions_in (orbit_system s) ((new.search.path, e) ∷ []))
    → Gathers w f a b g h (step_lines shown s (new.search.path, e)) r → Tells w f shown s q new c d a b g h r
gives_tells {shown = shown} {s = s} {new = new} e problem gives counted written = record {
  pays = record {
    steps = (new.search.path, e) ∷ [];
    joined = gives.first;
    nodes = gives.paid;
    designs = counted;
    few = omega (arith, gives.paid, counted, sols_few (orbit_system s) ((new.search.path, e) ∷ []));
    problem = problem;
    system = gives.passes.system;
    rules = gives.passes.rules;
  };
  gathers = gathers_as (sym (append-nil (step_lines shown s (new.search.path, e)))) written;
}

-- what is printed of an entry in a log, without a solution and with one
pub logged_line : (shown : Shown) (s : Stated) (p : List Bool) (e : Entry) → shown.log ≡ true → solution_of (orbit_system s) (p, e) ≡ None → entry_text e ++ 10 ∷ [] ≡ step_lines shown s (p, e)
logged_line shown s p e log none = rw (log, none) (sym (append-nil (entry_text e ++ 10 ∷ [])))

pub logged_solution : (shown : Shown) (s : Stated) (p : List Bool) (chosen : Option (List Bool)) → shown.log ≡ true → chosen ≡ solution_of (orbit_system s) (p, Settled)
    → (entry_text Settled ++ 10 ∷ []) ++ solution_lines shown s chosen ≡ step_lines shown s (p, Settled)
logged_solution shown s p chosen log is = rw (log, is) refl

pub chosen_is : (s : Stated) (q new : Remaining) (n left : ℕ) → IsOf s q → Finds q.search n new.search left → new.search.chosen ≡ solution_of (orbit_system s) (new.search.path, Settled)
chosen_is s q new n left is finds = finds.chosen ∙ ap Some (finds.solution_is ∙ ap (λ y. yes_vector (length y.columns) (decided new.search.path)) is.system)

-- all up to a design was passed
unfoldable pub finds_paid : {s : Stated} {q new : Remaining} {c d : Counts} → IsOf s q → new.problem ≡ q.problem → Finds q.search c.left new.search d.left → d.designs ≡ c.designs + 1 → Pays s q new c d
finds_paid {s = s} is problem finds counted =
    let passed = finds.passes.passed in
    let found : solutions_in (orbit_system s) passed ≡ finds.solution ∷ [] = ap (λ y. solutions_in y passed) (sym is.system) ∙ finds.passes.solutions in
    record {
      steps = passed;
      joined = finds.passes.joined;
      nodes = finds.passes.nodes;
      designs = omega (arith, counted, ap length found);
      few = omega (arith, counted, finds.passes.nodes, ap length found, sols_few (orbit_system s) passed);
      problem = problem;
      system = finds.passes.system;
      rules = finds.passes.rules;
    }

-- the same without a log
pub finds_tells : {K : Type 0} {w : K → Option (List ℕ)} {f : K → ℕ} {shown : Shown} {s : Stated} {q new : Remaining} {c d : Counts} {a b : K} {g h : List ℕ} {r : Result (Unit {0}) WriteFault}
    → IsOf s q → new.problem ≡ q.problem → shown.log ≡ false → Finds q.search c.left new.search d.left → d.designs ≡ c.designs + 1
    → Gathers w f a b g h (solution_lines shown s new.search.chosen) r → Tells w f shown s q new c d a b g h r
unfolding finds_paid
finds_tells {shown = shown} {s = s} {new = new} is problem silent finds counted written =
    let passed = finds.passes.passed in
    let found : solutions_in (orbit_system s) passed ≡ finds.solution ∷ [] = ap (λ y. solutions_in y passed) (sym is.system) ∙ finds.passes.solutions in
    record {
      pays = finds_paid is problem finds counted;
      gathers = gathers_as (ap (solution_lines shown s) finds.chosen ∙ sym (append-nil (design_lines shown s (design s finds.solution))) ∙ ap (λ l. flat_map (design_lines shown s) (map (design s) l)) (sym found) ∙ sym (silent_lines shown s passed silent)) written;
    }

-- a design costs a node
pub finds_pays : (q new : Searching) (n left : ℕ) → Finds q n new left → left < n
finds_pays q new n left finds = omega (arith, finds.passes.nodes, ap length finds.passes.solutions, sols_few q.system finds.passes.passed)

-- entries without a solution were passed
unfoldable pub passes_paid : {s : Stated} {q new : Remaining} {c d : Counts} → IsOf s q → new.problem ≡ q.problem → Passes q.search c.left new.search d.left [] → d.designs ≡ c.designs → Pays s q new c d
passes_paid {s = s} is problem passes counted =
    let found : solutions_in (orbit_system s) passes.passed ≡ [] = ap (λ y. solutions_in y passes.passed) (sym is.system) ∙ passes.solutions in
    record {
      steps = passes.passed;
      joined = passes.joined;
      nodes = passes.nodes;
      designs = omega (arith, counted, ap length found);
      few = omega (arith, counted, passes.nodes);
      problem = problem;
      system = passes.system;
      rules = passes.rules;
    }

-- the same without a log
pub passes_tells : {K : Type 0} {w : K → Option (List ℕ)} {f : K → ℕ} {shown : Shown} {s : Stated} {q new : Remaining} {c d : Counts} {a : K} {g : List ℕ}
    → IsOf s q → new.problem ≡ q.problem → shown.log ≡ false → Passes q.search c.left new.search d.left [] → d.designs ≡ c.designs → Tells w f shown s q new c d a a g g (Ok tt)
unfolding passes_paid
passes_tells {shown = shown} {s = s} is problem silent passes counted =
    let found : solutions_in (orbit_system s) passes.passed ≡ [] = ap (λ y. solutions_in y passes.passed) (sym is.system) ∙ passes.solutions in
    record {
      pays = passes_paid is problem passes counted;
      gathers = gathers_as (ap (λ l. flat_map (design_lines shown s) (map (design s) l)) (sym found) ∙ sym (silent_lines shown s passes.passed silent)) gathers_nothing;
    }

-- no entry was passed
pub stays_tells : {K : Type 0} {w : K → Option (List ℕ)} {f : K → ℕ} {shown : Shown} {s : Stated} {q new : Remaining} {c d : Counts} {a : K} {g : List ℕ}
    → new.problem ≡ q.problem → new.search.rest ≡ q.search.rest → Passes q.search c.left new.search d.left [] → d.designs ≡ c.designs → Tells w f shown s q new c d a a g g (Ok tt)
stays_tells problem same passes counted = record {
  pays = record {
    steps = [];
    joined = sym same;
    nodes = omega (arith, passes.nodes_remain, ap (λ l. length (nodes_in l)) same);
    designs = omega (arith, counted);
    few = omega (arith, counted, passes.nodes);
    problem = problem;
    system = passes.system;
    rules = passes.rules;
  };
  gathers = gathers_nothing;
}

-- the run of which steps were passed: these, and those of the run left
pub paid_run : {s : Stated} {q new : Remaining} {c d : Counts} → AreCounted q.search → (pays : Pays s q new c d) → run_left q.search c.left ≡ then_run (record { taken = pays.steps; stop = None }) (run_left new.search d.left)
paid_run {q = q} {new = new} {c = c} {d = d} counted pays = run_passed q.search new.search pays.steps c.left d.left counted pays.joined pays.nodes pays.system pays.rules

-- the text of the steps of a run, of which a text was stopped
pub stopped_text : {K : Type 0} {w : K → Option (List ℕ)} {f : K → ℕ} {shown : Shown} {s : Stated} {q new : Remaining} {c d : Counts} {a b : K} {g h i : List ℕ} {e : WriteFault} {r : Result (Unit {0}) WriteFault}
    → AreCounted q.search → Tells w f shown s q new c d a b g h (Err e) → IsErr r → Gathers w f a b g i (flat_map (step_lines shown s) (run_left q.search c.left).taken) r
stopped_text {shown = shown} {s = s} {new = new} {d = d} counted tells err =
    let steps = tells.pays.steps in
    let more = (run_left new.search d.left).taken in
    gathers_as (sym (flat_map-append (step_lines shown s) steps more) ∙ ap (λ run. flat_map (step_lines shown s) run.taken) (sym (paid_run counted tells.pays)))
    (gathers_stopped (flat_map (step_lines shown s) more) tells.gathers err)

-- where the run left is over, the run is the steps that were passed
pub over_run : {s : Stated} {q new : Remaining} {c d : Counts} {end : RunEnd} → AreCounted q.search → (pays : Pays s q new c d) → IsOver new.search d.left end → run_left q.search c.left ≡ record { taken = pays.steps; stop = stop_at end new.search }
over_run {new = new} {end = end} counted pays over =
    paid_run counted pays ∙ ap (then_run (record { taken = pays.steps; stop = None })) over.run
    ∙ ap (λ l. record { taken = l; stop = stop_at end new.search }) (append-nil pays.steps)

pub over_text : {K : Type 0} {w : K → Option (List ℕ)} {f : K → ℕ} {shown : Shown} {s : Stated} {q new : Remaining} {c d : Counts} {a b : K} {g h : List ℕ} {r : Result (Unit {0}) WriteFault} {end : RunEnd}
    → AreCounted q.search → Tells w f shown s q new c d a b g h r → IsOver new.search d.left end → Gathers w f a b g h (flat_map (step_lines shown s) (run_left q.search c.left).taken) r
over_text {shown = shown} {s = s} counted tells over = gathers_as (ap (λ run. flat_map (step_lines shown s) run.taken) (sym (over_run counted tells.pays over))) tells.gathers

pub over_ran : {s : Stated} {q new : Remaining} {c d : Counts} {end : RunEnd} (nodes : ℕ)
    → AreCounted q.search → Pays s q new c d → IsOver new.search d.left end → c.designs ≡ 0 → nodes + d.left ≡ c.left
    → IsRan s (run_left q.search c.left) new.search (record { end = end; designs = d.designs; nodes = nodes })
over_ran {s = s} {new = new} {d = d} {end = end} nodes counted pays over zero visited =
    let run = sym (over_run counted pays over) in
    record {
      designs = omega (arith, pays.designs, zero, ap (λ run. length (solutions_in (orbit_system s) run.taken)) run);
      nodes = omega (arith, pays.nodes, visited, ap (λ run. length (nodes_in run.taken)) run);
      stop = ap (λ run. run.stop) (over_run counted pays over);
      place = over.place;
    }

pub err_written : {A : Type 0} (r : Result A WriteFault) → IsErr r → IsErr (as_written r)
err_written (Ok x) err = absurd (let h = err in cc)
err_written (Err e) err = err
