use Rattle.std.proofs.Common.{◌≡◌, ℕ, ◌+◌, ◌*◌, ◌≤◌, ◌∙◌, [], ◌∷◌, length, ap, arith}
use Rattle.df_walk.specs.declared.Rules.TheVariants.{Plain}
use Rattle.df_walk.specs.Systems.{System, widest}
use Rattle.df_walk.specs.Walks.{walk}
use Rattle.df_search.specs.declared.Event.{Event}
use Rattle.df_search.specs.Searches.{Searching, begun, Advances}
use Rattle.df_search.proofs.tests.step_bounds.count_six_calls.Goals as goal

abbrev two_columns : System
two_columns = record {
  targets = 1 ∷ 1 ∷ 1 ∷ [];
  columns = (record { row = 0; value = 1 } ∷ record { row = 1; value = 1 } ∷ record { row = 2; value = 1 } ∷ []) ∷ (record { row = 0; value = 1 } ∷ record { row = 1; value = 1 } ∷ record { row = 2; value = 1 } ∷ []) ∷ [];
}

-- one call
record Call (q : Searching) (b t : ℕ) (new : Searching) (after : ℕ) (next : ℕ) : Type 0 where
  event : Event
  entry : Advances q b event new after
  cost : next + widest q.system.columns * length new.path ≤ t + widest q.system.columns * (length q.path + 3)

six : (q0 q1 q2 q3 q4 q5 q6 : Searching) (b1 b2 b3 b4 b5 b6 t0 t1 t2 t3 t4 t5 t6 : ℕ) → q0 ≡ begun two_columns Plain [] (walk Plain two_columns []) → Call q0 9 t0 q1 b1 t1 → Call q1 b1 t1 q2 b2 t2 → Call q2 b2 t2 q3 b3 t3 → Call q3 b3 t3 q4 b4 t4 → Call q4 b4 t4 q5 b5 t5 → Call q5 b5 t5 q6 b6 t6 → t6 ≤ t0 + 9 + 6 + 9 + 6 + 9 + 15
six q0 q1 q2 q3 q4 q5 q6 b1 b2 b3 b4 b5 b6 t0 t1 t2 t3 t4 t5 t6 start c1 c2 c3 c4 c5 c6 =
    let d1 = rw start at c1 in
    let a1 = d1.entry in
    let d2 = rw (a1.1, a1.2) at c2 in
    let a2 = d2.entry in
    let d3 = rw (a2.1, a2.2) at c3 in
    let a3 = d3.entry in
    let d4 = rw (a3.1, a3.2) at c4 in
    let a4 = d4.entry in
    let d5 = rw (a4.1, a4.2) at c5 in
    let a5 = d5.entry in
    let d6 = rw (a5.1, a5.2) at c6 in
    let a6 = d6.entry in
    let k1 : t1 + 3 * 0 ≤ t0 + 3 * (0 + 3) = rw a1.1 at d1.cost in
    let k2 : t2 + 3 * 1 ≤ t1 + 3 * (0 + 3) = rw a2.1 at d2.cost in
    let k3 : t3 + 3 * 1 ≤ t2 + 3 * (1 + 3) = rw a3.1 at d3.cost in
    let k4 : t4 + 3 * 2 ≤ t3 + 3 * (1 + 3) = rw a4.1 at d4.cost in
    let k5 : t5 + 3 * 2 ≤ t4 + 3 * (2 + 3) = rw a5.1 at d5.cost in
    let k6 : t6 + 3 * 0 ≤ t5 + 3 * (2 + 3) = rw a6.1 at d6.cost in
    omega (arith, k1, k2, k3, k4, k5, k6)

pub returns : goal.returns
returns g c =
    six c.args.search.now c.advance-first.new.self c.advance-second.new.self c.advance-third.new.self c.advance-fourth.new.self c.advance-fifth.new.self c.advance-sixth.new.self c.advance-first.new.budget c.advance-second.new.budget c.advance-third.new.budget c.advance-fourth.new.budget c.advance-fifth.new.budget c.advance-sixth.new.budget c.args.steps.now c.advance-first.new.steps c.advance-second.new.steps c.advance-third.new.steps c.advance-fourth.new.steps c.advance-fifth.new.steps c.advance-sixth.new.steps (c.requires.begun ∙ ap (λ s. begun s Plain [] (walk Plain s [])) c.requires.system)
    (record { event = c.advance-first.result; entry = c.advance-first.ensures.entry; cost = c.advance-first.ensures.cost })
    (record { event = c.advance-second.result; entry = c.advance-second.ensures.entry; cost = c.advance-second.ensures.cost })
    (record { event = c.advance-third.result; entry = c.advance-third.ensures.entry; cost = c.advance-third.ensures.cost })
    (record { event = c.advance-fourth.result; entry = c.advance-fourth.ensures.entry; cost = c.advance-fourth.ensures.cost })
    (record { event = c.advance-fifth.result; entry = c.advance-fifth.ensures.entry; cost = c.advance-fifth.ensures.cost })
    (record { event = c.advance-sixth.result; entry = c.advance-sixth.ensures.entry; cost = c.advance-sixth.ensures.cost })
