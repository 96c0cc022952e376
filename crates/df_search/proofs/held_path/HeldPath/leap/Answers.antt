use Rattle.std.proofs.Common.{◌≡◌, ◌<◌, ◌+◌, ◌-◌, ◌*◌, ◌≤◌, ap, sym, subst, arith, length, take, List, Bool, mul-le-mul_left}
use Rattle.df_walk.specs.Systems.{widest}
use Rattle.df_walk.proofs.ColumnWidths.{cells_within}
use Rattle.df_system.specs.PathRows.{IsBarred}
use Rattle.df_search.specs.HeldPaths.{Held}
use Rattle.df_search.specs.Leaps.{Leaps}
use Rattle.df_search.proofs.HeldSteps.{held_length, held_within, held_values, moves_nos}
use Rattle.df_search.proofs.LeapPaths.{branches_early, branch_open, leap_more, leaps_more}
use Rattle.df_search.proofs.held_path.HeldPath.leap.Goals as goal
use Rattle.df_search.proofs.held_path.HeldPath.leap.Goals.{else-loop-column-test, then-loop-column-test+else-run-gt0+then-fits}

pub last_stop-stop-requires : goal.last_stop-stop-requires
last_stop-stop-requires g c =
    let i = c.self.invariant in
    let branch = rw (← c.self.view_is) at c.requires in
    let early = branches_early c.self.inside.rows (take c.self.inside.length c.self.inside.values.items) i.at.trail c.self.inside.limit i.limit_is i.at.within branch in
    omega (arith, early, held_length i, held_within i, held_values i, c.lesser-end.ensures, c.len.ensures)

pub loop-column-init : goal.loop-column-init
loop-column-init g c =
    let i = c.self.invariant in
    let branch = rw (← c.self.view_is) at c.requires in
    let early = branches_early c.self.inside.rows (take c.self.inside.length c.self.inside.values.items) i.at.trail c.self.inside.limit i.limit_is i.at.within branch in
    record {
      from = omega arith;
      within = omega (arith, early, held_length i, held_within i, held_values i, c.lesser-end.ensures, c.len.ensures, c.last_stop-stop.ensures);
      leaps = λ k lt. absurd (omega arith);
      rises = omega arith;
      cost = omega arith;
    }

pub loop-column-preserved-then-run-gt0 : goal.loop-column-preserved-then-run-gt0
loop-column-preserved-then-run-gt0 g c =
    let i = c.self.invariant in
    let l = c.loop-column.invariant in
    let y = c.self.inside.rows in
    let q = take c.self.inside.length c.self.inside.values.items in
    let long = held_length i in
    let branch = rw (← c.self.view_is) at c.requires in
    let unsettled = branch_open y.rules y.system q branch in
    let leaps = rw (← c.self.view_is) at l.leaps in
    let n = c.loop-column.column - c.self.inside.length in
    let m = c.lesser-column.result in
    let ends : c.last_stop-stop.result ≤ c.self.inside.limit = omega (arith, c.last_stop-stop.ensures, c.lesser-end.ensures) in
    let more = leaps_more y q i.at.trail c.self.inside.limit i.limit_is n m unsettled (omega (arith, l.from, l.within, c.lesser-column.ensures)) (λ k lt. subst (λ j. IsBarred y j) (let e : c.loop-column.column + k ≡ length q + n + k = omega (arith, l.from) in e) (c.run-run.ensures.barred k (omega (arith, c.lesser-column.ensures)))) leaps in
    let spent : widest c.args.self.now.system.columns * n ≤ widest c.args.self.now.system.columns * (c.loop-column.column + m - c.self.inside.length) = mul-le-mul_left (widest c.args.self.now.system.columns) (let e : n ≤ c.loop-column.column + m - c.self.inside.length = omega arith in e) in
    record {
      from = omega (arith, l.from);
      within = omega (arith, l.within, c.lesser-column.ensures);
      leaps = rw (← c.self.view_is) (subst (λ j. Leaps y.rules y.system q j) (let e : n + m ≡ c.loop-column.column + m - c.self.inside.length = omega (arith, l.from) in e) more);
      rises = l.rises;
      cost = omega (arith, l.cost, spent);
    }

pub loop-column-preserved : goal.loop-column-preserved
loop-column-preserved g c =
    let i = c.self.invariant in
    let l = c.loop-column.invariant in
    let y = c.self.inside.rows in
    let q = take c.self.inside.length c.self.inside.values.items in
    let long = held_length i in
    let branch = rw (← c.self.view_is) at c.requires in
    let unsettled = branch_open y.rules y.system q branch in
    let leaps = rw (← c.self.view_is) at l.leaps in
    let n = c.loop-column.column - c.self.inside.length in
    let same = ap (λ v. widest v.system.columns) c.self.view_is in
    let w = widest c.args.self.now.system.columns in
    let one : c.loop-column.column + 1 - c.self.inside.length ≡ n + 1 = omega (arith, l.from) in
    let below : c.loop-column.column < c.last_stop-stop.result = c.loop-column-test.true in
    let more = leap_more y q i.at.trail c.self.inside.limit i.limit_is n unsettled (omega (arith, l.from, c.last_stop-stop.ensures, c.lesser-end.ensures)) (subst (λ j. IsBarred y j) (let e : c.loop-column.column ≡ length q + n = omega (arith, l.from) in e) (c.fits.ensures.no c.if-fits.false)) leaps in
    record {
      from = omega (arith, l.from);
      within = omega arith;
      leaps = rw (← c.self.view_is) (subst (λ j. Leaps y.rules y.system q j) (sym one) more);
      rises = omega (arith, l.rises, c.fits.ensures.rises);
      cost = omega (arith, same, ap (λ k. w * k) one, l.cost, c.fits.ensures.cost, cells_within y.system c.loop-column.column);
    }

pub invariant_of-self : goal.invariant_of-self
invariant_of-self g c =
    let l = c.loop-column.invariant in
    let i = c.self.invariant in
    (moves_nos (c.loop-column.column - c.self.inside.length) c.loop-column.column i (omega (arith, l.from)) (omega (arith, l.within, c.last_stop-stop.ensures, c.lesser-end.ensures, c.len.ensures, held_values i))).held

pub returns-clause-value : goal.returns-clause-value
returns-clause-value g c =
    let l = c.loop-column.invariant in
    let i = c.self.invariant in
    let m = moves_nos (c.loop-column.column - c.self.inside.length) c.loop-column.column i (omega (arith, l.from)) (omega (arith, l.within, c.last_stop-stop.ensures, c.lesser-end.ensures, c.len.ensures, held_values i)) in
    let f : List Bool → Held = λ p. record { system = c.self.inside.rows.system; rules = c.self.inside.rows.rules; path = p } in
    rw (← c.self.view_is) (ap f m.front)

pub returns-clause-cost : goal.returns-clause-cost
returns-clause-cost g c =
    let l = c.loop-column.invariant in
    let same = ap (λ v. widest v.system.columns) c.self.view_is in
    elim c.loop-column-test.branch [
      | else-loop-column-test w ↦ omega (arith, l.cost, w.steps-is)
      | then-loop-column-test+else-run-gt0+then-fits w ↦ omega (arith, same, l.cost, w.steps-is, w.fits.ensures.cost, cells_within c.self.inside.rows.system c.loop-column.column)
    ]
