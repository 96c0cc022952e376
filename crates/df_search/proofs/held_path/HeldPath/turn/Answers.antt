use Rattle.std.proofs.Common.{◌≡◌, ◌+◌, ◌*◌, ◌≤◌, ◌∷◌, ◌++◌, [], false, ap, arith, length, refl, length-append, mul-le-mul_left}
use Rattle.df_walk.specs.Systems.{widest}
use Rattle.df_walk.proofs.ColumnWidths.{cells_within}
use Rattle.df_search.proofs.HeldSteps.{held_length, moves_none, moves_turned}
use Rattle.df_search.proofs.held_path.HeldPath.turn.Goals as goal

pub invariant_of-self : goal.invariant_of-self
invariant_of-self g c =
    let none = c.in_default.ensures.none refl in
    rw (none.1) (moves_none c.self.invariant none.0).0.held

pub returns-in_default-clause-turned : goal.returns-in_default-clause-turned
returns-in_default-clause-turned g c =
    let none = c.in_default.ensures.none refl in
    rw (← c.self.view_is, (moves_none c.self.invariant none.0).1) (refl, refl)

pub invariant_of-self-2 : goal.invariant_of-self-2
invariant_of-self-2 g c = (moves_turned c.undo.new.self c.limit-self-inside.result c.in-Some.column c.self.invariant c.in-Some.ensures.value c.limit-self-inside.ensures).moves.held

pub returns-clause-turned : goal.returns-clause-turned
returns-clause-turned g c =
    let t = moves_turned c.undo.new.self c.limit-self-inside.result c.in-Some.column c.self.invariant c.in-Some.ensures.value c.limit-self-inside.ensures in
    rw (← c.self.view_is, t.turned_is) (refl, t.moves.front)

pub returns-clause-cost : goal.returns-clause-cost
returns-clause-cost g c =
    let t = moves_turned c.undo.new.self c.limit-self-inside.result c.in-Some.column c.self.invariant c.in-Some.ensures.value c.limit-self-inside.ensures in
    let same = ap (λ v. widest v.system.columns) c.self.view_is in
    let w = widest c.args.self.now.system.columns in
    let long : length (t.before ++ false ∷ []) ≡ c.in-Some.column + 1 = omega (arith, length-append t.before (false ∷ []), t.long) in
    let short : c.in-Some.column + 1 ≤ length c.args.self.now.path = omega (arith, t.shorter, held_length c.self.invariant, ap (λ v. length v.path) c.self.view_is) in
    let most : w * (c.in-Some.column + 1) ≤ w * length c.args.self.now.path = mul-le-mul_left w short in
    let spent : c.undo.new.steps ≤ c.args.steps.now + w = omega (arith, same, c.in-Some.ensures.cost, cells_within c.self.inside.rows.system c.in-Some.column) in
    rw (t.moves.front, long) (omega (arith, most, spent))
