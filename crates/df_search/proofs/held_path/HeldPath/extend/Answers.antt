use Rattle.std.proofs.Common.{◌+◌, ap, arith, length, refl, List, Bool}
use Rattle.df_walk.specs.Systems.{widest}
use Rattle.df_walk.proofs.ColumnWidths.{cells_within}
use Rattle.df_search.specs.HeldPaths.{Held}
use Rattle.df_search.proofs.HeldSteps.{held_length, held_room, moves_yes, moves_nos}
use Rattle.df_search.proofs.held_path.HeldPath.extend.Goals as goal

pub take-requires-clause-room : goal.take-requires-clause-room
take-requires-clause-room g c =
    let lengths = ap (λ v. length v.path) c.self.view_is in
    let columns = ap (λ v. length v.system.columns) c.self.view_is in
    held_room c.self.invariant (omega (arith, c.requires, held_length c.self.invariant))

pub invariant_of-self : goal.invariant_of-self
invariant_of-self g c =
    let lengths = ap (λ v. length v.path) c.self.view_is in
    let columns = ap (λ v. length v.system.columns) c.self.view_is in
    (moves_yes c.take.new.self c.limit-self-inside.result c.self.invariant (omega (arith, c.requires, held_length c.self.invariant)) c.take.ensures.value c.limit-self-inside.ensures).held

pub invariant_of-self-else-yes : goal.invariant_of-self-else-yes
invariant_of-self-else-yes g c =
    let lengths = ap (λ v. length v.path) c.self.view_is in
    let columns = ap (λ v. length v.system.columns) c.self.view_is in
    (moves_nos 1 (c.self.inside.length + 1) c.self.invariant refl (omega (arith, c.requires, held_length c.self.invariant))).held

pub returns-then-yes-clause-cost : goal.returns-then-yes-clause-cost
returns-then-yes-clause-cost g c =
    let same = ap (λ v. widest v.system.columns) c.self.view_is in
    omega (arith, same, c.take.ensures.cost, cells_within c.self.inside.rows.system c.self.inside.length)

pub returns-else-yes-clause-value : goal.returns-else-yes-clause-value
returns-else-yes-clause-value g c =
    let lengths = ap (λ v. length v.path) c.self.view_is in
    let columns = ap (λ v. length v.system.columns) c.self.view_is in
    let m = moves_nos 1 (c.self.inside.length + 1) c.self.invariant refl (omega (arith, c.requires, held_length c.self.invariant)) in
    let f : List Bool → Held = λ p. record { system = c.self.inside.rows.system; rules = c.self.inside.rows.rules; path = p } in
    rw (← c.self.view_is, c.if-yes.false) (ap f m.front)
