use Rattle.std.proofs.Common.{ap, arith, ◌^◌}
use Rattle.df_lang.specs.Problems.{Stated}
use Rattle.df_family.specs.declared.table.Row.TheVariants.{Diff}
use Rattle.df_family.specs.declared.tally.Tally.{Tally}
use Rattle.df_family.proofs.TallyLaws.{within_singles, within_pairs, quotients_added}
use Rattle.df_family.proofs.tally.Tally.add_quotients.Goals as goal

pub add_cells-requires-clause-room : goal.add_cells-requires-clause-room
add_cells-requires-clause-room c = λ d h. c.requires.room (Diff d) (omega arith)

pub add_cells-requires-clause-own_room : goal.add_cells-requires-clause-own_room
add_cells-requires-clause-own_room c = λ d h. c.requires.own_room (Diff d) (omega arith)

pub add_cells-requires-2-clause-room : goal.add_cells-requires-2-clause-room
add_cells-requires-2-clause-room c = λ i h.
    let fixed = ap (λ (s : Stated). s.fixed) c.problem.view_is in
    within_singles c.args.problem.now c.args.self.now (2 ^ 40) c.requires.room i (omega arith)

pub add_cells-requires-2-clause-own_room : goal.add_cells-requires-2-clause-own_room
add_cells-requires-2-clause-own_room c = λ i h.
    let fixed = ap (λ (s : Stated). s.fixed) c.problem.view_is in
    within_singles c.args.problem.now c.args.own.now (2 ^ 40) c.requires.own_room i (omega arith)

pub add_cells-requires-3-clause-room : goal.add_cells-requires-3-clause-room
add_cells-requires-3-clause-room c = λ k h.
    let fixed = ap (λ (s : Stated). s.fixed) c.problem.view_is in
    within_pairs c.args.problem.now c.args.self.now (2 ^ 40) c.requires.room k (omega arith)

pub add_cells-requires-3-clause-own_room : goal.add_cells-requires-3-clause-own_room
add_cells-requires-3-clause-own_room c = λ k h.
    let fixed = ap (λ (s : Stated). s.fixed) c.problem.view_is in
    within_pairs c.args.problem.now c.args.own.now (2 ^ 40) c.requires.own_room k (omega arith)

pub returns : goal.returns
returns c =
    let fixed = ap (λ (s : Stated). s.fixed) c.problem.view_is in
    let new : Tally = record { differences = c.add_cells.new.cells; singles = c.add_cells-2.new.cells; pairs = c.add_cells-3.new.cells } in
    quotients_added c.args.problem.now c.args.divisor c.args.own.now c.args.self.now new
    (λ d h. c.add_cells.ensures d (omega arith)) (λ i h. c.add_cells-2.ensures i (omega arith)) (λ k h. c.add_cells-3.ensures k (omega arith))
