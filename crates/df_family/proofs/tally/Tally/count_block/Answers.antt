use Rattle.std.proofs.Common.{◌≡◌, ◌+◌, ◌==◌, ℕ, List, length, get_or, cond, sum_by, count_by, ap, ◌∙◌, arith, ◌^◌}
use Rattle.df_lists.specs.NumberSets.{has_member}
use Rattle.df_group.specs.Elements.{order_of, group_of, minus}
use Rattle.df_family.specs.declared.table.Row.TheVariants.{Diff}
use Rattle.df_family.specs.declared.tally.Tally.{Tally}
use Rattle.df_family.specs.Tables.{finite_points}
use Rattle.df_family.proofs.TallyLaws.{within_singles, within_pairs, counted, occurs_small}
use Rattle.df_family.proofs.tally.Tally.count_block.Goals as goal

pub count_differences-requires-clause-room : goal.count_differences-requires-clause-room
count_differences-requires-clause-room c = λ d h. c.requires.room (Diff d) h

pub count_singles-requires-clause-room : goal.count_singles-requires-clause-room
count_singles-requires-clause-room c = within_singles c.args.problem.now c.args.self.now (2 ^ 40) c.requires.room

pub count_pairs-requires-clause-room : goal.count_pairs-requires-clause-room
count_pairs-requires-clause-room c = within_pairs c.args.problem.now c.args.self.now (2 ^ 40) c.requires.room

pub returns-clause-exact : goal.returns-clause-exact
returns-clause-exact c =
    let s = c.args.problem.now in
    let block = c.args.block.now in
    let new : Tally = record { differences = c.count_differences.new.cells; singles = c.count_singles.new.cells; pairs = c.count_pairs.new.cells } in
    let is = c.as_slice.ensures.value ∙ c.finite_points-finite.ensures.list in
    let many : c.len.result ≡ length (finite_points s block) = c.len.ensures.value ∙ ap length c.finite_points-finite.ensures.list in
    counted s block c.args.self.now new
    (λ d h. c.count_differences.ensures d h ∙ ap (λ (l : List ℕ). get_or c.args.self.now.differences d 0 + sum_by (λ b. count_by (λ a. minus (group_of s.group) a b == d) l) l) is)
    (λ i h. c.count_singles.ensures i h ∙ ap (λ n. get_or c.args.self.now.singles i 0 + cond (has_member block (order_of s.group + i)) n 0) many)
    c.count_pairs.ensures

pub returns-clause-few : goal.returns-clause-few
returns-clause-few c =
    occurs_small c.args.problem.now c.args.block.now (omega (arith, c.finite_points-finite.ensures.few, ap length c.finite_points-finite.ensures.list)) c.requires.rules.shape.small
