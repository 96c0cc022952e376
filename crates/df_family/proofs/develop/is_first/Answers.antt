use Rattle.std.proofs.Common.{◌≡◌, ℕ, true, not, ap, sym, ◌∙◌, arith}
use Rattle.df_lists.specs.NumberSets.{has_member}
use Rattle.df_lists.proofs.LeastLaws.{any_from}
use Rattle.df_group.specs.Elements.{group_of, minus}
use Rattle.df_family.proofs.develop.is_first.Goals as goal

pub returns-then-has : goal.returns-then-has
returns-then-has c =
    let test = λ (h : ℕ). has_member c.args.fixing.now (minus (group_of c.args.problem.now.group) c.args.g h) in
    let h = c.loop-h.h in
    let passes : test h ≡ true = ap (has_member c.args.fixing.now) (sym c.difference.ensures.difference ∙ sym c.has.view_is) ∙ sym c.has-in-loop-h.ensures ∙ c.if-has.true in
    sym (ap not (any_from test c.args.g h (omega arith) passes))
