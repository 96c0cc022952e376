use Rattle.std.proofs.Common.{◌≡◌, ℕ, Bool, ◌&&◌, filter, ap, sym, ◌∙◌, arith}
use Rattle.std.specs.List.{range_with_len}
use Rattle.df_lists.specs.NumberSets.{has_member, with_member}
use Rattle.df_group.specs.Elements.{order_of}
use Rattle.df_group.proofs.SubgroupLaws.{subgroup_closed}
use Rattle.df_family.specs.Translates.{fixes}
use Rattle.df_family.proofs.SetLaws.{picked, passed_over}
use Rattle.df_family.proofs.ShiftLaws.{filter_set}
use Rattle.df_family.proofs.translate.fixing.Goals as goal
use Rattle.df_family.proofs.translate.fixing.Goals.{then-is_fixing, else-is_fixing}

pub loop-g-preserved : goal.loop-g-preserved
loop-g-preserved c =
    let g = c.loop-g.g in
    let test : ℕ → Bool = λ g. has_member c.args.shifts.now g && fixes c.args.problem.now c.args.block.now g in
    elim c.if-is_fixing.branch [
      | then-is_fixing w ↦ w.fixing-is ∙ w.insert.ensures.list ∙ ap (with_member g) c.loop-g.invariant ∙ picked test g (sym c.is_fixing.ensures ∙ w.if-is_fixing.true)
      | else-is_fixing w ↦ w.fixing-is ∙ c.loop-g.invariant ∙ passed_over test g (sym c.is_fixing.ensures ∙ w.if-is_fixing.false)
    ]

pub returns : goal.returns
returns c =
    let s = c.args.problem.now in
    let shifts = c.args.shifts.now in
    let test : ℕ → Bool = λ g. has_member shifts g && fixes s c.args.block.now g in
    let end : c.loop-g.g ≡ order_of s.group = omega (arith, c.order-g-end.ensures.order) in
    c.loop-g.invariant ∙ ap (λ n. filter test (range_with_len 0 n)) end ∙ sym (filter_set (order_of s.group) shifts (fixes s c.args.block.now) (subgroup_closed s.group c.order-g-end.ensures.rules.shape shifts c.requires.subgroup).set)
