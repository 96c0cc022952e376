use Rattle.std.proofs.Common.{sym, ◌∙◌, arith}
use Rattle.df_group.specs.Elements.{order_of}
use Rattle.df_family.specs.Remainders.{is_listed_shift}
use Rattle.df_family.proofs.RemainderLaws.{find_here, find_on}
use Rattle.df_family.proofs.develop.next_listed.Goals as goal

pub returns-then-is_listed_shift : goal.returns-then-is_listed_shift
returns-then-is_listed_shift c =
    let s = c.args.problem.now in
    let m = c.args.member.now in
    sym (c.loop-g.invariant ∙ find_here (is_listed_shift s c.args.shifts.now m.kind m.block) c.loop-g.g (order_of s.group) (omega arith) (sym c.is_listed_shift.ensures ∙ c.if-is_listed_shift.true))

pub loop-g-preserved : goal.loop-g-preserved
loop-g-preserved c =
    let s = c.args.problem.now in
    let m = c.args.member.now in
    c.loop-g.invariant ∙ find_on (is_listed_shift s c.args.shifts.now m.kind m.block) c.loop-g.g (order_of s.group) (omega arith) (sym c.is_listed_shift.ensures ∙ c.if-is_listed_shift.false)
