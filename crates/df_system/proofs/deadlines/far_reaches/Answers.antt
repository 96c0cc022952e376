use Rattle.std.proofs.Common.{◌≡◌, [], rules}
use Rattle.df_system.proofs.ReachLists.{far_none, far_all}
use Rattle.df_system.proofs.deadlines.far_reaches.Goals as goal

pub returns-then-most-width : goal.returns-then-most-width
returns-then-most-width c =
    let none : c.new.result.items ≡ [] = search rules in
    rw none (far_none c.args.system.now c.args.width c.args.most c.if-most-width.true c.requires)

pub returns-in_ok-lists : goal.returns-in_ok-lists
returns-in_ok-lists c = far_all c.args.system.now c.args.width _ c.in_ok-lists.ensures
