use Rattle.std.proofs.Common.{take, arith}
use Rattle.df_search.proofs.HeldSteps.{held_length}
use Rattle.df_search.proofs.LeapPaths.{alive}
use Rattle.df_search.proofs.held_path.HeldPath.judge.Goals as goal

pub judge_live-requires : goal.judge_live-requires
judge_live-requires c =
    let i = c.self.invariant in
    let q = take c.self.inside.length c.self.inside.values.items in
    rw (← c.self.view_is) (alive c.self.inside.rows q i.at.trail c.self.inside.limit i.limit_is (omega (arith, held_length i, c.if-self.true))).no_leaf
