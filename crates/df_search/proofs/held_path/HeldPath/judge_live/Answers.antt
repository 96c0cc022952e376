use Rattle.std.proofs.Common.{take}
use Rattle.df_search.proofs.HeldSteps.{held_length}
use Rattle.df_search.proofs.JudgedPaths.{judged_settled, judged_branch}
use Rattle.df_search.proofs.held_path.HeldPath.judge_live.Goals as goal

pub returns-then-is_met : goal.returns-then-is_met
returns-then-is_met c =
    let i = c.self.invariant in
    let live = rw (← c.self.view_is) at c.requires in
    rw (← c.self.view_is) (judged_settled c.self.inside.rows (take c.self.inside.length c.self.inside.values.items) i.at.trail c.self.inside.length (held_length i) live c.if-is_met.ensures)

pub returns-else-is_met : goal.returns-else-is_met
returns-else-is_met c =
    let i = c.self.invariant in
    let live = rw (← c.self.view_is) at c.requires in
    rw (← c.self.view_is) (judged_branch c.self.inside.rows (take c.self.inside.length c.self.inside.values.items) i.at.trail c.self.inside.length (held_length i) live c.if-is_met.ensures)
