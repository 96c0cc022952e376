use Rattle.std.proofs.Common.{take, refl}
use Rattle.df_search.proofs.HeldSteps.{held_length}
use Rattle.df_search.proofs.JudgedPaths.{judged_over, judged_under, judged_residue, judged_none}
use Rattle.df_search.proofs.held_path.HeldPath.judge_rows.Goals as goal

pub returns-in-Some : goal.returns-in-Some
returns-in-Some c =
    let i = c.self.invariant in
    rw (← c.self.view_is) (judged_over c.self.inside.rows (take c.self.inside.length c.self.inside.values.items) i.at.trail c.self.inside.length (held_length i) c.in-Some.row c.in-Some.ensures)

pub returns-in-Some-least_short : goal.returns-in-Some-least_short
returns-in-Some-least_short c =
    let i = c.self.invariant in
    rw (← c.self.view_is) (judged_under c.self.inside.rows (take c.self.inside.length c.self.inside.values.items) i.at.trail c.self.inside.length (held_length i) c.in-Some-least_short.row c.in_default.ensures c.in-Some-least_short.ensures)

pub returns-in-Some-least_residue : goal.returns-in-Some-least_residue
returns-in-Some-least_residue c =
    let i = c.self.invariant in
    let found = c.in-Some-least_residue.ensures in
    rw (← c.self.view_is) (judged_residue c.self.inside.rows (take c.self.inside.length c.self.inside.values.items) i.at.trail c.self.inside.length (held_length i) c.in-Some-least_residue.row c.in-Some-least_residue.divisor c.in_default.ensures c.in_default-least_short.ensures found.row found.divisor)

pub judge_live-requires : goal.judge_live-requires
judge_live-requires c =
    let i = c.self.invariant in
    rw (← c.self.view_is) (judged_none c.self.inside.rows (take c.self.inside.length c.self.inside.values.items) i.at.trail c.self.inside.length (held_length i) c.in_default.ensures c.in_default-least_short.ensures (c.in_default-least_residue.ensures.none refl))
