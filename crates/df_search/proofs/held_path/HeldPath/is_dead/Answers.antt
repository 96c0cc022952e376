use Rattle.std.proofs.Common.{take, arith}
use Rattle.std.proofs.lemmas.Bool.{leb-true, leb-false}
use Rattle.df_search.proofs.HeldSteps.{held_length}
use Rattle.df_search.proofs.LeapPaths.{leaf_is}
use Rattle.df_search.proofs.held_path.HeldPath.is_dead.Goals as goal

pub returns : goal.returns
returns c =
    let i = c.self.invariant in
    let limit = c.self.inside.limit in
    let count = c.self.inside.length in
    let long = held_length i in
    rw (← c.self.view_is) (leaf_is c.self.inside.rows (take count c.self.inside.values.items) i.at.trail limit i.limit_is i.at.within _ (λ h. omega (arith, long, leb-true limit count h)) (λ h. omega (arith, long, leb-false limit count h)))
