use Rattle.std.proofs.Common.{◌∙◌, take, arith, ap, sym}
use Rattle.std.specs.Prelude.{not}
use Rattle.std.proofs.lemmas.Bool.{le-ltb}
use Rattle.df_search.proofs.HeldSteps.{held_length}
use Rattle.df_search.proofs.YesColumns.{held_settled}
use Rattle.df_search.proofs.LeapPaths.{alive, dead, leaf_no_branch}
use Rattle.df_search.proofs.held_path.HeldPath.is_branch.Goals as goal

pub returns-then-self : goal.returns-then-self
returns-then-self c =
    let i = c.self.invariant in
    let y = c.self.inside.rows in
    let q = take c.self.inside.length c.self.inside.values.items in
    rw (← c.self.view_is) (ap not (c.is_met.ensures ∙ held_settled y q i.at.trail) ∙ sym (alive y q i.at.trail c.self.inside.limit i.limit_is (omega (arith, held_length i, c.if-self.true))).branch)

pub returns-else-self : goal.returns-else-self
returns-else-self c =
    let i = c.self.invariant in
    let y = c.self.inside.rows in
    let q = take c.self.inside.length c.self.inside.values.items in
    rw (← c.self.view_is) (le-ltb c.self.inside.length c.self.inside.limit c.if-self.false ∙ sym (leaf_no_branch y.rules y.system q (dead y q i.at.trail c.self.inside.limit i.limit_is i.at.within (omega (arith, held_length i, c.if-self.false)))))
