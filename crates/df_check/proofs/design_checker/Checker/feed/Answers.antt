use Rattle.std.proofs.Common.{◌≡◌, ap, subst}
use Rattle.df_walk.specs.Systems.{System}
use Rattle.df_lang.specs.Problems.{Stated}
use Rattle.df_kramer_mesner.specs.OrbitSystems.{orbit_system}
use Rattle.df_check.specs.Checkers.{Checking, fault_at, after_entry, answer_to, told, then_wants}
use Rattle.df_check.specs.DesignLines.{DesignChecking}
use Rattle.df_check.proofs.design_checker.Checker.feed.Goals as goal

pub returns-clause-answer : goal.returns-clause-answer
returns-clause-answer c =
    let e = c.args.entry in
    let inside = c.self.inside in
    let own = subst (λ (s : System). c.feed.result ≡ told (fault_at s inside.checker.wants e) (answer_to e)) c.self.invariant c.feed.ensures.answer in
    subst (λ (k : DesignChecking). c.feed.result ≡ told (fault_at (orbit_system k.problem) k.wants e) (answer_to e)) c.self.view_is own

abbrev as_designs : Stated → Checking → DesignChecking
as_designs s k = record { problem = s; wants = k.wants; designs = k.leaves }

pub returns-clause-value : goal.returns-clause-value
returns-clause-value c =
    let e = c.args.entry in
    let inside = c.self.inside in
    let new = as_designs inside.matrix.now c.feed.new.self in
    let own = subst (λ (s : System). new ≡ record { problem = inside.matrix.now; wants = then_wants (fault_at s inside.checker.wants e) (after_entry inside.checker.wants e); designs = inside.checker.leaves }) c.self.invariant (ap (as_designs inside.matrix.now) c.feed.ensures.value) in
    subst (λ (k : DesignChecking). new ≡ record k { wants = then_wants (fault_at (orbit_system k.problem) k.wants e) (after_entry k.wants e) }) c.self.view_is own
