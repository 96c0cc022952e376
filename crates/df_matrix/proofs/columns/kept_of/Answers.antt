use Rattle.std.proofs.Common.{sym, ◌∙◌}
use Rattle.df_kramer_mesner.specs.OrbitSystems.{is_kept, orbit_at}
use Rattle.df_matrix.proofs.PlaceLists.{numbers_more, numbers_same}
use Rattle.df_matrix.proofs.columns.kept_of.Goals as goal

pub loop-orbit-preserved-then-not-keeps : goal.loop-orbit-preserved-then-not-keeps
loop-orbit-preserved-then-not-keeps c = numbers_same (λ k. is_kept c.args.orbits.now (orbit_at c.args.orbits.now k)) c.loop-orbit.orbit c.loop-orbit.kept.items c.loop-orbit.invariant (sym c.if-not-keeps.ensures)

pub loop-orbit-preserved : goal.loop-orbit-preserved
loop-orbit-preserved c = c.in_ok-push.ensures.items ∙ numbers_more (λ k. is_kept c.args.orbits.now (orbit_at c.args.orbits.now k)) c.loop-orbit.orbit c.loop-orbit.kept.items c.loop-orbit.invariant (sym c.if-not-keeps.ensures)
