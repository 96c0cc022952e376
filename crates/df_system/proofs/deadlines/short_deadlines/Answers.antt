use Rattle.std.proofs.Common.{◌≡◌, arith, rules, refl}
use Rattle.std.specs.Prelude.{replicate}
use Rattle.df_system.proofs.DeadlineTables.{reached_start, reached_all}
use Rattle.df_system.proofs.deadlines.short_deadlines.Goals as goal

pub loop-column-init : goal.loop-column-init
loop-column-init c =
    let items : c.in_ok-counts.counts.items ≡ replicate c.rows-rows.result 1 = search rules in
    record { reached = rw items (reached_start c.rows-rows.ensures.value c.columns-column.ensures.value refl c.requires.some c.in_ok-deadlines.ensures); within = omega (arith, c.columns-column.ensures.value) }

pub returns : goal.returns
returns c = reached_all c.requires.some (omega (arith, c.loop-column-test.false)) c.loop-column.invariant.reached
