use Rattle.std.proofs.Common.{◌+◌, [], ◌∷◌, length, length-append, ap, ◌∙◌, arith}
use Rattle.df_system.proofs.ReachLists.{reaching_start, list_none_more}
use Rattle.df_system.proofs.reaches.row_reaches.Goals as goal

pub loop-preserved : goal.loop-preserved
loop-preserved c =
    let i = c.loop.invariant in
    record {
      long = ap length c.in_ok-push.ensures.items ∙ length-append c.loop.reaches.items (c.new.result ∷ []) ∙ ap (λ n. n + 1) i.long;
      none = list_none_more c.loop.reaches.items c.push.new.self.items c.new.result c.in_ok-push.ensures.items c.new.ensures i.none;
    }

pub loop-column-init : goal.loop-column-init
loop-column-init c =
    let i = c.loop.invariant in
    record {
      reaching = reaching_start c.columns-column.result c.columns-column.ensures.value (omega (arith, i.long, c.loop-test.false, c.loop.auto.counter-end, c.rows-rows.ensures.value)) i.none;
      within = omega (arith, c.columns-column.ensures.value);
    }
