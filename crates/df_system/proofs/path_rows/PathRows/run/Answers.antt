use Rattle.std.proofs.Common.{◌+◌, arith, ap}
use Rattle.df_system.specs.BarredColumns.{kept_levels}
use Rattle.df_system.proofs.BarredRows.{closed_by_levels, levels_by_closed, closed_barred}
use Rattle.df_system.proofs.path_rows.PathRows.run.Goals as goal

pub returns-clause-exact : goal.returns-clause-exact
returns-clause-exact c =
    let p = c.self.inside in
    let i = c.self.invariant in
    let run = c.run.ensures in
    let kept = ap kept_levels i.barring_are.same in
    rw (← c.self.view_is) (record {
      closed = λ k h. closed_by_levels p.rules p.barred (c.args.column + k) i.barring_are (run.barred k h);
      word = run.word;
      end = λ few less is. run.end (omega (arith, few, kept, i.barring_are.depth)) less (levels_by_closed p.rules p.barred (c.args.column + c.run.result) i.barring_are is);
      beyond = λ many. run.beyond (omega (arith, many, kept, i.barring_are.depth));
    })

pub returns-clause-barred : goal.returns-clause-barred
returns-clause-barred c = λ k h. closed_barred c.args.self.now (c.args.column + k) ((returns-clause-exact c).closed k h)
