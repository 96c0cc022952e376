use Rattle.std.proofs.Common.{◌+◌, ◌++◌, map, [], ◌∷◌, take, sym, subst, arith, append-nil}
use Rattle.std.proofs.lemmas.List.{get_or_read, take_all}
use Rattle.df_lang.specs.Problems.{point_count}
use Rattle.df_matrix.specs.MatrixParts.{AreRowsOf}
use Rattle.df_matrix.proofs.PairLists.{read_later}
use Rattle.df_matrix.proofs.RowLists.{rows_next}
use Rattle.df_matrix.proofs.rows.add_rows.Goals as goal

pub row_of-requires-clause-order : goal.row_of-requires-clause-order
row_of-requires-clause-order c = (read_later (point_count c.args.orbits.now) c.args.p c.loop-q.q-index c.q-item.result c.args.later.now c.requires.block c.loop-q-test.true c.q-item.is).0

pub row_of-requires-clause-points : goal.row_of-requires-clause-points
row_of-requires-clause-points c = (read_later (point_count c.args.orbits.now) c.args.p c.loop-q.q-index c.q-item.result c.args.later.now c.requires.block c.loop-q-test.true c.q-item.is).1

pub loop-q-init : goal.loop-q-init
loop-q-init c = record { long = omega arith; rows = λ done R. subst (λ l. AreRowsOf c.args.orbits.now l c.args.rows.now.items) (sym (append-nil done)) R }

pub loop-q-preserved : goal.loop-q-preserved
loop-q-preserved c = record {
  long = omega (arith, c.push.ensures.len, c.loop-q.invariant.long);
  rows = λ done R.
      let next = rows_next c.args.orbits.now done c.loop-q.rows.items c.args.later.now c.args.p c.loop-q.q-index c.q-item.result c.row_of.result c.loop-q-test.true
      (get_or_read c.args.later.now c.loop-q.q-index c.q-item.result c.loop-q-test.true c.q-item.is 0) (c.loop-q.invariant.rows done R) c.row_of.ensures.within c.row_of.ensures.orbit in
      subst (λ l. AreRowsOf c.args.orbits.now (done ++ map (λ q. c.args.p ∷ q ∷ []) (take (c.loop-q.q-index + 1) c.args.later.now)) l) (sym c.push.ensures.items) next;
}

pub returns : goal.returns
returns c = λ done R.
    subst (λ l. AreRowsOf c.args.orbits.now (done ++ map (λ q. c.args.p ∷ q ∷ []) l) c.loop-q.rows.items) (take_all c.loop-q.q-index c.args.later.now (omega (arith, c.loop-q-test.false))) (c.loop-q.invariant.rows done R)
