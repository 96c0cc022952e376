use Rattle.std.proofs.Common.{◌≡◌, ℕ, ◌+◌, ◌++◌, map, List, [], ◌∷◌, take}
use Rattle.arrayvec.specs.ArrayVec.{array_vec_len}
use Rattle.df_matrix.specs.MatrixParts.{AreRowsOf}
use Rattle.df_matrix.proofs.rows.add_rows.Given as goal

abbrev pub invariant-loop-q : goal.invariant-loop-q
invariant-loop-q l = record {
  long : array_vec_len l.rows ≡ array_vec_len l.initial.rows + l.q-index;
  rows : (done : List (List ℕ)) → AreRowsOf l.orbits done l.initial.rows.items → AreRowsOf l.orbits (done ++ map (λ q. l.p ∷ q ∷ []) (take l.q-index l.later)) l.rows.items;
}
