use Rattle.std.proofs.Common.{◌≡◌, ◌+◌, ◌-◌, ◌<◌, map, [], ◌∷◌, take, drop, length, sym, ap, subst, arith, ◌∙◌, length-append}
use Rattle.std.proofs.lemmas.List.{length-map}
use Rattle.df_lang.specs.Problems.{point_count}
use Rattle.df_lists.specs.NumberSets.{IsSet}
use Rattle.df_matrix.specs.MatrixParts.{AreRowsOf, pairs_before}
use Rattle.df_matrix.proofs.PairLists.{pairs_more, pairs_all, pairs_few, block_drop, from_point}
use Rattle.df_matrix.proofs.RowLists.{rows_none}
use Rattle.df_matrix.proofs.rows.listed_rows.Goals as goal

pub add_rows-requires-clause-block : goal.add_rows-requires-clause-block
add_rows-requires-clause-block c =
    let b = c.args.block.now in
    let within : c.loop-i.i < length b = omega (arith, c.loop-i-test.true, c.len-i-end.ensures.value, ap length c.points-points.ensures.list) in
    let e = from_point b c.deref.result.now c.as_slice.result.now c.loop-i.i c.index-deref-i.result within (c.deref.ensures.0 ∙ c.points-points.ensures.list) c.index-deref-i.is (c.as_slice.ensures.value ∙ c.points-points.ensures.list) in
    subst (IsSet (point_count c.args.orbits.now)) e (block_drop 0 (point_count c.args.orbits.now) c.loop-i.i b c.requires.block)

pub add_rows-requires-clause-room : goal.add_rows-requires-clause-room
add_rows-requires-clause-room c =
    let b = c.args.block.now in
    let within : c.loop-i.i < length b = omega (arith, c.loop-i-test.true, c.len-i-end.ensures.value, ap length c.points-points.ensures.list) in
    let later = take (length c.as_slice.result.now - (c.loop-i.i + 1)) (drop (c.loop-i.i + 1) c.as_slice.result.now) in
    let e = from_point b c.deref.result.now c.as_slice.result.now c.loop-i.i c.index-deref-i.result within (c.deref.ensures.0 ∙ c.points-points.ensures.list) c.index-deref-i.is (c.as_slice.ensures.value ∙ c.points-points.ensures.list) in
    let more = ap length (pairs_more c.loop-i.i c.index-deref-i.result b later e) in
    let f = length-append (pairs_before c.loop-i.i b) (map (λ q. c.index-deref-i.result ∷ q ∷ []) later) in
    let g = length-map later (λ q. c.index-deref-i.result ∷ q ∷ []) in
    omega (arith, more, f, g, pairs_few (c.loop-i.i + 1) b c.requires.size, c.loop-i.invariant.long)

pub loop-i-init : goal.loop-i-init
loop-i-init c = subst (AreRowsOf c.args.orbits.now []) (sym c.new-rows.ensures) (rows_none c.args.orbits.now)

pub loop-i-preserved : goal.loop-i-preserved
loop-i-preserved c =
    let b = c.args.block.now in
    let within : c.loop-i.i < length b = omega (arith, c.loop-i-test.true, c.len-i-end.ensures.value, ap length c.points-points.ensures.list) in
    let later = take (length c.as_slice.result.now - (c.loop-i.i + 1)) (drop (c.loop-i.i + 1) c.as_slice.result.now) in
    let e = from_point b c.deref.result.now c.as_slice.result.now c.loop-i.i c.index-deref-i.result within (c.deref.ensures.0 ∙ c.points-points.ensures.list) c.index-deref-i.is (c.as_slice.ensures.value ∙ c.points-points.ensures.list) in
    subst (λ l. AreRowsOf c.args.orbits.now l c.add_rows.new.rows.items) (sym (pairs_more c.loop-i.i c.index-deref-i.result b later e)) (c.add_rows.ensures (pairs_before c.loop-i.i b) c.loop-i.invariant)

pub returns : goal.returns
returns c =
    let b = c.args.block.now in
    let all : c.loop-i.i ≡ length b = omega (arith, c.loop-i-test.false, c.loop-i.auto.i-end, c.len-i-end.ensures.value, ap length c.points-points.ensures.list) in
    subst (λ l. AreRowsOf c.args.orbits.now l c.loop-i.rows.items) (ap (λ k. pairs_before k b) all ∙ pairs_all b) c.loop-i.invariant
