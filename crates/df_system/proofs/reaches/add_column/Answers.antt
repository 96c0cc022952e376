use Rattle.std.proofs.Common.{◌≡◌, ◌<◌, ◌+◌, ◌++◌, [], ◌∷◌, List, get_or, length, refl, ap, ◌∙◌, arith}
use Rattle.std.proofs.lemmas.List.{get_or_read, take_all}
use Rattle.df_system.specs.declared.reaches.Reach.{Reach}
use Rattle.df_system.specs.Reaches.{as_word, reached, list_at}
use Rattle.df_system.proofs.SortedCells.{blank}
use Rattle.df_system.proofs.ReachLists.{column_begin, column_more, column_end}
use Rattle.df_system.proofs.reaches.add_column.Goals as goal

pub loop-cell-init : goal.loop-cell-init
loop-cell-init c = column_begin c.args.column c.requires.reaching

pub loop-cell-preserved : goal.loop-cell-preserved
loop-cell-preserved c =
    let all = c.column-cell-items.result.now in
    let k = c.loop-cell.cell-index in
    let cell = get_or all k blank in
    let lists = c.loop-cell.reaches.items in
    let sorted = c.column-cell-items.ensures.sorted in
    let within : cell.row < length lists = omega (arith, sorted.in_range k blank c.loop-cell-test.true, c.loop-cell.invariant.long) in
    let read : c.index_mut.result.now ≡ list_at lists cell.row = get_or_read lists cell.row c.index_mut.result.now within c.index_mut.ensures.value [] in
    column_more c.args.column all k _ c.add.new.self c.requires.column c.column-cell-items.ensures.value sorted c.loop-cell-test.true (c.in_ok-add.ensures ∙ ap (λ (l : List Reach). l ++ record { due = c.args.column + 1; most = as_word (reached l + cell.value) } ∷ []) read) refl c.loop-cell.invariant

pub returns : goal.returns
returns c =
    let all = c.column-cell-items.result.now in
    column_end c.args.column all c.requires.column c.column-cell-items.ensures.value (rw (take_all c.loop-cell.cell-index all (omega (arith, c.loop-cell-test.false))) at c.loop-cell.invariant)
