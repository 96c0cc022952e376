use Rattle.std.proofs.Common.{◌≡◌, ◌∙◌, ◌<◌, ◌+◌, ◌*◌, ◌/◌, ◌%◌, ap, sym, subst, inl, inr, refl, arith, length, length-set, get_or}
use Rattle.std.proofs.lemmas.Bool.{cases_eq}
use Rattle.std.proofs.lemmas.Grind.{get_or_default_zero}
use Rattle.df_walk.specs.Systems.{entry, entry_of}
use Rattle.df_walk.proofs.EntryLaws.{entry_is}
use Rattle.df_system.specs.BarredWords.{HasColumn}
use Rattle.df_system.proofs.SortedCells.{blank}
use Rattle.df_system.proofs.BarredSets.{bit_has, bit_keeps, sets_more, cell_positive, cell_of, place_inside, word_low}
use Rattle.df_system.proofs.barred.set_column.Goals as goal

pub loop-cell-preserved : goal.loop-cell-preserved
loop-cell-preserved c =
    let i = c.loop-cell.invariant in
    let sets = c.loop-cell.sets.items in
    let cs = c.column-cell-items.result.now in
    let row = (get_or cs c.loop-cell.cell-index blank).row in
    let place = row * c.args.words + c.args.column / 64 in
    let low : c.args.column < c.args.words * 64 = omega (arith, c.requires.wide, c.requires.column) in
    let within = c.column-cell-items.ensures.sorted.in_range c.loop-cell.cell-index blank c.loop-cell-test.true in
    let inside : place < length sets = omega (arith, i.long, c.requires.long, place_inside row (length c.args.system.now.targets) c.args.words (c.args.column / 64) within (word_low c.args.column c.args.words low)) in
    let read : c.index.result.now ≡ get_or sets place 0 = c.index.ensures ∙ get_or_default_zero sets place c.index.result.now inside in
    let small : c.args.column % 64 < 64 = omega arith in
    record {
      long = length-set sets _ _ ∙ i.long;
      positive = sets_more c.args.system.now c.args.words sets row c.args.column place c.index.result.now i.positive refl low inside c.index.ensures (cell_positive c.args.system.now c.args.column cs c.loop-cell.cell-index c.column-cell-items.ensures.value c.column-cell-items.ensures.sorted c.loop-cell-test.true);
      kept = λ p b less on. bit_keeps sets place (c.args.column % 64) c.index.result.now inside small read p b (i.kept p b less on);
      done = λ k less. elim (cases_eq k c.loop-cell.cell-index) [
        | inl same ↦ rw same (bit_has sets place (c.args.column % 64) c.index.result.now inside small read)
        | inr other ↦ bit_keeps sets place (c.args.column % 64) c.index.result.now inside small read ((get_or cs k blank).row * c.args.words + c.args.column / 64) (c.args.column % 64) (i.done k (omega arith))
      ];
    }

pub returns-clause-set : goal.returns-clause-set
returns-clause-set c = λ row some.
    let s = c.args.system.now in
    let cs = c.column-cell-items.result.now in
    let e : entry s row c.args.column ≡ entry_of cs row = entry_is s row c.args.column ∙ ap (λ l. entry_of l row) (sym c.column-cell-items.ensures.value) in
    let k = cell_of cs row (omega (arith, some, e)) in
    subst (λ r. HasColumn c.loop-cell.sets.items (r * c.args.words) c.args.column) k.2 (c.loop-cell.invariant.done k.0 (omega (arith, k.1, c.loop-cell-test.false)))
