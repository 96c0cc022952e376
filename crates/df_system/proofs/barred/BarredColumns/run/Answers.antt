use Rattle.std.proofs.Common.{◌∙◌, ◌<◌, ◌+◌, ◌*◌, ◌/◌, arith, length, take}
use Rattle.std.specs.Prelude.{reverse}
use Rattle.std.proofs.lemmas.Grind.{get_or_default_zero}
use Rattle.df_system.specs.BarredWords.{levels_of}
use Rattle.df_system.proofs.BarredSets.{level_last, run_barred, run_end, run_inside, wide, word_low, place_inside}
use Rattle.df_system.proofs.barred.BarredColumns.run.Goals as goal

pub returns-clause-barred : goal.returns-clause-barred
returns-clause-barred c =
    let b = c.self.inside in
    let i = c.self.invariant in
    let levels = levels_of (reverse (take b.count b.trail.items)) in
    let within : c.args.column < length b.system.now.columns = rw (← c.self.view_is) at c.requires in
    let low : c.args.column < b.words * 64 = omega (arith, within, wide (length b.system.now.columns) b.words i.words_are) in
    let place = b.top * b.words + c.args.column / 64 in
    let inside : place < length b.barred.items = omega (arith, i.long, place_inside b.top b.kept b.words (c.args.column / 64) c.if-self.false (word_low c.args.column b.words low)) in
    let read = c.index.ensures ∙ get_or_default_zero b.barred.items place c.index.result.now inside in
    rw (← c.self.view_is) (run_barred b.system.now b.words b.barred.items (b.top * b.words) levels c.args.column c.ones_from.result c.index.result.now (level_last b.system.now b.words b.kept b.top b.barred.items levels i.trail_is.depth c.if-self.false i.levels_are) low read c.ones_from.ensures.within c.ones_from.ensures.ones)

pub returns-clause-inside : goal.returns-clause-inside
returns-clause-inside c = run_inside c.args.self.now.system c.args.self.now.levels c.args.column c.ones_from.result c.requires (returns-clause-barred c)

pub returns-clause-end : goal.returns-clause-end
returns-clause-end c =
    let b = c.self.inside in
    let i = c.self.invariant in
    let levels = levels_of (reverse (take b.count b.trail.items)) in
    let within : c.args.column < length b.system.now.columns = rw (← c.self.view_is) at c.requires in
    let low : c.args.column < b.words * 64 = omega (arith, within, wide (length b.system.now.columns) b.words i.words_are) in
    let place = b.top * b.words + c.args.column / 64 in
    let inside : place < length b.barred.items = omega (arith, i.long, place_inside b.top b.kept b.words (c.args.column / 64) c.if-self.false (word_low c.args.column b.words low)) in
    let read = c.index.ensures ∙ get_or_default_zero b.barred.items place c.index.result.now inside in
    rw (← c.self.view_is) (λ _ less. run_end b.system.now b.words b.barred.items (b.top * b.words) levels c.args.column c.ones_from.result c.index.result.now (level_last b.system.now b.words b.kept b.top b.barred.items levels i.trail_is.depth c.if-self.false i.levels_are) low read (c.ones_from.ensures.end less) less)

pub returns-clause-beyond : goal.returns-clause-beyond
returns-clause-beyond c =
    let i = c.self.invariant in
    rw (← c.self.view_is) (λ many. absurd (omega (arith, many, i.kept_is, i.trail_is.depth, i.trail_is.low, c.if-self.false)))
