use Rattle.std.proofs.Common.{◌+◌, ◌&&◌, Bool, get_or, drop, sym, ap, ◌∙◌, arith, nat_le}
use Rattle.std.specs.List.{list_all}
use Rattle.std.proofs.lemmas.Bool.{le-leb, lt-leb}
use Rattle.std.proofs.lemmas.List.{drop_all, drop_more}
use Rattle.df_walk.specs.declared.Cell.{Cell}
use Rattle.df_matrix.proofs.cells.fit.Goals as goal

pub returns-then-cell-targets : goal.returns-then-cell-targets
returns-then-cell-targets c =
    let blank : Cell = record { row = 0; value = 0 } in
    let test : Cell → Bool = λ cell. nat_le cell.value (get_or c.args.targets.now cell.row 0) in
    let cells = c.args.cells.now in
    let k = c.loop-cell.cell-index in
    let cell = get_or cells k blank in
    sym (ap (λ b. b && list_all test (drop (k + 1) cells)) (lt-leb cell.value (get_or c.args.targets.now cell.row 0) c.if-cell-targets.true)) ∙ sym (ap (list_all test) (drop_more cells k blank c.loop-cell-test.true)) ∙ c.loop-cell.invariant

pub loop-cell-preserved : goal.loop-cell-preserved
loop-cell-preserved c =
    let blank : Cell = record { row = 0; value = 0 } in
    let test : Cell → Bool = λ cell. nat_le cell.value (get_or c.args.targets.now cell.row 0) in
    let cells = c.args.cells.now in
    let k = c.loop-cell.cell-index in
    let cell = get_or cells k blank in
    sym (ap (λ b. b && list_all test (drop (k + 1) cells)) (le-leb cell.value (get_or c.args.targets.now cell.row 0) c.if-cell-targets.false)) ∙ sym (ap (list_all test) (drop_more cells k blank c.loop-cell-test.true)) ∙ c.loop-cell.invariant

pub returns : goal.returns
returns c =
    let test : Cell → Bool = λ cell. nat_le cell.value (get_or c.args.targets.now cell.row 0) in
    sym (ap (list_all test) (drop_all c.loop-cell.cell-index c.args.cells.now (omega (arith, c.loop-cell-test.false)))) ∙ c.loop-cell.invariant
