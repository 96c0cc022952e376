use Rattle.std.proofs.Common.{◌++◌, ◌<◌, Some, [], length, map, drop, get_or, ◌+◌, false, refl, ap, sym, ◌∙◌, arith, append_assoc, append-nil}
use Rattle.std.proofs.lemmas.List.{drop_all}
use Rattle.df_io.proofs.Writing.{writes_nothing, writes_as, writes_then, writes_stopped_then}
use Rattle.df_walk.specs.Solutions.{yes_columns_from}
use Rattle.df_tell.specs.RunSteps.{columns_text, column_text}
use Rattle.df_tell.proofs.RunTexts.{columns_step}
use Rattle.df_tell.proofs.run.write_columns.Goals as goal

pub loop-column-init : goal.loop-column-init
loop-column-init g c = record { written = ([], refl, writes_nothing) }

pub loop-column-preserved : goal.loop-column-preserved
loop-column-preserved g c =
    let p = c.args.decisions.now in
    let n = c.loop-column.column in
    let written = c.loop-column.invariant.written in
    let within : n < length p = omega arith in
    let piece = column_text (get_or p n false) n in
    record {
      written = (
        written.0 ++ piece,
        append_assoc written.0 piece _ ∙ ap (λ l. written.0 ++ l) (sym (columns_step p n within)) ∙ written.1,
        writes_then written.2 c.in_ok-write_column.ensures,
      );
    }

pub returns-in_err-write_column : goal.returns-in_err-write_column
returns-in_err-write_column g c =
    let p = c.args.decisions.now in
    let n = c.loop-column.column in
    let written = c.loop-column.invariant.written in
    let within : n < length p = omega arith in
    writes_as (ap (λ l. written.0 ++ l) (sym (columns_step p n within)) ∙ written.1)
    (writes_stopped_then (columns_text (yes_columns_from (n + 1) (map Some (drop (n + 1) p)))) written.2 c.in_err-write_column.ensures c.from_residual.ensures.0)

pub returns : goal.returns
returns g c =
    let p = c.args.decisions.now in
    let n = c.loop-column.column in
    let written = c.loop-column.invariant.written in
    writes_as (sym (append-nil written.0) ∙ ap (λ l. written.0 ++ columns_text (yes_columns_from n (map Some l))) (sym (drop_all n p (omega arith))) ∙ written.1) written.2
