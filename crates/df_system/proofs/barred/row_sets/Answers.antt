use Rattle.std.proofs.Common.{◌≡◌, ◌∙◌, ◌+◌, ◌*◌, ◌/◌, ◌%◌, ap, sym, inl, inr, arith, length, get_or, rules}
use Rattle.std.specs.Prelude.{replicate}
use Rattle.std.specs.Int.{bit_at}
use Rattle.std.proofs.lemmas.Bool.{cases_eq}
use Rattle.std.proofs.lemmas.List.{length-replicate}
use Rattle.df_system.proofs.BarredSets.{none_set}
use Rattle.df_system.proofs.barred.row_sets.Goals as goal

pub loop-column-init : goal.loop-column-init
loop-column-init c =
    let n = c.rows.result * c.args.words in
    let items : c.in_ok-sets.sets.items ≡ replicate n 0 = search rules in
    record {
      long = ap length items ∙ length-replicate n 0 ∙ ap (λ r. r * c.args.words) c.rows.ensures.value;
      positive = λ row column within less on. absurd (none_set n (row * c.args.words + column / 64) (column % 64) (ap (λ l. bit_at (get_or l (row * c.args.words + column / 64) 0) (column % 64)) (sym items) ∙ on));
      done = λ row column less some. absurd (omega (arith, less));
    }

pub loop-column-preserved : goal.loop-column-preserved
loop-column-preserved c =
    let i = c.loop-column.invariant in
    record {
      long = c.set_column.ensures.long ∙ i.long;
      positive = c.set_column.ensures.positive;
      done = λ row column less some. elim (cases_eq column c.loop-column.column) [
        | inl same ↦ rw same (c.set_column.ensures.set row (rw same at some))
        | inr other ↦ c.set_column.ensures.kept (row * c.args.words + column / 64) (column % 64) (omega arith) (i.done row column (omega (arith, less, other)) some)
      ];
    }
