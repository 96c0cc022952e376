use Rattle.std.proofs.Common.{◌≡◌, ◌∙◌, sym, ap, arith, length, true}
use Rattle.std.proofs.lemmas.List.{length-map}
use Rattle.df_walk.specs.Systems.{System}
use Rattle.df_lang.specs.Problems.{Stated}
use Rattle.df_subsets.specs.Subsets.{same_list}
use Rattle.df_kramer_mesner.specs.OrbitSystems.{column_at, columns_of, cells_of, orbit_system}
use Rattle.df_check.specs.Leaves.{stands_at}
use Rattle.df_check.proofs.LeafLists.{agree_first, agree_past, agree_on, differ_at, differ_last, agree_last, stands_within}
use Rattle.df_check.proofs.design_checker.design_difference.Goals as goal
use Rattle.df_check.proofs.design_checker.design_difference.Goals.{then-is_yes+else-not-stands_at, else-is_yes}

many : (s : Stated) (system : System) → system ≡ orbit_system s → length system.columns ≡ length (columns_of s)
many s system is = ap (λ (t : System). length t.columns) is ∙ length-map (columns_of s) (cells_of s)

pub loop-column-init : goal.loop-column-init
loop-column-init c = record { within = omega arith; few = omega arith; agree = agree_first same_list (column_at c.args.matrix.now) c.args.blocks.now c.args.partial.now.decisions }

pub returns-then-not-stands_at : goal.returns-then-not-stands_at
returns-then-not-stands_at c =
    sym (differ_at same_list (column_at c.args.matrix.now) c.args.blocks.now c.args.partial.now.decisions c.loop-column.place c.loop-column.column c.decided.result c.decided.ensures.value (sym c.is_yes.ensures ∙ c.if-is_yes.true) (sym c.stands_at.ensures ∙ c.if-not-stands_at.true) c.loop-column.invariant.agree)

pub loop-column-preserved : goal.loop-column-preserved
loop-column-preserved c =
    let i = c.loop-column.invariant in
    elim c.if-is_yes.branch [
      | then-is_yes+else-not-stands_at w ↦
          let stands : stands_at same_list c.args.blocks.now c.loop-column.place (column_at c.args.matrix.now c.loop-column.column) ≡ true = sym w.stands_at.ensures ∙ w.if-not-stands_at.false in
          let within = stands_within same_list c.args.blocks.now c.loop-column.place (column_at c.args.matrix.now c.loop-column.column) stands in
          rw w.place-is (record {
            within = omega (arith, within);
            few = omega (arith, i.few);
            agree = agree_on same_list (column_at c.args.matrix.now) c.args.blocks.now c.args.partial.now.decisions c.loop-column.place c.loop-column.column c.decided.result c.decided.ensures.value (sym c.is_yes.ensures ∙ w.if-is_yes.true) stands i.agree;
          })
      | else-is_yes w ↦
          rw w.place-is (record {
            within = i.within;
            few = omega (arith, i.few);
            agree = agree_past same_list (column_at c.args.matrix.now) c.args.blocks.now c.args.partial.now.decisions c.loop-column.place c.loop-column.column c.decided.result c.decided.ensures.value (sym c.is_yes.ensures ∙ w.if-is_yes.false) i.agree;
          })
    ]

pub returns-then-place-blocks : goal.returns-then-place-blocks
returns-then-place-blocks c =
    sym (differ_last same_list (column_at c.args.matrix.now) c.args.blocks.now c.args.partial.now.decisions c.loop-column.place c.loop-column.column (omega (arith, c.requires.long, many c.args.matrix.now c.system.result.now c.system.ensures)) c.if-place-blocks.true c.loop-column.invariant.agree)

pub returns-else-place-blocks : goal.returns-else-place-blocks
returns-else-place-blocks c =
    sym (agree_last same_list (column_at c.args.matrix.now) c.args.blocks.now c.args.partial.now.decisions c.loop-column.place c.loop-column.column (omega (arith, c.requires.long, many c.args.matrix.now c.system.result.now c.system.ensures)) c.if-place-blocks.false c.loop-column.invariant.agree)
