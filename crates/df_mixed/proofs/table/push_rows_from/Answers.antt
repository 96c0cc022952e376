use Rattle.std.proofs.Common.{◌∙◌, ◌+◌, ◌-◌, ◌++◌, ◌∷◌, ℕ, List, [], not, cond, sym, ap, ap₂, arith, append-nil}
use Rattle.std.specs.List.{list_all}
use Rattle.df_group.proofs.ElementLaws.{is_group}
use Rattle.df_group.proofs.SubgroupLaws.{subgroup_closed}
use Rattle.df_family.specs.Covers.{found_at}
use Rattle.df_family.proofs.BalanceLaws.{are_sets}
use Rattle.df_mixed.specs.declared.table.PairEntry.{PairEntry}
use Rattle.df_mixed.specs.PairOrbits.{in_order, is_earlier}
use Rattle.df_mixed.specs.MixedTables.{pair_entry}
use Rattle.df_mixed.specs.Origins.{shares}
use Rattle.df_mixed.proofs.OriginLaws.{representative_row, shares_found}
use Rattle.df_mixed.proofs.TableLaws.{row_more}
use Rattle.df_mixed.proofs.table.push_rows_from.Goals as goal
use Rattle.df_mixed.proofs.table.push_rows_from.Goals.{then-is_representative_pair+in_ok-push, else-is_representative_pair}

pub loop-number-preserved : goal.loop-number-preserved
loop-number-preserved c =
    let s = c.args.problem.now in
    let shifts = c.args.shifts.now in
    let p = c.args.p in
    let q = c.loop-number.number in
    let rules = c.origins-origins.ensures.rules in
    let group = is_group s.group rules.shape in
    let closed = subgroup_closed s.group rules.shape shifts c.requires.subgroup in
    let found = c.origins-origins.ensures.origins in
    let value = c.as_slice.ensures.value in
    let row = ap (λ (l : List (ℕ × ℕ)). list_all (λ (o : ℕ × ℕ). not (is_earlier (in_order o.0 o.1) (p, q))) l) (value ∙ found) ∙ representative_row s group shifts closed p q in
    let is = c.is_representative_pair.ensures ∙ row in
    let low = c.loop-number.auto.number in
    let high = c.loop-number-test.true in
    let points = c.points-points.ensures.points in
    row_more s shifts c.args.entries.now.items c.loop-number.entries.items c.if-is_representative_pair.entries.items p (p + 1) (q - (p + 1)) q (q + 1 - (p + 1)) (omega arith) (omega arith) c.loop-number.invariant
    (elim c.if-is_representative_pair.branch [
      | then-is_representative_pair+in_ok-push w ↦
          let yes = sym is ∙ w.if-is_representative_pair.true in
          let counted_found = w.shares_of.ensures ∙ ap₂ shares (w.as_slice-then-is_representative_pair.ensures.value ∙ found) c.requires.blocks ∙ shares_found s group shifts closed (are_sets s s.family rules.family) p q (omega arith) (omega arith) in
          let stated = w.from.ensures ∙ w.target.ensures in
          rw (w.entries-is) (w.in_ok-push.ensures.items
          ∙ ap (λ (e : PairEntry). c.loop-number.entries.items ++ e ∷ [])
          (ap (λ n. record { pair = (p, q); found = n; stated = w.from.result }) counted_found ∙ ap (λ n. record { pair = (p, q); found = found_at s shifts p q; stated = n }) stated)
          ∙ sym (ap (λ v. c.loop-number.entries.items ++ cond v (pair_entry s shifts (p, q) ∷ []) []) yes))
      | else-is_representative_pair w ↦
          let no = sym is ∙ w.if-is_representative_pair.false in
          rw (w.entries-is) (sym (ap (λ v. c.loop-number.entries.items ++ cond v (pair_entry s shifts (p, q) ∷ []) []) no ∙ append-nil c.loop-number.entries.items))
    ])
