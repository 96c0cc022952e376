use Rattle.std.proofs.Common.{rules, ◌≡◌, ◌≤◌, true, ◌∷◌, [], ◌++◌, length, sym, ap, subst, ◌∙◌}
use mir.Syntax.{w16}
use mir.Val.{SFits}
use Rattle.std.proofs.lemmas.Int.{to_z-of_z}
use Rattle.df_io.specs.Lines.{left}
use Rattle.df_dossier.specs.Entries.{cut_from, may_follow}
use Rattle.df_dossier.proofs.CutRows.{cut_step, room}
use Rattle.df_dossier.proofs.entries.cut_rows.Goals as goal

pub loop-token-preserved : goal.loop-token-preserved
loop-token-preserved c =
    let ws = c.loop-token.rows.items in
    let tokens = c.in-Some.ensures ∙ ap (λ l. c.in-Some.token.now ∷ l) c.in_ok-next_token.ensures in
    let fits : SFits w16 c.in_ok-weight.weight = search rules in
    let pushed = c.push.ensures.items ∙ ap (λ z. ws ++ record { weight = z; row = c.in_ok-row.row } ∷ []) (to_z-of_z w16 c.in_ok-weight.weight fits) in
    let follows : may_follow ws c.in_ok-row.row ≡ true = sym (ap (λ l. may_follow l c.in_ok-row.row) c.deref.ensures.0) ∙ sym c.may_follow.ensures ∙ c.if-not-may_follow.false in
    let step = cut_step ws c.in-Some.token.now c.in_ok-next_token.field-0.now (left c.next_token-in-Some.new.self) c.in_ok-weight.weight c.in_ok-row.row (sym c.weight.ensures ∙ c.in_ok-weight.was) (sym c.place.ensures ∙ c.in_ok-row.was) follows in (
      ap (λ l. cut_from l (left c.next_token-in-Some.new.self)) pushed ∙ sym step ∙ ap (cut_from ws) (sym tokens) ∙ c.loop-token.invariant.0,
      subst (λ l. length l ≤ 16) (sym pushed) (room ws record { weight = c.in_ok-weight.weight; row = c.in_ok-row.row } c.in_ok-row.row follows),
    )
