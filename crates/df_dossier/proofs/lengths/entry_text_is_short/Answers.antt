use Rattle.std.proofs.Common.{◌≤◌, ◌*◌, ap, subst, arith, List, length}
use Rattle.std.specs.List.{flat_map}
use Rattle.df_walk.specs.declared.CutRow.{CutRow}
use Rattle.df_dossier.specs.Entries.{entry_text, row_tokens}
use Rattle.df_dossier.specs.Tokens.{after_spaces}
use Rattle.df_dossier.proofs.LinesShort.{cut_short}
use Rattle.df_dossier.proofs.lengths.entry_text_is_short.Goals as goal

pub returns-in-Cut : goal.returns-in-Cut
returns-in-Cut c =
    let rows = subst (λ (ws : List CutRow). length (flat_map (λ w. after_spaces (row_tokens w)) ws) ≤ 18 * length ws) c.as_slice.ensures.value c.rows_are_short.ensures in
    let few : length c.in-Cut.rows.items ≤ 16 = omega (arith, c.as_slice.ensures.fits, ap length c.as_slice.ensures.value) in
    omega (arith, ap (λ e. length (entry_text e)) c.in-Cut.is, cut_short c.in-Cut.rows.items rows few)
