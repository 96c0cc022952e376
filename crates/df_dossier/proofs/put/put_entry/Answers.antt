use Rattle.std.proofs.Common.{◌≡◌, ◌++◌, ◌∙◌, ap, sym, length, codes, arith, append_assoc, length-append}
use Rattle.std.specs.List.{flat_map}
use Rattle.df_dossier.specs.Entries.{row_tokens, entry_text}
use Rattle.df_dossier.specs.Tokens.{after_spaces}
use Rattle.df_dossier.proofs.Joins.{cut_text}
use Rattle.df_dossier.proofs.put.put_entry.Goals as goal

pub put_rows-requires : goal.put_rows-requires
put_rows-requires c =
    let text : entry_text c.args.entry ≡ codes "cut" ++ flat_map (λ w. after_spaces (row_tokens w)) c.in-Cut.rows.items = ap entry_text c.in-Cut.is ∙ cut_text c.in-Cut.rows.items in
    let rows = ap (λ ws. length (flat_map (λ w. after_spaces (row_tokens w)) ws)) c.deref.ensures.0 in
    omega (arith, c.requires, ap length text, length-append (codes "cut") (flat_map (λ w. after_spaces (row_tokens w)) c.in-Cut.rows.items), rows, c.put_text.ensures.len)

pub returns-in-Cut-clause-text : goal.returns-in-Cut-clause-text
returns-in-Cut-clause-text c =
    let text : entry_text c.args.entry ≡ codes "cut" ++ flat_map (λ w. after_spaces (row_tokens w)) c.in-Cut.rows.items = ap entry_text c.in-Cut.is ∙ cut_text c.in-Cut.rows.items in
    c.put_rows.ensures.text
    ∙ ap (λ l. l ++ flat_map (λ w. after_spaces (row_tokens w)) c.deref.result.now) c.put_text.ensures.text
    ∙ append_assoc c.args.buf.now.items (codes "cut") (flat_map (λ w. after_spaces (row_tokens w)) c.deref.result.now)
    ∙ ap (λ ws. c.args.buf.now.items ++ (codes "cut" ++ flat_map (λ w. after_spaces (row_tokens w)) ws)) c.deref.ensures.0
    ∙ ap (λ l. c.args.buf.now.items ++ l) (sym text)

pub returns-in-Cut-clause-len : goal.returns-in-Cut-clause-len
returns-in-Cut-clause-len c = ap length (returns-in-Cut-clause-text c) ∙ length-append c.args.buf.now.items (entry_text c.args.entry)
