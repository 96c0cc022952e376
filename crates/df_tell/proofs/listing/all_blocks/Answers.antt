use Rattle.std.proofs.Common.{cond, [], sym, ap, ◌∙◌}
use Rattle.std.proofs.lemmas.Option.{same_Some}
use Rattle.df_tell.proofs.listing.all_blocks.Goals as goal

pub returns-in_ok-list-clause-value : goal.returns-in_ok-list-clause-value
returns-in_ok-list-clause-value c = λ design is.
    c.in_ok-list.ensures ∙ same_Some _ _ (sym c.blocks-left.ensures ∙ is) ∙ ap (λ b. cond b design []) (sym c.if-blocks.true)

pub returns-else-blocks-clause-value : goal.returns-else-blocks-clause-value
returns-else-blocks-clause-value c = λ design is. ap (λ b. cond b design []) (sym c.if-blocks.false)
