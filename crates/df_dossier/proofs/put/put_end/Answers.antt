use Rattle.std.proofs.Common.{ap, sym, ◌∙◌, ◌++◌, append_assoc, codes, decimal}
use Rattle.df_io.specs.Joined.{spaced}
use Rattle.df_dossier.specs.Paths.{end_tokens}
use Rattle.df_dossier.proofs.Joins.{five}
use Rattle.df_dossier.proofs.put.put_end.Goals as goal

pub returns-else-finished-clause-text : goal.returns-else-finished-clause-text
returns-else-finished-clause-text c =
    c.put_text.ensures.text
    ∙ ap (λ l. l ++ codes " next") c.put_counts-else-finished.ensures.text
    ∙ append_assoc c.args.buf.now.items (codes "end spent designs " ++ decimal c.args.designs ++ codes " nodes " ++ decimal c.args.nodes) (codes " next")
    ∙ ap (λ l. c.args.buf.now.items ++ l) (five (codes "end spent designs ") (decimal c.args.designs) (codes " nodes ") (decimal c.args.nodes) (codes " next"))
    ∙ ap (λ b. c.args.buf.now.items ++ spaced (end_tokens b c.args.designs c.args.nodes)) (sym c.if-finished.false)
