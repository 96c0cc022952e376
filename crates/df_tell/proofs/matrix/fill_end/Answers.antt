use Rattle.std.proofs.Common.{◌++◌, ap, ◌∙◌, codes}
use Rattle.df_tell.specs.Matrix.{end_of}
use Rattle.df_tell.proofs.matrix.fill_end.Goals as goal

pub returns-in-Some : goal.returns-in-Some
returns-in-Some c = c.fill_column.ensures ∙ ap end_of c.in-Some.ensures

pub returns-in-None : goal.returns-in-None
returns-in-None c = c.put_text.ensures.text ∙ ap (λ l. l ++ codes " dropped\n") c.clear.ensures ∙ ap end_of c.in-None.ensures
