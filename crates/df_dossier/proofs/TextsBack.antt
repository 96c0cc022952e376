-- The text of a spent dossier, read back.
use Rattle.std.proofs.Common.{ap, ◌∙◌, arith}
use Rattle.df_io.proofs.Joining.{lines_back}
use Rattle.df_dossier.specs.Spent.{spent_lines}
use Rattle.df_dossier.specs.DossierTexts.{dossier_lines, spent_text}
use Rattle.df_dossier.specs.TextsBack.{TextsReadBack}
use Rattle.df_dossier.proofs.SpentTexts.{spent_back}
use Rattle.df_dossier.proofs.LinesClean.{spent_line, dossier_clean}

pub texts_back : TextsReadBack
texts_back rules source p start log designs nodes next says few lines is_start each one few_designs few_nodes is_next =
    ap spent_lines (lines_back (dossier_lines rules source start log (spent_text designs nodes next)) (dossier_clean rules source p start log (spent_text designs nodes next) (omega (arith, few)) lines is_start each one (spent_line designs nodes next (omega (arith, few_designs)) (omega (arith, few_nodes)) is_next)))
    ∙ spent_back rules source p start log designs nodes next says few is_start each few_designs few_nodes is_next
