use Rattle.std.proofs.Common.{subst}
use Rattle.df_lang.specs.Drafts.{Parses}
use Rattle.df_dossier.specs.Sources.{ParsesLines}
use Rattle.df_dossier.proofs.SourceTexts.{parsed}
use Rattle.df_dossier.proofs.source_text.SourceText.parse.Goals as goal

pub returns : goal.returns
returns c =
    let says = subst (λ b. Parses b c.parse.result) c.deref.ensures.value c.parse.ensures in
    subst (λ l. ParsesLines l c.parse.result) c.self.view_is (parsed c.self.inside.bytes.items c.parse.result says)
