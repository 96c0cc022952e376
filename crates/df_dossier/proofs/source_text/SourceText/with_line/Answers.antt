use Rattle.std.proofs.Common.{◌≡◌, ◌++◌, ◌∷◌, [], ap, sym, subst, ◌∙◌}
use Rattle.df_io.specs.Lines.{lines_of}
use Rattle.df_dossier.specs.Sources.{IsWhole}
use Rattle.df_dossier.proofs.SourceTexts.{line_more, whole_more}
use Rattle.df_dossier.proofs.source_text.SourceText.with_line.Goals as goal

pub invariant_of-result : goal.invariant_of-result
invariant_of-result c =
    let bytes = c.self.inside.bytes.items in
    let all : c.push.new.self.items ≡ (bytes ++ c.args.line.now) ++ 10 ∷ [] =
    c.in_ok-push.ensures.items ∙ ap (λ l. l ++ 10 ∷ []) c.in_ok-extend_from_slice.ensures.items in
    subst IsWhole (sym all) (whole_more bytes c.args.line.now c.self.invariant c.requires)

pub returns : goal.returns
returns c =
    let bytes = c.self.inside.bytes.items in
    let all : c.push.new.self.items ≡ (bytes ++ c.args.line.now) ++ 10 ∷ [] =
    c.in_ok-push.ensures.items ∙ ap (λ l. l ++ 10 ∷ []) c.in_ok-extend_from_slice.ensures.items in
    ap lines_of all ∙ line_more bytes c.args.line.now c.self.invariant c.requires ∙ ap (λ l. l ++ c.args.line.now ∷ []) c.self.view_is
