-- One more line of a source.
use Rattle.std.proofs.Common.{◌≡◌, ℕ, ◌+◌, List, [], ◌∷◌, map, Ok, Err, refl, ap, ◌∙◌}
use Rattle.df_io.specs.Lines.{lines_of, tokens_of}
use Rattle.df_lang.specs.declared.fault.SourceFault.{SourceFault}
use Rattle.df_lang.specs.StandsAbove.{Above}
use Rattle.df_lang.specs.Statements.{step}
use Rattle.df_lang.specs.Sources.{from_line, at_line, whole}

module _ (n : ℕ) (a : Above) (xs line rest : List ℕ) (split : lines_of xs ≡ line ∷ lines_of rest) where
  pub line_taken : (b : Above) → step a (tokens_of line) ≡ Ok b → from_line n a (map tokens_of (lines_of xs)) ≡ from_line (n + 1) b (map tokens_of (lines_of rest))
  unfolding from_line
  line_taken b e = ap (λ l. from_line n a (map tokens_of l)) split ∙ rw e refl

  pub line_refused : (fault : SourceFault) → step a (tokens_of line) ≡ Err fault → from_line n a (map tokens_of (lines_of xs)) ≡ Err record { line = n; fault = fault }
  unfolding from_line
  line_refused fault e = ap (λ l. from_line n a (map tokens_of l)) split ∙ rw e refl

pub lines_ended : (n : ℕ) (a : Above) (xs : List ℕ) → lines_of xs ≡ [] → from_line n a (map tokens_of (lines_of xs)) ≡ at_line 0 (whole a)
unfolding from_line
lines_ended n a xs none = ap (λ l. from_line n a (map tokens_of l)) none
