-- What is printed of an input that is not a source.
use Rattle.std.specs.Prelude.{ℕ, List, [], ◌∷◌, ◌++◌, codes}
use Rattle.std.specs.Fmt.{decimal}
use Rattle.df_lang.specs.declared.fault.SourceError.{SourceError}
use Rattle.df_list.specs.FaultTexts.{fault_text}

-- its first line that is wrong, and why
unfoldable pub refusal_text : SourceError → List ℕ
refusal_text e = (((codes "source refused line " ++ decimal e.line) ++ codes " ") ++ fault_text e.fault) ++ 10 ∷ []
