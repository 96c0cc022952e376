-- What is printed of a path at which a search can't go on.
use Rattle.std.specs.Prelude.{ℕ, List, [], ◌∷◌, ◌++◌, codes}
use Rattle.std.specs.Fmt.{decimal}
use Rattle.df_search.specs.declared.Why.{Why}
use Rattle.df_search.specs.declared.Why.TheVariants.{SettledBefore, Over, Under, Residue}
use Rattle.df_tell.specs.declared.path.PathRefusal.{PathRefusal}
use Rattle.df_tell.specs.declared.path.PathRefusal.TheVariants.{Long, NoNode}

-- why a path is no node: a settled proper prefix, or what rules it out
abbrev pub why_words : Why → List ℕ
why_words (SettledBefore size) = codes "settled before "
why_words (Over row) = codes "over "
why_words (Under row) = codes "under "
why_words (Residue row) = codes "residue "

-- the least length of such a prefix, or the least such row
abbrev pub why_number : Why → ℕ
why_number (SettledBefore size) = size
why_number (Over row) = row
why_number (Under row) = row
why_number (Residue row) = row

-- how many columns the path decides and how many there are, or why it is no node
unfoldable pub path_refusal_text : PathRefusal → List ℕ
path_refusal_text (Long size columns) = (((codes "path refused length " ++ decimal size) ++ codes " above ") ++ decimal columns) ++ 10 ∷ []
path_refusal_text (NoNode why) = ((codes "path refused " ++ why_words why) ++ decimal (why_number why)) ++ 10 ∷ []
