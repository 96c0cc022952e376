-- Chains of dossiers: the log of one problem, cut into dossiers, beside its designs.
use Rattle.std.specs.Prelude.{◌≡◌, ℕ, ◌+◌, Bool, not, true, List, [], ◌∷◌, map, Option, Some, None, Ok}
use Rattle.std.specs.List.{list_all, flat_map, AllByRecursion}
use Rattle.df_walk.specs.Paths.{WrittenPath}
use Rattle.df_lang.specs.Problems.{Stated}
use Rattle.df_correspondence.specs.Designs.{union_of}
use Rattle.df_matrix.specs.Limits.{limit_passed}
use Rattle.df_dossier.specs.Dossiers.{Dossier, Taken, dossier_from, has_tokens, whole}
use Rattle.df_check.specs.Lines.{Line, leaves_of}
use Rattle.df_check.specs.DesignLaws.{AreProof}

-- a dossier as it is read: its source, its problem, where it begins, its entries and designs, and how it ended
abbrev pub Read : Type 0
Read = Dossier Stated WrittenPath (List (List ℕ))

-- no line has a token
abbrev pub are_blank : List (List ℕ) → Bool
are_blank lines = list_all (λ line. not (has_tokens line)) lines

-- the lines, of which the first has this number, are these dossiers, one after another, and no more
abbrev pub AreDossiers : ℕ → List (List ℕ) → List Read → Type 0
AreDossiers number lines [] = are_blank lines ≡ true
AreDossiers number lines (d ∷ later) =
    (t : Taken Read) × (dossier_from whole number lines ≡ Ok t) × (t.value ≡ d) × AreDossiers (t.number + 1) t.after later

-- the first begins at this place, each later one where the one before it is to go on, and the last one is finished, so that there
-- is no place where to go on
abbrev pub GoOn : Option WrittenPath → List Read → Type 0
GoOn None [] = Unit {0}
GoOn (Some place) [] = ⊥
GoOn None (d ∷ later) = ⊥
GoOn (Some place) (d ∷ later) = (d.start ≡ place) × GoOn d.log.end.next later

-- the path that decides nothing
abbrev pub empty_path : WrittenPath
empty_path = record { size = 0; chosen = [] }

-- the entries and designs of the dossiers, joined
abbrev pub log_of : List Read → List (Line (List (List ℕ)))
log_of dossiers = flat_map (λ (d : Read). d.log.items) dossiers

-- The lines of an input are a chain.
pub record IsChain (lines : List (List ℕ)) : Type 0 where
  -- they are one dossier or several
  pub first : Read
  pub later : List Read
  pub dossiers : AreDossiers 1 lines (first ∷ later)
  -- the problem is within the limits of orbit matrices
  pub within : limit_passed first.problem ≡ None
  -- each has the source of the first, line by line
  pub sources : AllByRecursion (λ (d : Read). d.source ≡ first.source) later
  -- the first begins at the empty path, each later one at the path of the end line before it, and the last one is finished
  pub places : GoOn (Some empty_path) (first ∷ later)
  -- their logs, joined, are one log of nothing decided, with the design of each settled entry after it
  pub proof : AreProof first.problem (log_of (first ∷ later))

-- the designs of a chain: those of its design lines, in their order
abbrev pub designs_of : {lines : List (List ℕ)} → IsChain lines → List (List (List ℕ))
designs_of c = map (union_of c.first.problem) (leaves_of (log_of (c.first ∷ c.later)))
