-- The canonical lines of a problem.
use Rattle.std.specs.Prelude.{◌==◌, ℕ, ◌+◌, ◌-◌, List, [], ◌∷◌, ◌++◌, map, get_or, nat_lt, if◌then◌else◌, Option, Some, None, codes, decimal}
use Rattle.std.specs.List.{flat_map, join_with_byte}
use Rattle.df_io.specs.Joined.{spaced}
use Rattle.df_group.specs.Elements.{order_of, residues}
use Rattle.df_group.specs.Subgroups.{canonical_of}
use Rattle.df_lang.specs.declared.pieces.Which.{Which}
use Rattle.df_lang.specs.declared.pieces.Which.TheVariants as which
use Rattle.df_lang.specs.declared.pieces.Kind.{Kind}
use Rattle.df_lang.specs.declared.pieces.Kind.TheVariants as kind
use Rattle.df_lang.specs.declared.pieces.Inside.{Inside}
use Rattle.df_lang.specs.declared.pieces.Member.{Member}
use Rattle.df_lang.specs.declared.canonical.Section.{Section}
use Rattle.df_lang.specs.declared.canonical.Section.TheVariants as section
use Rattle.df_lang.specs.Problems.{Stated, Named}

-- an element: its residues with commas between
unfoldable pub element_text : List ℕ → ℕ → List ℕ
element_text fs e = join_with_byte 44 (map decimal (residues fs e))

-- a fixed point: `inf` and its number, from 1
unfoldable pub fixed_text : ℕ → List ℕ
fixed_text i = codes "inf" ++ decimal (i + 1)

-- a point: an element, or from the order of the group on a fixed point
abbrev pub point_text : List ℕ → ℕ → List ℕ
point_text fs p = if nat_lt p (order_of fs) then element_text fs p else fixed_text (p - order_of fs)

-- a block: its points with single spaces between
abbrev pub block_text : List ℕ → List ℕ → List ℕ
block_text fs block = spaced (map (point_text fs) block)

-- a subgroup name
abbrev pub which_text : List Named → Which → List ℕ
which_text names which.All = codes "all"
which_text names which.Trivial = codes "none"
which_text names (which.Named i) = (get_or names i ([], [])).0

-- a keyword and a number
abbrev pub number_tokens : List ℕ → ℕ → List (List ℕ)
number_tokens keyword n = keyword ∷ decimal n ∷ []

-- a subgroup: its name and its canonical generators
abbrev pub subgroup_tokens : List ℕ → Named → List (List ℕ)
subgroup_tokens fs named = codes "subgroup" ∷ named.0 ∷ map (element_text fs) (canonical_of fs named.1)

-- the multipliers, where there are any
abbrev pub mult_statements : List ℕ → List (List (List ℕ))
mult_statements [] = []
mult_statements (m ∷ ms) = (codes "mult" ∷ map decimal (m ∷ ms)) ∷ []

-- the target inside cosets, where it is stated
abbrev pub inside_statements : List Named → Option Inside → List (List (List ℕ))
inside_statements names None = []
inside_statements names (Some inside) = (codes "inside" ∷ which_text names inside.subgroup ∷ decimal inside.target ∷ []) ∷ []

abbrev pub kind_text : Kind → List ℕ
kind_text kind.Base = codes "base"
kind_text kind.Short = codes "short"

-- a block after the keyword of its kind
abbrev pub block_tokens : List ℕ → List ℕ → List ℕ → List (List ℕ)
block_tokens fs keyword block = keyword ∷ map (point_text fs) block

abbrev pub member_tokens : List ℕ → Member → List (List ℕ)
member_tokens fs m = block_tokens fs (kind_text m.kind) m.block

-- the tokens of the statements of one section, in order
unfoldable pub statements_in : Stated → Section → List (List (List ℕ))
statements_in p section.Version = if p.version == 2 then (codes "version" ∷ codes "2" ∷ []) ∷ [] else []
statements_in p section.Group = (codes "group" ∷ map decimal p.group) ∷ []
statements_in p section.Fixed = number_tokens (codes "fixed") p.fixed ∷ []
statements_in p section.Subgroups = map (subgroup_tokens p.group) p.names
statements_in p section.Shift = (codes "shift" ∷ which_text p.names p.shift ∷ []) ∷ []
statements_in p section.Mult = mult_statements p.mults
statements_in p section.Sizes = (codes "k" ∷ map decimal p.sizes) ∷ []
statements_in p section.Lambda = number_tokens (codes "lambda") p.lambda ∷ []
statements_in p section.Inside = inside_statements p.names p.inside
statements_in p section.Hole = number_tokens (codes "hole") p.hole ∷ []
statements_in p section.Family = map (member_tokens p.group) p.family
statements_in p section.Required = map (block_tokens p.group (codes "require")) p.required
statements_in p section.Forbidden = map (block_tokens p.group (codes "forbid")) p.forbidden

-- the sections in their order
abbrev pub sections : List Section
sections =
    section.Version ∷ section.Group ∷ section.Fixed ∷ section.Subgroups ∷ section.Shift ∷ section.Mult ∷ section.Sizes
    ∷ section.Lambda ∷ section.Inside ∷ section.Hole ∷ section.Family ∷ section.Required ∷ section.Forbidden ∷ []

-- the tokens of each canonical line
unfoldable pub statements_of : Stated → List (List (List ℕ))
statements_of p = flat_map (statements_in p) sections

-- the canonical lines: tokens with single spaces between
unfoldable pub canonical : Stated → List (List ℕ)
canonical p = map spaced (statements_of p)
