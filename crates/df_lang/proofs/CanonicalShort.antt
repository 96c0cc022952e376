-- Each canonical line of a problem has fewer than 1,024 bytes.
use Rattle.std.proofs.Common.{◌≢◌, ℕ, ◌<◌, true, false, cond, eqb, List, [], ◌∷◌, length, All, Option, Some, None, IfSome, codes, arith}
use Rattle.std.specs.List.{AllPairs}
use Rattle.df_io.specs.Joined.{Each, spaced}
use Rattle.df_group.specs.Elements.{IsShape}
use Rattle.df_group.proofs.SubgroupLaws.{are_subgroups}
use Rattle.df_lang.specs.declared.pieces.Inside.{Inside}
use Rattle.df_lang.specs.declared.pieces.Member.{Member}
use Rattle.df_lang.specs.declared.canonical.Section.{Section}
use Rattle.df_lang.specs.declared.canonical.Section.TheVariants as section
use Rattle.df_lang.specs.Problems.{Stated, Named, IsStated, IsNamed, IsInside, IsMultiplier, IsSize, IsBlock, point_count}
use Rattle.df_lang.specs.Canonical.{mult_statements, inside_statements, kind_text, subgroup_tokens, block_tokens, member_tokens, statements_in, statements_of, sections, canonical}
use Rattle.df_lang.proofs.EachMember.{each_from, each_map, all_from, each_flat_map}
use Rattle.df_lang.proofs.LinesShort.{group_short, number_line_short, mult_short, sizes_short, shift_short, inside_short, subgroup_short, block_line_short, kind_short}

abbrev pub IsShortLine : List (List ℕ) → Type 0
IsShortLine tokens = length (spaced tokens) < 1024

mults_short : (fs ms : List ℕ) → IsShape fs → All (IsMultiplier fs) ms → AllPairs (λ m n. m ≢ n) ms → Each IsShortLine (mult_statements ms)
mults_short fs [] is each once = tt
mults_short fs (m ∷ ms) is each once = (mult_short fs (m ∷ ms) is each once, tt)

insides_short : (fs : List ℕ) (names : List Named) (o : Option Inside) → Each (IsNamed fs) names → IfSome o (IsInside names) → Each IsShortLine (inside_statements names o)
insides_short fs names None each is = tt
insides_short fs names (Some i) each is = (inside_short fs names i.subgroup i.target each is.target, tt)

pub section_short : (s : Stated) → IsStated s → (x : Section) → Each IsShortLine (statements_in s x)
unfolding statements_in
section_short s is section.Version =
    elim (eqb s.version 2) as (λ v. Each IsShortLine (cond v ((codes "version" ∷ codes "2" ∷ []) ∷ []) [])) [ true ↦ (omega arith, tt) | false ↦ tt ]
section_short s is section.Group = (group_short s.group is.shape, tt)
section_short s is section.Fixed = (number_line_short (codes "fixed") s.fixed (omega arith) (omega (arith, is.fixed)), tt)
section_short s is section.Subgroups =
    each_map (IsNamed s.group) IsShortLine (subgroup_tokens s.group) s.names (λ n named. subgroup_short s.group n is.shape named ((are_subgroups s.group is.shape).few n.1 named.subgroup)) (each_from (IsNamed s.group) s.names is.names)
section_short s is section.Shift = (shift_short s.group s.names s.shift (each_from (IsNamed s.group) s.names is.names), tt)
section_short s is section.Mult = mults_short s.group s.mults is.shape is.mults is.mults_once
section_short s is section.Sizes = (sizes_short s.sizes is.sizes_rise, tt)
section_short s is section.Lambda = (number_line_short (codes "lambda") s.lambda (omega arith) (omega (arith, is.lambda)), tt)
section_short s is section.Inside = insides_short s.group s.names s.inside (each_from (IsNamed s.group) s.names is.names) is.inside
section_short s is section.Hole = (number_line_short (codes "hole") s.hole (omega arith) (omega (arith, is.hole)), tt)
section_short s is section.Family =
    let IsHere : Member → Type 0 = λ m. IsBlock (point_count s) s.sizes m.block in
    each_map IsHere IsShortLine (member_tokens s.group) s.family
    (λ m b. block_line_short s.group (kind_text m.kind) (point_count s) s.sizes m.block is.shape is.points (kind_short m.kind) (each_from (IsSize (point_count s)) s.sizes is.sizes) b) (each_from IsHere s.family is.family)
section_short s is section.Required =
    each_map (IsBlock (point_count s) s.sizes) IsShortLine (block_tokens s.group (codes "require")) s.required
    (λ b h. block_line_short s.group (codes "require") (point_count s) s.sizes b is.shape is.points (omega arith) (each_from (IsSize (point_count s)) s.sizes is.sizes) h) (each_from (IsBlock (point_count s) s.sizes) s.required is.required)
section_short s is section.Forbidden =
    each_map (IsBlock (point_count s) s.sizes) IsShortLine (block_tokens s.group (codes "forbid")) s.forbidden
    (λ b h. block_line_short s.group (codes "forbid") (point_count s) s.sizes b is.shape is.points (omega arith) (each_from (IsSize (point_count s)) s.sizes is.sizes) h) (each_from (IsBlock (point_count s) s.sizes) s.forbidden is.forbidden)

pub canonical_short : (s : Stated) → IsStated s → All (λ line. length line < 1024) (canonical s)
unfolding canonical statements_of
canonical_short s is =
    all_from (λ line. length line < 1024) (canonical s) (each_map IsShortLine (λ line. length line < 1024) spaced (statements_of s) (λ tokens h. h) (each_flat_map IsShortLine (statements_in s) (section_short s is) sections))
