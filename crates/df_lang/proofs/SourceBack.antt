-- The source of a problem's canonical lines, read back.
use Rattle.std.proofs.Common.{◌≡◌, ℕ, ◌+◌, ◌-◌, ◌^◌, ◌<◌, ◌≤◌, true, false, cond, eqb, ltb, List, [], ◌∷◌, ◌++◌, length, length-append, map, get_or, zero, suc, unwrap_or, take, Option, Some, None, IfSome, Ok, Err, Result, decimal, codes, inl, inr, refl, ap, ◌∙◌, arith, tests}
use Rattle.std.specs.List.{join_with_byte, list_any, list_all}
use Rattle.std.proofs.lemmas.Bool.{cases_lt, and_parts}
use Rattle.std.proofs.lemmas.Fmt.{decimal_nonempty}
use Rattle.std.proofs.lemmas.List.{length-map}
use Rattle.df_io.specs.Lines.{tokens_of, is_blank, is_hash}
use Rattle.df_io.specs.Joined.{Each, Lacks, IsToken, is_line_feed, spaced}
use Rattle.df_io.proofs.Joining.{lines_back, tokens_back}
use Rattle.df_group.specs.Elements.{order_of, residues, IsFactor, IsShape}
use Rattle.df_group.specs.Subgroups.{canonical_of}
use Rattle.df_group.proofs.ExponentLaws.{exponent_high}
use Rattle.df_lang.specs.declared.fault.SourceFault.{SourceFault}
use Rattle.df_lang.specs.declared.pieces.Which.{Which}
use Rattle.df_lang.specs.declared.pieces.Which.TheVariants as which
use Rattle.df_lang.specs.declared.pieces.Inside.{Inside}
use Rattle.df_lang.specs.declared.pieces.Member.{Member}
use Rattle.df_lang.specs.declared.pieces.Kind.{Kind}
use Rattle.df_lang.specs.declared.pieces.Kind.TheVariants as kind
use Rattle.df_lang.specs.declared.canonical.Section.{Section}
use Rattle.df_lang.specs.declared.canonical.Section.TheVariants as section
use Rattle.df_lang.specs.Names.{is_letter, is_name_byte}
use Rattle.df_lang.specs.Problems.{Stated, Named, IsStated, IsNamed, IsSubgroupName, IsInside, IsMultiplier, IsSize, IsBlock, point_count}
use Rattle.df_lang.specs.Rules.{◌>>=◌}
use Rattle.df_lang.specs.StandsAbove.{Above, nothing}
use Rattle.df_lang.specs.Statements.{step}
use Rattle.df_lang.specs.Sources.{source, from_line, at_line, whole}
use Rattle.df_lang.specs.Canonical.{element_text, fixed_text, point_text, which_text, number_tokens, subgroup_tokens, mult_statements, inside_statements, kind_text, block_tokens, member_tokens, statements_in, statements_of, sections, canonical}
use Rattle.df_lang.specs.Separated.{each_after}
use Rattle.df_lang.specs.RoundTrip.{CanonicalLinesReadBack, CanonicalLinesAreLines}
use Rattle.df_lang.proofs.EachAfter.{join_after}
use Rattle.df_lang.proofs.Lengths.{residues_small, residues_length}
use Rattle.df_lang.proofs.EachMember.{each_from, each_append, each_map, each_so}
use Rattle.df_lang.proofs.SetsBelow.{set_below}
use Rattle.df_lang.proofs.EachMember.{each_flat_map}
use Rattle.df_lang.proofs.PointsBack.{decimal_high, lacks_from}
use Rattle.df_lang.proofs.StepsBack.{after, stated_mults, with_forbidden}
use Rattle.df_lang.proofs.SectionsBack.{statements_after}

-- a token with one byte or more, each of them above the blanks and the hash
pub record IsInked (token : List ℕ) : Type 0 where
  pub some : 0 < length token
  pub high : Each (λ b. 35 < b) token

inked_from : (token : List ℕ) → 0 < length token → Each (λ b. 47 < b) token → IsInked token
inked_from token some high = record { some = some; high = each_so (λ b. 47 < b) (λ b. 35 < b) token (λ b h. omega (arith, h)) high }

-- a keyword that is written out
keyword_inked : (token : List ℕ) → ltb 0 (length token) ≡ true → list_all (λ b. ltb 47 b) token ≡ true → IsInked token
keyword_inked token some high = inked_from token (grind (arith, tests)) (each_of token high) where
  each_of : (bs : List ℕ) → list_all (λ b. ltb 47 b) bs ≡ true → Each (λ b. 47 < b) bs
  each_of [] h = tt
  each_of (b ∷ bs) h = (grind (arith, tests), each_of bs (grind (arith, tests)))

number_inked : (n : ℕ) → n < 2 ^ 64 → IsInked (decimal n)
number_inked n h = inked_from (decimal n) (decimal_nonempty n h) (decimal_high n h)

numbers_inked : (ns : List ℕ) → Each (λ n. n < 1000) ns → Each IsInked (map decimal ns)
numbers_inked [] small = tt
numbers_inked (n ∷ ns) small = (number_inked n (omega (arith, small.0)), numbers_inked ns small.1)

-- joined tokens
after_high : (low c : ℕ) (texts : List (List ℕ)) → low < c → Each (λ t. Each (λ b. low < b) t) texts → Each (λ b. low < b) (each_after c texts)
after_high low c [] h each = tt
after_high low c (t ∷ ts) h each = (h, each_append (λ b. low < b) t (each_after c ts) each.0 (after_high low c ts h each.1))

join_high : (low c : ℕ) (texts : List (List ℕ)) → low < c → Each (λ t. Each (λ b. low < b) t) texts → Each (λ b. low < b) (join_with_byte c texts)
join_high low c [] h each = tt
join_high low c (t ∷ ts) h each = rw (join_after c t ts) (each_append (λ b. low < b) t (each_after c ts) each.0 (after_high low c ts h each.1))

join_some : (c : ℕ) (texts : List (List ℕ)) → 0 < length texts → Each IsInked texts → 0 < length (join_with_byte c texts)
join_some c [] h each = absurd (omega arith)
join_some c (t ∷ []) h each = each.0.some
join_some c (t ∷ u ∷ us) h each = omega (arith, each.0.some, length-append t (c ∷ join_with_byte c (u ∷ us)))

element_inked : (fs : List ℕ) (e : ℕ) → IsShape fs → IsInked (element_text fs e)
unfolding element_text
element_inked fs e is =
    let texts = numbers_inked (residues fs e) (residues_small fs e is.factors) in
    let high = each_so IsInked (λ t. Each (λ b. 35 < b) t) (map decimal (residues fs e)) (λ t h. h.high) texts in
    record {
      some = join_some 44 (map decimal (residues fs e)) (omega (arith, length-map (residues fs e) decimal, residues_length fs e, is.some)) texts;
      high = join_high 35 44 (map decimal (residues fs e)) (omega arith) high;
    }

elements_inked : (fs es : List ℕ) → IsShape fs → Each IsInked (map (element_text fs) es)
elements_inked fs [] is = tt
elements_inked fs (e ∷ es) is = (element_inked fs e is, elements_inked fs es is)

fixed_inked : (i : ℕ) → i < 256 → IsInked (fixed_text i)
unfolding fixed_text
fixed_inked i h = inked_from (codes "inf" ++ decimal (i + 1)) (omega arith) (omega arith, (omega arith, (omega arith, decimal_high (i + 1) (omega arith))))

point_inked : (fs : List ℕ) (p : ℕ) → IsShape fs → p < 256 → IsInked (point_text fs p)
point_inked fs p is h =
    elim (cases_lt p (order_of fs)) [
      | inl l ↦ let less : ltb p (order_of fs) ≡ true = grind (arith, tests) in rw less (element_inked fs p is)
      | inr r ↦ let past : ltb p (order_of fs) ≡ false = grind (arith, tests) in rw past (fixed_inked (p - order_of fs) (omega arith))
    ]

pub points_inked : (fs ps : List ℕ) → IsShape fs → Each (λ p. p < 256) ps → Each IsInked (map (point_text fs) ps)
points_inked fs [] is small = tt
points_inked fs (p ∷ ps) is small = (point_inked fs p is small.0, points_inked fs ps is small.1)

-- names
name_byte_high : (b : ℕ) → is_name_byte b ≡ true → 47 < b
name_byte_high b h =
    elim (cases_lt 47 b) [
      | inl l ↦ l
      | inr r ↦ let no : is_name_byte b ≡ false = grind (arith, tests) in absurd cc
    ]

name_bytes_high : (bs : List ℕ) → list_all is_name_byte bs ≡ true → Each (λ b. 47 < b) bs
name_bytes_high [] h = tt
name_bytes_high (b ∷ bs) h = let both = and_parts (is_name_byte b) (list_all is_name_byte bs) h in (name_byte_high b both.0, name_bytes_high bs both.1)

first_some : (bs : List ℕ) → list_any is_letter (take 1 bs) ≡ true → 0 < length bs
first_some [] h = absurd cc
first_some (b ∷ bs) h = omega arith

name_inked : (fs : List ℕ) (n : Named) → IsNamed fs n → IsInked n.0
name_inked fs n is =
    let outer = and_parts _ (list_all is_name_byte n.0) is.name in
    let inner = and_parts _ (list_any is_letter (take 1 n.0)) outer.0 in
    inked_from n.0 (first_some n.0 inner.1) (name_bytes_high n.0 outer.1)

named_inked : (fs : List ℕ) (names : List Named) (i : ℕ) → i < length names → Each (IsNamed fs) names → IsInked (get_or names i ([], [])).0
named_inked fs [] i h each = absurd (omega arith)
named_inked fs (n ∷ ns) zero h each = name_inked fs n each.0
named_inked fs (n ∷ ns) (suc i) h each = named_inked fs ns i (omega arith) each.1

which_inked : (fs : List ℕ) (names : List Named) (w : Which) → Each (IsNamed fs) names → IsSubgroupName names w → IsInked (which_text names w)
which_inked fs names which.All each is = keyword_inked (codes "all") refl refl
which_inked fs names which.Trivial each is = keyword_inked (codes "none") refl refl
which_inked fs names (which.Named i) each is = named_inked fs names i is each

kind_inked : (k : Kind) → IsInked (kind_text k)
kind_inked kind.Base = keyword_inked (codes "base") refl refl
kind_inked kind.Short = keyword_inked (codes "short") refl refl

-- the tokens of each section
mults_inked : (ms : List ℕ) → Each (λ m. m < 1000) ms → Each (Each IsInked) (mult_statements ms)
mults_inked [] small = tt
mults_inked (m ∷ ms) small = ((keyword_inked (codes "mult") refl refl, numbers_inked (m ∷ ms) small), tt)

insides_inked : (fs : List ℕ) (names : List Named) (o : Option Inside) → Each (IsNamed fs) names → IfSome o (IsInside names) → Each (Each IsInked) (inside_statements names o)
insides_inked fs names None each is = tt
insides_inked fs names (Some i) each is = ((keyword_inked (codes "inside") refl refl, (which_inked fs names i.subgroup each is.subgroup, (number_inked i.target (omega (arith, is.target)), tt))), tt)

block_inked : (s : Stated) → IsStated s → (keyword b : List ℕ) → IsInked keyword → IsBlock (point_count s) s.sizes b → Each IsInked (block_tokens s.group keyword b)
block_inked s is keyword b inked h =
    (inked, points_inked s.group b is.shape (each_so (λ p. p < point_count s) (λ p. p < 256) b (λ p l. omega (arith, l, is.points)) (set_below (point_count s) b h.set)))

number_tokens_inked : (keyword : List ℕ) (n : ℕ) → IsInked keyword → n ≤ 2000000 → Each IsInked (number_tokens keyword n)
number_tokens_inked keyword n inked h = (inked, (number_inked n (omega (arith, h)), tt))

section_inked : (s : Stated) → IsStated s → (x : Section) → Each (Each IsInked) (statements_in s x)
unfolding statements_in
section_inked s is section.Version =
    elim (eqb s.version 2) as (λ v. Each (Each IsInked) (cond v ((codes "version" ∷ codes "2" ∷ []) ∷ []) [])) [
      | true ↦ ((keyword_inked (codes "version") refl refl, (keyword_inked (codes "2") refl refl, tt)), tt)
      | false ↦ tt
    ]
section_inked s is section.Group =
    ((keyword_inked (codes "group") refl refl, numbers_inked s.group (each_so IsFactor (λ f. f < 1000) s.group (λ f h. omega (arith, h.1)) (each_from IsFactor s.group is.shape.factors))), tt)
section_inked s is section.Fixed = (number_tokens_inked (codes "fixed") s.fixed (keyword_inked (codes "fixed") refl refl) (omega (arith, is.fixed)), tt)
section_inked s is section.Subgroups =
    each_map (IsNamed s.group) (Each IsInked) (subgroup_tokens s.group) s.names
    (λ n h. (keyword_inked (codes "subgroup") refl refl, (name_inked s.group n h, elements_inked s.group (canonical_of s.group n.1) is.shape))) (each_from (IsNamed s.group) s.names is.names)
section_inked s is section.Shift = ((keyword_inked (codes "shift") refl refl, (which_inked s.group s.names s.shift (each_from (IsNamed s.group) s.names is.names) is.shift, tt)), tt)
section_inked s is section.Mult =
    mults_inked s.mults (each_so (IsMultiplier s.group) (λ m. m < 1000) s.mults (λ m h. omega (arith, h.below, exponent_high s.group is.shape)) (each_from (IsMultiplier s.group) s.mults is.mults))
section_inked s is section.Sizes =
    ((keyword_inked (codes "k") refl refl, numbers_inked s.sizes (each_so (IsSize (point_count s)) (λ k. k < 1000) s.sizes (λ k h. omega (arith, h.high)) (each_from (IsSize (point_count s)) s.sizes is.sizes))), tt)
section_inked s is section.Lambda = (number_tokens_inked (codes "lambda") s.lambda (keyword_inked (codes "lambda") refl refl) is.lambda, tt)
section_inked s is section.Inside = insides_inked s.group s.names s.inside (each_from (IsNamed s.group) s.names is.names) is.inside
section_inked s is section.Hole = (number_tokens_inked (codes "hole") s.hole (keyword_inked (codes "hole") refl refl) is.hole, tt)
section_inked s is section.Family =
    let IsHere : Member → Type 0 = λ m. IsBlock (point_count s) s.sizes m.block in
    each_map IsHere (Each IsInked) (member_tokens s.group) s.family (λ m h. block_inked s is (kind_text m.kind) m.block (kind_inked m.kind) h) (each_from IsHere s.family is.family)
section_inked s is section.Required =
    each_map (IsBlock (point_count s) s.sizes) (Each IsInked) (block_tokens s.group (codes "require")) s.required (λ b h. block_inked s is (codes "require") b (keyword_inked (codes "require") refl refl) h)
    (each_from (IsBlock (point_count s) s.sizes) s.required is.required)
section_inked s is section.Forbidden =
    each_map (IsBlock (point_count s) s.sizes) (Each IsInked) (block_tokens s.group (codes "forbid")) s.forbidden (λ b h. block_inked s is (codes "forbid") b (keyword_inked (codes "forbid") refl refl) h)
    (each_from (IsBlock (point_count s) s.sizes) s.forbidden is.forbidden)

statements_inked : (s : Stated) → IsStated s → Each (Each IsInked) (statements_of s)
unfolding statements_of
statements_inked s is = each_flat_map (Each IsInked) (statements_in s) (section_inked s is) sections

-- inked tokens are tokens, and their line has no line feed
blank_low : (b : ℕ) → 35 < b → is_blank b ≡ false
blank_low b h = grind (arith, tests)

hash_low : (b : ℕ) → 35 < b → is_hash b ≡ false
hash_low b h = grind (arith, tests)

feed_low : (b : ℕ) → 31 < b → is_line_feed b ≡ false
feed_low b h = grind (arith, tests)

pub token_from : (token : List ℕ) → IsInked token → IsToken token
token_from token is = record { some = is.some; filled = lacks_from is_blank 35 token blank_low is.high; plain = lacks_from is_hash 35 token hash_low is.high }

pub line_clean : (tokens : List (List ℕ)) → Each IsInked tokens → Lacks is_line_feed (spaced tokens)
line_clean tokens each =
    lacks_from is_line_feed 31 (spaced tokens) feed_low
    (join_high 31 32 tokens (omega arith) (each_so IsInked (λ t. Each (λ b. 31 < b) t) tokens (λ t h. each_so (λ b. 35 < b) (λ b. 31 < b) t (λ b l. omega (arith, l)) h.high) each))

tokens_back_each : (statements : List (List (List ℕ))) → Each (Each IsInked) statements → map tokens_of (map spaced statements) ≡ statements
tokens_back_each [] each = refl
tokens_back_each (tokens ∷ more) each =
    ap (λ l. l ∷ map tokens_of (map spaced more)) (tokens_back tokens (each_so IsInked IsToken tokens token_from each.0)) ∙ ap (λ l. tokens ∷ l) (tokens_back_each more each.1)

-- statements that are all taken end in the whole
from_line_after : (n : ℕ) (a b : Above) (lines : List (List (List ℕ))) → after a lines ≡ Ok b → from_line n a lines ≡ at_line 0 (whole b)
unfolding from_line
from_line_after n a b [] e = ap (λ r. at_line 0 (r >>= whole)) e
from_line_after n a b (tokens ∷ lines) e = more (step a tokens) (λ c f. from_line_after (n + 1) c b lines f) e where
  more : (r : Result Above SourceFault) → ((c : Above) → after c lines ≡ Ok b → from_line (n + 1) c lines ≡ at_line 0 (whole b)) → (r >>= λ c. after c lines) ≡ Ok b
      → (at_line n r >>= λ c. from_line (n + 1) c lines) ≡ at_line 0 (whole b)
  more (Ok c) ih f = ih c f
  more (Err fault) ih f = absurd cc

mults_again : (ms : List ℕ) → unwrap_or (stated_mults ms) [] ≡ ms
mults_again [] = refl
mults_again (m ∷ ms) = refl

whole_again : (s : Stated) → at_line 0 (whole (with_forbidden s s.forbidden)) ≡ Ok s
unfolding whole
whole_again s = ap (λ (l : List ℕ). Ok (record s { mults = l })) (mults_again s.mults)

-- no canonical line has a line feed
pub lines_clean : CanonicalLinesAreLines
unfolding canonical
lines_clean s is = each_map (Each IsInked) (Lacks is_line_feed) spaced (statements_of s) line_clean (statements_inked s is)

pub source_back : CanonicalLinesReadBack
unfolding source canonical
source_back s is =
    let inked = statements_inked s is in
    let lines = lines_back (map spaced (statements_of s)) (lines_clean s is) in
    ap (λ l. from_line 1 nothing (map tokens_of l)) lines
    ∙ ap (from_line 1 nothing) (tokens_back_each (statements_of s) inked)
    ∙ from_line_after 1 nothing (with_forbidden s s.forbidden) (statements_of s) (statements_after s is)
    ∙ whole_again s
