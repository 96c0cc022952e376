-- Each canonical line has fewer than 1,024 bytes.
use Rattle.std.proofs.Common.{◌≡◌, ◌≢◌, ℕ, zero, suc, ◌+◌, ◌*◌, ◌<◌, ◌≤◌, Bool, true, false, eqb, leb, List, [], ◌∷◌, length, map, get_or, take, All, decimal, codes, inl, inr, sym, ap, subst, arith, tests, length-append, ne_eqb, ◌&&◌}
use Rattle.std.specs.List.{list_any, list_all, AllPairs}
use Rattle.std.proofs.lemmas.Bool.{cases_lt}
use Rattle.std.proofs.lemmas.Fmt.{length-decimal-le}
use Rattle.std.proofs.lemmas.List.{length-map}
use Rattle.std.proofs.lemmas.Map.Keys.{IsDistinct-from_apart}
use Rattle.std.proofs.lemmas.Map.Steps.{length-le_from_distinct_below}
use Rattle.df_io.specs.Joined.{Each, spaced}
use Rattle.df_lists.specs.NumberSets.{has_member, IsSet}
use Rattle.df_lists.proofs.SetLaws.{set_long}
use Rattle.df_group.specs.Elements.{IsFactor, IsShape}
use Rattle.df_group.specs.Subgroups.{canonical_of}
use Rattle.df_group.proofs.ExponentLaws.{exponent_high}
use Rattle.df_lang.specs.declared.pieces.Which.{Which}
use Rattle.df_lang.specs.declared.pieces.Which.TheVariants as which
use Rattle.df_lang.specs.declared.pieces.Member.{Member}
use Rattle.df_lang.specs.declared.pieces.Kind.{Kind}
use Rattle.df_lang.specs.declared.pieces.Kind.TheVariants as kind
use Rattle.df_lang.specs.Names.{is_letter, is_name_byte}
use Rattle.df_lang.specs.Problems.{Named, IsNamed, IsMultiplier, IsSize, IsBlock}
use Rattle.df_lang.specs.Canonical.{element_text, point_text, which_text, number_tokens, subgroup_tokens, block_tokens, member_tokens, kind_text}
use Rattle.df_lang.specs.Separated.{each_after}
use Rattle.df_lang.proofs.EachAfter.{join_after}
use Rattle.df_lang.proofs.EachMember.{each_from, each_so}
use Rattle.df_lang.proofs.SetsBelow.{set_below}
use Rattle.df_lang.proofs.Lengths.{IsShort, after_short, numbers_short, element_short, points_short}

-- a line of a keyword and other tokens
pub tokens_short : (keyword : List ℕ) (n : ℕ) (texts : List (List ℕ)) → Each (IsShort n) texts → length (spaced (keyword ∷ texts)) ≤ length keyword + length texts * (n + 1)
tokens_short keyword n texts each = omega (arith, ap length (join_after 32 keyword texts), length-append keyword (each_after 32 texts), after_short 32 n texts each)

-- the line `group`
pub group_short : (fs : List ℕ) → IsShape fs → length (spaced (codes "group" ∷ map decimal fs)) < 1024
group_short fs is =
    let small = each_so IsFactor (λ f. f < 1000) fs (λ f h. omega (arith, h.1)) (each_from IsFactor fs is.factors) in
    omega (arith, tokens_short (codes "group") 3 (map decimal fs) (numbers_short fs small), length-map fs decimal, is.few)

-- a keyword and a number
pub number_line_short : (keyword : List ℕ) (n : ℕ) → length keyword ≤ 16 → n < 10000000 → length (spaced (number_tokens keyword n)) < 1024
number_line_short keyword n h small = omega (arith, tokens_short keyword 7 (decimal n ∷ []) (length-decimal-le 7 n (omega arith) small (omega (arith, small)), tt), h)

-- the line `mult`
module _ (fs ms : List ℕ) (is : IsShape fs) (each : All (IsMultiplier fs) ms) (once : AllPairs (λ m n. m ≢ n) ms) where
  below : Each (λ m. m < 128) ms
  below = each_so (IsMultiplier fs) (λ m. m < 128) ms (λ m h. omega (arith, h.below, exponent_high fs is)) (each_from (IsMultiplier fs) ms each)

  member_below : (xs : List ℕ) (q : ℕ) → Each (λ m. m < 128) xs → list_any (eqb q) xs ≡ true → q < 128
  member_below [] q small h = absurd cc
  member_below (x ∷ xs) q small h =
      elim (cases_lt q 128) [
        | inl l ↦ l
        | inr r ↦ let other : eqb q x ≡ false = grind (arith, tests, small.0) in member_below xs q small.1 (rw other at h)
      ]

  few : length ms ≤ 128
  few = length-le_from_distinct_below ms 128 (IsDistinct-from_apart eqb ms (λ i j d h l. ne_eqb (get_or ms i d) (get_or ms j d) (once i j d h l))) (λ q h. member_below ms q below h)

  pub mult_short : length (spaced (codes "mult" ∷ map decimal ms)) < 1024
  mult_short = omega (arith, tokens_short (codes "mult") 3 (map decimal ms) (numbers_short ms (each_so (λ m. m < 128) (λ m. m < 1000) ms (λ m h. omega (arith, h)) below)), length-map ms decimal, few)

-- the line `k`
pub sizes_short : (ks : List ℕ) → IsSet 17 ks → length (spaced (codes "k" ∷ map decimal ks)) < 1024
sizes_short ks is =
    let small = each_so (λ k. k < 17) (λ k. k < 1000) ks (λ k h. omega (arith, h)) (set_below 17 ks is) in
    omega (arith, tokens_short (codes "k") 3 (map decimal ks) (numbers_short ks small), length-map ks decimal, set_long 17 ks is)

-- a subgroup name
le_true : (k : ℕ) (u w : Bool) → leb k 16 && u && w ≡ true → k ≤ 16
le_true k u w h = grind (arith, tests)

name_short : (fs : List ℕ) (n : Named) → IsNamed fs n → length n.0 ≤ 16
name_short fs n is = le_true (length n.0) (list_any is_letter (take 1 n.0)) (list_all is_name_byte n.0) is.name

named_short : (fs : List ℕ) (names : List Named) (i : ℕ) → Each (IsNamed fs) names → length (get_or names i ([], [])).0 ≤ 16
named_short fs [] i each = omega arith
named_short fs (n ∷ ns) zero each = name_short fs n each.0
named_short fs (n ∷ ns) (suc i) each = named_short fs ns i each.1

pub which_short : (fs : List ℕ) (names : List Named) (w : Which) → Each (IsNamed fs) names → IsShort 16 (which_text names w)
which_short fs names which.All each = omega arith
which_short fs names which.Trivial each = omega arith
which_short fs names (which.Named i) each = named_short fs names i each

pub shift_short : (fs : List ℕ) (names : List Named) (w : Which) → Each (IsNamed fs) names → length (spaced (codes "shift" ∷ which_text names w ∷ [])) < 1024
shift_short fs names w each = omega (arith, tokens_short (codes "shift") 16 (which_text names w ∷ []) (which_short fs names w each, tt))

pub inside_short : (fs : List ℕ) (names : List Named) (w : Which) (n : ℕ) → Each (IsNamed fs) names → n ≤ 2000000 → length (spaced (codes "inside" ∷ which_text names w ∷ decimal n ∷ [])) < 1024
inside_short fs names w n each h =
    let number = length-decimal-le 7 n (omega arith) (omega arith) (omega arith) in
    omega (arith, tokens_short (codes "inside") 16 (which_text names w ∷ decimal n ∷ []) (which_short fs names w each, (omega (arith, number), tt)))

-- the line `subgroup`
elements_short : (fs es : List ℕ) → IsShape fs → Each (IsShort 28) (map (element_text fs) es)
elements_short fs [] is = tt
elements_short fs (e ∷ es) is = (element_short fs e is, elements_short fs es is)

pub subgroup_short : (fs : List ℕ) (n : Named) → IsShape fs → IsNamed fs n → length (canonical_of fs n.1) ≤ 7 → length (spaced (subgroup_tokens fs n)) < 1024
subgroup_short fs n is named few =
    let texts = map (element_text fs) (canonical_of fs n.1) in
    let each : Each (IsShort 28) (n.0 ∷ texts) = (omega (arith, name_short fs n named), elements_short fs (canonical_of fs n.1) is) in
    omega (arith, tokens_short (codes "subgroup") 28 (n.0 ∷ texts) each, length-map (canonical_of fs n.1) (element_text fs), few)

-- a block's line
size_high : (v : ℕ) (ks : List ℕ) (n : ℕ) → Each (IsSize v) ks → has_member ks n ≡ true → n ≤ 16
size_high v [] n each h = absurd cc
size_high v (k ∷ ks) n each h =
    elim (cases_lt 16 n) [
      | inl l ↦ let other : eqb k n ≡ false = grind (arith, tests, each.0.high) in size_high v ks n each.1 (rw other at h)
      | inr r ↦ r
    ]

pub block_line_short : (fs keyword : List ℕ) (v : ℕ) (ks block : List ℕ) → IsShape fs → v ≤ 128 → length keyword ≤ 16 → Each (IsSize v) ks → IsBlock v ks block → length (spaced (block_tokens fs keyword block)) < 1024
block_line_short fs keyword v ks block is few h sizes b =
    let small = each_so (λ p. p < v) (λ p. p < 256) block (λ p l. omega (arith, l)) (set_below v block b.set) in
    omega (arith, tokens_short keyword 28 (map (point_text fs) block) (points_short fs block is small), length-map block (point_text fs), size_high v ks (length block) sizes b.size)

pub kind_short : (k : Kind) → length (kind_text k) ≤ 16
kind_short kind.Base = omega arith
kind_short kind.Short = omega arith

-- a block of a list of blocks, and a member of the family
pub listed_short : (fs keyword : List ℕ) (v : ℕ) (ks : List ℕ) (blocks : List (List ℕ)) (n : ℕ) (b : List ℕ) → IsShape fs → v ≤ 128 → length keyword ≤ 16 → All (IsSize v) ks → All (IsBlock v ks) blocks
    → n < length blocks → b ≡ get_or blocks n b → length (spaced (block_tokens fs keyword b)) < 1024
listed_short fs keyword v ks blocks n b is few h sizes all l e =
    block_line_short fs keyword v ks b is few h (each_from (IsSize v) ks sizes) (subst (IsBlock v ks) (sym e) (all n b l))

pub member_short : (fs : List ℕ) (v : ℕ) (ks : List ℕ) (family : List Member) (n : ℕ) (m : Member) → IsShape fs → v ≤ 128 → All (IsSize v) ks → All (λ (m : Member). IsBlock v ks m.block) family
    → n < length family → m ≡ get_or family n m → length (spaced (member_tokens fs m)) < 1024
member_short fs v ks family n m is few sizes all l e =
    block_line_short fs (kind_text m.kind) v ks m.block is few (kind_short m.kind) (each_from (IsSize v) ks sizes) (subst (λ (m : Member). IsBlock v ks m.block) (sym e) (all n m l))
