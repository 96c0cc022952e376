-- How long printed texts are.
use Rattle.std.proofs.Common.{◌≡◌, ℕ, ◌+◌, ◌-◌, ◌*◌, ◌/◌, ◌%◌, ◌<◌, ◌≤◌, suc, true, false, ltb, List, [], ◌∷◌, length, map, All, decimal, refl, ap, arith, tests, length-append, mod-lt, inl, inr}
use Rattle.std.specs.List.{join_with_byte}
use Rattle.std.proofs.lemmas.Bool.{cases_lt}
use Rattle.std.proofs.lemmas.Fmt.{length-decimal-le}
use Rattle.std.proofs.lemmas.List.{length-map}
use Rattle.df_io.specs.Joined.{Each}
use Rattle.df_group.specs.Elements.{order_of, residues, IsFactor, IsShape}
use Rattle.df_lang.specs.Canonical.{element_text, point_text, block_text, fixed_text}
use Rattle.df_lang.specs.Separated.{each_after}
use Rattle.df_lang.proofs.EachAfter.{join_after}

-- at most this number of bytes
abbrev pub IsShort : ℕ → List ℕ → Type 0
IsShort n text = length text ≤ n

pub after_short : (c n : ℕ) (texts : List (List ℕ)) → Each (IsShort n) texts → length (each_after c texts) ≤ length texts * (n + 1)
after_short c n [] each = omega arith
after_short c n (t ∷ ts) each = omega (arith, after_short c n ts each.1, length-append t (each_after c ts), each.0)

pub join_short : (c n : ℕ) (texts : List (List ℕ)) → Each (IsShort n) texts → length (join_with_byte c texts) ≤ length texts * (n + 1)
join_short c n [] each = omega arith
join_short c n (t ∷ ts) each = omega (arith, ap length (join_after c t ts), length-append t (each_after c ts), after_short c n ts each.1, each.0)

-- numbers below 1,000
pub number_short : (n : ℕ) → n < 1000 → IsShort 3 (decimal n)
number_short n h = length-decimal-le 3 n (omega arith) h (omega (arith, h))

pub numbers_short : (ns : List ℕ) → Each (λ n. n < 1000) ns → Each (IsShort 3) (map decimal ns)
numbers_short [] each = tt
numbers_short (n ∷ ns) each = (number_short n each.0, numbers_short ns each.1)

pub residues_small : (fs : List ℕ) (e : ℕ) → All IsFactor fs → Each (λ n. n < 1000) (residues fs e)
residues_small [] e each = tt
residues_small (f ∷ fs) e each =
    let is = each 0 0 (omega arith) in
    let below : (e / order_of fs) % f < f = mod-lt (e / order_of fs) (omega (arith, is.0)) in
    (omega (arith, below, is.1), residues_small fs (e % order_of fs) (λ k d h. each (suc k) d (omega (arith, h))))

pub residues_length : (fs : List ℕ) (e : ℕ) → length (residues fs e) ≡ length fs
residues_length [] e = refl
residues_length (f ∷ fs) e = ap suc (residues_length fs (e % order_of fs))

pub element_short : (fs : List ℕ) (e : ℕ) → IsShape fs → IsShort 28 (element_text fs e)
unfolding element_text
element_short fs e is =
    let texts = numbers_short (residues fs e) (residues_small fs e is.factors) in
    omega (arith, join_short 44 3 (map decimal (residues fs e)) texts, length-map (residues fs e) decimal, residues_length fs e, is.few)

fixed_short : (i : ℕ) → i < 256 → IsShort 28 (fixed_text i)
unfolding fixed_text
fixed_short i h = omega (arith, number_short (i + 1) (omega arith))

pub point_short : (fs : List ℕ) (p : ℕ) → IsShape fs → p < 256 → IsShort 28 (point_text fs p)
point_short fs p is h =
    elim (cases_lt p (order_of fs)) [
      | inl l ↦ let less : ltb p (order_of fs) ≡ true = grind (arith, tests) in rw less (element_short fs p is)
      | inr r ↦ let past : ltb p (order_of fs) ≡ false = grind (arith, tests) in rw past (fixed_short (p - order_of fs) (omega arith))
    ]

pub points_short : (fs ps : List ℕ) → IsShape fs → Each (λ p. p < 256) ps → Each (IsShort 28) (map (point_text fs) ps)
points_short fs [] is each = tt
points_short fs (p ∷ ps) is each = (point_short fs p is each.0, points_short fs ps is each.1)

pub block_short : (fs block : List ℕ) → IsShape fs → Each (λ p. p < 256) block → IsShort (29 * length block) (block_text fs block)
block_short fs block is each = omega (arith, join_short 32 28 (map (point_text fs) block) (points_short fs block is each), length-map block (point_text fs))
