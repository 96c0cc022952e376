-- Printed names and subgroup names, read back.
use Rattle.std.proofs.Common.{◌≡◌, ℕ, zero, suc, ◌<◌, Bool, true, false, ltb, ◌||◌, List, [], ◌∷◌, length, map, get_or, Some, None, Ok, codes, bytes_eq, refl, sym, ap, arith, tests}
use Rattle.std.specs.List.{position_or_len}
use Rattle.std.proofs.lemmas.Slice.Eq.{bytes_eq-Decides}
use Rattle.df_io.specs.Joined.{Each}
use Rattle.df_group.specs.Elements.{IsShape}
use Rattle.df_group.specs.Subgroups.{canonical_of}
use Rattle.df_group.proofs.SubgroupLaws.{are_subgroups}
use Rattle.df_lang.specs.declared.pieces.Which.{Which}
use Rattle.df_lang.specs.declared.pieces.Which.TheVariants as which
use Rattle.df_lang.specs.Names.{is_name, is_reserved}
use Rattle.df_lang.specs.Problems.{Named, IsNamed, IsSubgroupName, DifferInName}
use Rattle.df_lang.specs.Values.{place_of, name_of, subgroup_of, which_of}
use Rattle.df_lang.specs.Canonical.{element_text, which_text}
use Rattle.df_lang.proofs.InOrder.{InOrder}
use Rattle.df_lang.proofs.GeneratorsBelow.{canonical_each}
use Rattle.df_lang.proofs.PointsBack.{elements_back}

same_bytes : (xs : List ℕ) → bytes_eq xs xs ≡ true
same_bytes xs = (bytes_eq-Decides xs xs).1 refl

other_bytes : (xs ys : List ℕ) → (xs ≡ ys → ⊥) → bytes_eq xs ys ≡ false
other_bytes xs ys differ = by (bytes_eq xs ys) refl where
  by : (v : Bool) → bytes_eq xs ys ≡ v → v ≡ false
  by true e = absurd (differ ((bytes_eq-Decides xs ys).0 e))
  by false e = refl

-- no subgroup above has the name
past_all : (token : List ℕ) (names : List Named) → Each (λ (n : Named). n.0 ≡ token → ⊥) names → position_or_len (λ (n : Named). bytes_eq token n.0) names ≡ length names
past_all token [] differ = refl
past_all token (n ∷ ns) differ =
    let other = other_bytes token n.0 (λ e. differ.0 (sym e)) in
    let ih = past_all token ns differ.1 in
    rw (other, ih) (omega arith)

pub no_place : (token : List ℕ) (names : List Named) → Each (λ (n : Named). n.0 ≡ token → ⊥) names → place_of names token ≡ None
no_place token names differ =
    let end = past_all token names differ in
    let past : ltb (position_or_len (λ (n : Named). bytes_eq token n.0) names) (length names) ≡ false = grind (arith, tests, end) in
    rw past refl

pub name_back : (names : List Named) (token : List ℕ) → is_name token ≡ true → is_reserved token ≡ false → Each (λ (n : Named). n.0 ≡ token → ⊥) names → name_of names token ≡ Ok token
unfolding name_of
name_back names token is free differ = rw (is, free, no_place token names differ) refl

-- a name and the canonical generators of its subgroup
pub subgroup_back : (fs : List ℕ) (names : List Named) (n : Named) → IsShape fs → IsNamed fs n → Each (λ (m : Named). m.0 ≡ n.0 → ⊥) names
    → subgroup_of fs names (n.0 ∷ map (element_text fs) (canonical_of fs n.1)) ≡ Ok n
unfolding subgroup_of
subgroup_back fs names n is named differ =
    let same = (are_subgroups fs is).canonical n.1 named.subgroup in
    rw (name_back names n.0 named.name named.free differ, elements_back fs [] (canonical_of fs n.1) is (canonical_each fs n.1 is named.subgroup)) (ap (λ (l : List ℕ). Ok (n.0, l)) same)

-- the place of a name
at_place : (names : List Named) (i : ℕ) → i < length names → InOrder DifferInName names → position_or_len (λ (n : Named). bytes_eq (get_or names i ([], [])).0 n.0) names ≡ i
at_place [] i h order = absurd (omega arith)
at_place (n ∷ ns) zero h order = rw (same_bytes n.0) refl
at_place (n ∷ ns) (suc i) h order =
    let other = other_bytes (get_or ns i ([], [])).0 n.0 (λ e. differs ns i h order.0 (sym e)) in
    let ih = at_place ns i (omega arith) order.1 in
    rw (other, ih) (omega arith)
  where
    differs : (ms : List Named) (i : ℕ) → suc i < suc (length ms) → Each (DifferInName n) ms → n.0 ≡ (get_or ms i ([], [])).0 → ⊥
    differs [] i h each = absurd (omega arith)
    differs (m ∷ ms) zero h each = each.0
    differs (m ∷ ms) (suc i) h each = differs ms i (omega arith) each.1

place_back : (names : List Named) (i : ℕ) → i < length names → InOrder DifferInName names → place_of names (get_or names i ([], [])).0 ≡ Some i
place_back names i h order =
    let place = at_place names i h order in
    let within : ltb i (length names) ≡ true = grind (arith, tests) in
    rw (place, within) refl

free_at : (fs : List ℕ) (names : List Named) (i : ℕ) → i < length names → Each (IsNamed fs) names → is_reserved (get_or names i ([], [])).0 ≡ false
free_at fs [] i h each = absurd (omega arith)
free_at fs (n ∷ ns) zero h each = each.0.free
free_at fs (n ∷ ns) (suc i) h each = free_at fs ns i (omega arith) each.1

neither : (a b : Bool) → (a || b) ≡ false → (a ≡ false) × (b ≡ false)
neither true b e = absurd cc
neither false true e = absurd cc
neither false false e = (refl, refl)

-- a subgroup name
pub which_back : (fs : List ℕ) (names : List Named) (w : Which) → Each (IsNamed fs) names → InOrder DifferInName names → IsSubgroupName names w → which_of names (which_text names w) ≡ Ok w
unfolding which_of
which_back fs names which.All each order is = refl
which_back fs names which.Trivial each order is = refl
which_back fs names (which.Named i) each order is =
    let token = (get_or names i ([], [])).0 in
    let free = neither (bytes_eq token (codes "all")) (bytes_eq token (codes "none")) (free_at fs names i is each) in
    rw (free.0, free.1, place_back names i is order) refl
