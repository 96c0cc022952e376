-- Different numbers below a bound, and the multipliers of a line.
use Rattle.std.proofs.Common.{◌≡◌, ℕ, ◌%◌, ◌<◌, ◌≤◌, Bool, true, false, eqb, ◌||◌, List, [], ◌∷◌, ◌++◌, length, Ok, Err, refl, sym, ap, ◌∙◌, subst}
use Rattle.std.specs.List.{IsDistinct, list_any}
use Rattle.std.specs.Cmp.{nat_eq_equiv}
use Rattle.std.proofs.lemmas.Bool.{eqb-true}
use Rattle.std.proofs.lemmas.Map.Keys.{IsDistinct-push}
use Rattle.std.proofs.lemmas.Map.Steps.{length-le_from_distinct_below}
use Rattle.std.proofs.lemmas.List.Folds.{list_any-append}
use Rattle.df_lists.specs.NumberSets.{has_member}
use Rattle.df_group.specs.Subgroups.{is_unit}
use Rattle.df_group.proofs.UnitLaws.{unit_reduced}
use Rattle.df_lang.specs.declared.fault.SourceFault.TheVariants.{NotUnit}
use Rattle.df_lang.specs.Rules.{number_of}
use Rattle.df_lang.specs.Values.{mults_from}

-- no two are equal, and each is below e
pub record AreApart (e : ℕ) (ms : List ℕ) : Type 0 where
  pub distinct : IsDistinct eqb ms
  pub below : (q : ℕ) → list_any (eqb q) ms ≡ true → q < e

pub apart_none : (e : ℕ) → AreApart e []
unfolding IsDistinct
apart_none e = record { distinct = tt; below = λ q h. absurd cc }

-- there are at most e of them
pub apart_few : (e : ℕ) (ms : List ℕ) → AreApart e ms → length ms ≤ e
apart_few e ms apart = length-le_from_distinct_below ms e apart.distinct apart.below

turned : (ms : List ℕ) (m : ℕ) → list_any (eqb m) ms ≡ has_member ms m
turned [] m = refl
turned (q ∷ ms) m = ap (λ v. v || list_any (eqb m) ms) (nat_eq_equiv.symm m q) ∙ ap (λ v. eqb q m || v) (turned ms m)

pub apart_more : (e m : ℕ) (ms : List ℕ) → AreApart e ms → has_member ms m ≡ false → m < e → AreApart e (ms ++ m ∷ [])
apart_more e m ms apart new low = record {
  distinct = IsDistinct-push nat_eq_equiv ms m apart.distinct (turned ms m ∙ new);
  below = λ q h. by q (list_any (eqb q) ms) (eqb q m) refl refl (sym (list_any-append (eqb q) ms (m ∷ [])) ∙ h);
}
  where
    by : (q : ℕ) (v w : Bool) → list_any (eqb q) ms ≡ v → eqb q m ≡ w → (v || (w || false)) ≡ true → q < e
    by q true w a b h = apart.below q a
    by q false true a b h = subst (λ n. n < e) (sym (eqb-true q m b)) low
    by q false false a b h = absurd cc

-- one token more, of a number n that is no unit, one that is there already, or a new one
module _ (e x n : ℕ) (ms token : List ℕ) (tokens : List (List ℕ)) (same : x ≡ e) (some : 0 < e) (is : Ok n ≡ number_of token) where
  unit_of : (b : Bool) → is_unit e (n % x) ≡ b → is_unit e n ≡ b
  unit_of b unit = sym (unit_reduced e n some) ∙ ap (λ y. is_unit e (n % y)) (sym same) ∙ unit

  pub mults_bad : is_unit e (n % x) ≡ false → mults_from e ms (token ∷ tokens) ≡ Err NotUnit
  unfolding mults_from
  mults_bad unit = rw (sym is, unit_of false unit) refl

  pub mults_old : is_unit e (n % x) ≡ true → has_member ms (n % x) ≡ true → mults_from e ms tokens ≡ mults_from e ms (token ∷ tokens)
  unfolding mults_from
  mults_old unit old =
      let has : has_member ms (n % e) ≡ true = ap (λ y. has_member ms (n % y)) (sym same) ∙ old in
      sym (rw (sym is, unit_of true unit, has) refl)

  pub mults_new : is_unit e (n % x) ≡ true → has_member ms (n % x) ≡ false → mults_from e (ms ++ (n % x) ∷ []) tokens ≡ mults_from e ms (token ∷ tokens)
  unfolding mults_from
  mults_new unit new =
      let has : has_member ms (n % e) ≡ false = ap (λ y. has_member ms (n % y)) (sym same) ∙ new in
      ap (λ y. mults_from e (ms ++ (n % y) ∷ []) tokens) same ∙ sym (rw (sym is, unit_of true unit, has) refl)
