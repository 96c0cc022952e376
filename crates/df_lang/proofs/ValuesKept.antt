-- What the tokens of a line say keeps the rules.
use Rattle.std.proofs.Common.{◌≡◌, ℕ, ◌+◌, ◌*◌, ◌%◌, ◌<◌, ◌≤◌, Bool, true, false, eqb, nat_lt, List, [], ◌∷◌, ◌++◌, length, get_or, All, Ok, refl, sym, ap, ◌∙◌, arith, tests, subst, true≢false, if◌then◌else◌, zero, suc, mod-lt, eq-eqb}
use Rattle.std.proofs.lemmas.List.{length_push}
use Rattle.std.proofs.lemmas.List.Elements.{All-push}
use Rattle.std.proofs.lemmas.Map.Keys.{apart_from_distinct}
use Rattle.df_lists.specs.NumberSets.{has_member, with_member, Rises}
use Rattle.df_group.specs.Elements.{order_of, IsFactor, IsShape}
use Rattle.df_group.specs.Subgroups.{exponent_of, is_unit}
use Rattle.df_group.proofs.UnitLaws.{unit_reduced}
use Rattle.df_lists.proofs.RisingLists.{Rises-more, Rises-wider}
use Rattle.df_lang.specs.declared.fault.SourceFault.TheVariants.{BadWord, NotUnit, GroupRange, SizeRange}
use Rattle.df_lang.specs.Rules.{◌>>=◌, must, end, number_of, number_in}
use Rattle.df_lang.specs.Values.{fits, factors_from, kept_once, mults_from, sizes_from, sizes_read}
use Rattle.df_lang.specs.DraftRules.{MultsKept, SizesKept}
use Rattle.df_lang.proofs.Factors.{order_push}
use Rattle.df_lang.proofs.KeptOnce.{AreApart, apart_none, apart_more}
use Rattle.df_lang.proofs.RulesKept.{bind_kept, must_kept, next_kept, end_kept, number_kept}

-- factors
fits_kept : (factors : List ℕ) (f : ℕ) → fits factors f ≡ true → (2 ≤ f) × (f ≤ 128) × (length factors < 7) × (order_of factors * f ≤ 128)
fits_kept factors f h = (grind (arith, tests), grind (arith, tests), grind (arith, tests), grind (arith, tests))

pub factors_kept : (kept : List ℕ) (tokens : List (List ℕ)) (fs : List ℕ) → length kept ≤ 7 → All IsFactor kept → order_of kept ≤ 128 → factors_from kept tokens ≡ Ok fs → IsShape fs
unfolding factors_from
factors_kept kept [] fs few each small h =
    let is = must_kept (nat_lt 0 (length kept)) BadWord kept fs h in
    let some : 0 < length kept = let t = is.0 in grind (arith, tests) in
    subst IsShape is.1 record { some = some; few = few; factors = each; small = small }
factors_kept kept (token ∷ tokens) fs few each small h =
    let n = bind_kept (number_of token) (λ f. must (fits kept f) GroupRange (kept ++ f ∷ []) >>= λ more. factors_from more tokens) fs h in
    let m = bind_kept (must (fits kept n.0) GroupRange (kept ++ n.0 ∷ [])) (λ more. factors_from more tokens) fs n.2 in
    let is = must_kept (fits kept n.0) GroupRange (kept ++ n.0 ∷ []) m.0 m.1 in
    let fit = fits_kept kept n.0 is.0 in
    factors_kept (kept ++ n.0 ∷ []) tokens fs (omega (arith, fit.2, length_push kept n.0)) (All-push IsFactor kept n.0 each (fit.0, fit.1)) (omega (arith, fit.3, order_push kept n.0))
    (ap (λ l. factors_from l tokens) is.1 ∙ m.2)

-- multipliers
record AreUnits (e : ℕ) (ms : List ℕ) : Type 0 where
  pub apart : AreApart e ms
  pub units : All (λ m. is_unit e m ≡ true) ms
  pub below : All (λ m. m < e) ms

units_kept_once : (e m : ℕ) (ms : List ℕ) (b : Bool) → has_member ms m ≡ b → AreUnits e ms → m < e → is_unit e m ≡ true → AreUnits e (if b then ms else ms ++ m ∷ [])
units_kept_once e m ms true has are low unit = are
units_kept_once e m ms false has are low unit =
    record { apart = apart_more e m ms are.apart has low; units = All-push (λ m. is_unit e m ≡ true) ms m are.units unit; below = All-push (λ m. m < e) ms m are.below low }

units_kept : (e : ℕ) (ms : List ℕ) (tokens : List (List ℕ)) (out : List ℕ) → 0 < e → AreUnits e ms → mults_from e ms tokens ≡ Ok out → AreUnits e out
unfolding mults_from
units_kept e ms [] out some are h = subst (AreUnits e) (must_kept (nat_lt 0 (length ms)) BadWord ms out h).1 are
units_kept e ms (token ∷ tokens) out some are h =
    let n = bind_kept (number_of token) (λ m. must (is_unit e m) NotUnit (kept_once ms (m % e)) >>= λ more. mults_from e more tokens) out h in
    let m = bind_kept (must (is_unit e n.0) NotUnit (kept_once ms (n.0 % e))) (λ more. mults_from e more tokens) out n.2 in
    let is = must_kept (is_unit e n.0) NotUnit (kept_once ms (n.0 % e)) m.0 m.1 in
    units_kept e (kept_once ms (n.0 % e)) tokens out some (units_kept_once e (n.0 % e) ms (has_member ms (n.0 % e)) refl are (mod-lt n.0 some) (unit_reduced e n.0 some ∙ is.0))
    (ap (λ l. mults_from e l tokens) is.1 ∙ m.2)

pub mults_kept : (fs : List ℕ) (tokens : List (List ℕ)) (ms : List ℕ) → 0 < exponent_of fs → mults_from (exponent_of fs) [] tokens ≡ Ok ms → MultsKept fs ms
mults_kept fs tokens ms some h =
    let e = exponent_of fs in
    let are = units_kept e [] tokens ms some record { apart = apart_none e; units = λ k d l. absurd (omega arith); below = λ k d l. absurd (omega arith) } h in
    record {
      each = λ k d l. record { below = are.below k d l; unit = are.units k d l };
      once = λ i j d l m same. true≢false (sym (eq-eqb (get_or ms i d) (get_or ms j d) same) ∙ apart_from_distinct eqb ms i j d are.apart.distinct l m);
    }

-- sizes
rises_each : (low v : ℕ) (b : List ℕ) → Rises low v b → (k d : ℕ) → k < length b → (low ≤ get_or b k d) × (get_or b k d < v)
rises_each low v [] rise k d h = absurd (omega arith)
rises_each low v (p ∷ b) rise zero d h = (rise.0, rise.1)
rises_each low v (p ∷ b) rise (suc k) d h =
    let ih = rises_each (p + 1) v b rise.2 k d (omega arith) in
    (omega (arith, ih.0, rise.0), ih.1)

some_with : (p : ℕ) (b : List ℕ) → 0 < length (with_member p b)
some_with p [] = omega arith
some_with p (q ∷ qs) = by (nat_lt p q) (eqb p q) where
  by : (v w : Bool) → 0 < length (if v then p ∷ q ∷ qs else (if w then q ∷ qs else q ∷ with_member p qs))
  by true w = omega arith
  by false true = omega arith
  by false false = omega arith

record AreSizes (most : ℕ) (ks : List ℕ) : Type 0 where
  pub some : 0 < length ks
  pub rise : Rises 2 (most + 1) ks

more_sizes_kept : (most : ℕ) (ks : List ℕ) (tokens : List (List ℕ)) (out : List ℕ) → AreSizes most ks → sizes_from most ks tokens ≡ Ok out → AreSizes most out
unfolding sizes_from
more_sizes_kept most ks [] out are h = let is : ks ≡ out = cc in subst (AreSizes most) is are
more_sizes_kept most ks (token ∷ tokens) out are h =
    let k = bind_kept (number_in 2 most SizeRange token) (λ k. sizes_from most (with_member k ks) tokens) out h in
    let range = number_kept 2 most SizeRange token k.0 k.1 in
    more_sizes_kept most (with_member k.0 ks) tokens out record { some = some_with k.0 ks; rise = Rises-more 2 (most + 1) k.0 ks range.0 (omega (arith, range.1)) are.rise } k.2

sizes_read_kept : (version most k : ℕ) (rest : List (List ℕ)) (out : List ℕ) (b : Bool) → eqb version 1 ≡ b → 2 ≤ k → k ≤ most
    → (if b then end rest (k ∷ []) else sizes_from most (k ∷ []) rest) ≡ Ok out → AreSizes most out × (version ≡ 1 → length out ≡ 1)
sizes_read_kept version most k rest out true first low high h =
    let is = end_kept rest (k ∷ []) out h in
    (subst (AreSizes most) is record { some = omega arith; rise = (low, omega arith, tt) }, λ _. sym (ap length is))
sizes_read_kept version most k rest out false first low high h =
    (more_sizes_kept most (k ∷ []) rest out record { some = omega arith; rise = (low, omega arith, tt) } h, λ one. absurd (true≢false (sym (eq-eqb version 1 one) ∙ first)))

pub sizes_kept : (version v most : ℕ) (tokens : List (List ℕ)) (ks : List ℕ) → most ≤ 16 → most ≤ v → sizes_read version most tokens ≡ Ok ks → SizesKept version v ks
unfolding sizes_read
sizes_kept version v most tokens ks few fit h =
    let first = next_kept tokens (λ first rest. number_in 2 most SizeRange first >>= λ k. if eqb version 1 then end rest (k ∷ []) else sizes_from most (k ∷ []) rest) ks h in
    let k = bind_kept (number_in 2 most SizeRange first.0) (λ k. if eqb version 1 then end first.1 (k ∷ []) else sizes_from most (k ∷ []) first.1) ks first.2 in
    let range = number_kept 2 most SizeRange first.0 k.0 k.1 in
    let are = sizes_read_kept version most k.0 first.1 ks (eqb version 1) refl range.0 range.1 k.2 in
    record {
      some = are.0.some;
      each = λ i d l. let e = rises_each 2 (most + 1) ks are.0.rise i d l in record { low = e.0; high = omega (arith, e.1); fits = omega (arith, e.1) };
      rise = (Rises-wider 0 2 (most + 1) 17 ks (omega arith) (omega arith) are.0.rise);
      one = are.1;
    }
