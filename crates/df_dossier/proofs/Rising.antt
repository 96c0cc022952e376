-- Points that increase, and one more after them.
use Rattle.std.proofs.Common.{◌≡◌, ℕ, ◌+◌, ◌<◌, ◌≤◌, Bool, true, false, ◌&&◌, eqb, ltb, leb, List, [], ◌∷◌, ◌++◌, refl, ap, ◌∙◌, arith, tests}
use Rattle.std.proofs.Math.Bool.{and-false}
use Rattle.std.proofs.lemmas.Bool.{and_parts}
use Rattle.df_lists.specs.NumberSets.{with_member, Rises}
use Rattle.df_dossier.specs.Designs.{rises_from}
use Rattle.df_dossier.specs.DesignSteps.{least_after}

-- both lists rise, the second from the least number that may follow the first
pub rises_both : (low : ℕ) (ps qs : List ℕ) → rises_from low (ps ++ qs) ≡ (rises_from low ps && rises_from (least_after low ps) qs)
rises_both low [] qs = refl
rises_both low (p ∷ ps) qs = ap (λ b. leb low p && b) (rises_both (p + 1) ps qs) ∙ and_and (leb low p) (rises_from (p + 1) ps) (rises_from (least_after (p + 1) ps) qs) where
  and_and : (a b c : Bool) → (a && (b && c)) ≡ ((a && b) && c)
  and_and true b c = refl
  and_and false b c = refl

pub least_both : (low : ℕ) (ps qs : List ℕ) → least_after low (ps ++ qs) ≡ least_after (least_after low ps) qs
least_both low [] qs = refl
least_both low (p ∷ ps) qs = least_both (p + 1) ps qs

least_high : (low : ℕ) (ps : List ℕ) → rises_from low ps ≡ true → low ≤ least_after low ps
least_high low [] rises = omega arith
least_high low (p ∷ ps) rises =
    let parts = and_parts (leb low p) (rises_from (p + 1) ps) rises in
    let here : low ≤ p = grind (arith, tests, parts.0) in
    omega (arith, here, least_high (p + 1) ps parts.1)

-- a number that may follow is put at the end
pub with_last : (low p : ℕ) (ps : List ℕ) → rises_from low ps ≡ true → least_after low ps ≤ p → with_member p ps ≡ ps ++ p ∷ []
with_last low p [] rises high = refl
with_last low p (q ∷ qs) rises high =
    let parts = and_parts (leb low q) (rises_from (q + 1) qs) rises in
    let above : q + 1 ≤ least_after (q + 1) qs = least_high (q + 1) qs parts.1 in
    let less : ltb p q ≡ false = grind (arith, tests, above, high) in
    let differs : eqb p q ≡ false = grind (arith, tests, above, high) in
    rw (less, differs) (ap (λ l. q ∷ l) (with_last (q + 1) p qs parts.1 high))

-- a set rises
pub set_rises : (low v : ℕ) (ps : List ℕ) → Rises low v ps → rises_from low ps ≡ true
set_rises low v [] rises = refl
set_rises low v (p ∷ ps) rises =
    let above = rises.0 in
    let here : leb low p ≡ true = grind (arith, tests, above) in
    rw here (set_rises (p + 1) v ps rises.2)

-- a number that may follow goes on from points that rise
pub follows_rises : (p : ℕ) (points : List ℕ) → rises_from 0 points ≡ true → least_after 0 points ≤ p → rises_from 0 (points ++ p ∷ []) ≡ true
follows_rises p points rises high =
    let after : leb (least_after 0 points) p ≡ true = grind (arith, tests, high) in
    rises_both 0 points (p ∷ []) ∙ rw (rises, after) refl

-- and one that may not is no point more
pub low_falls : (p : ℕ) (points : List ℕ) → p < least_after 0 points → rises_from 0 (points ++ p ∷ []) ≡ false
low_falls p points low =
    let before : leb (least_after 0 points) p ≡ false = grind (arith, tests, low) in
    rises_both 0 points (p ∷ []) ∙ ap (λ b. rises_from 0 points && (b && true)) before ∙ and-false (rises_from 0 points)

-- the set of the points with one more
pub added_rises : (p : ℕ) (points : List ℕ) → rises_from 0 points ≡ true → least_after 0 points ≤ p → rises_from 0 (with_member p points) ≡ true
added_rises p points rises high = ap (rises_from 0) (with_last 0 p points rises high) ∙ follows_rises p points rises high

pub added_least : (p : ℕ) (points : List ℕ) → rises_from 0 points ≡ true → least_after 0 points ≤ p → least_after 0 (with_member p points) ≡ p + 1
added_least p points rises high = ap (least_after 0) (with_last 0 p points rises high) ∙ least_both 0 points (p ∷ [])
