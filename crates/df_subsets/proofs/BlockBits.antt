-- The bits of blocks that are runs of points, or joined of two.
use Rattle.std.proofs.Common.{◌≡◌, ℕ, suc, zero, ◌+◌, ◌-◌, ◌^◌, ◌<◌, ◌≤◌, ◌++◌, List, [], ◌∷◌, refl, add-one, ap, ◌∙◌, arith, ne_eqb, le-ltb}
use Rattle.std.specs.List.{range_with_len}
use Rattle.std.proofs.lemmas.List.Sums.{sum_by-cons, sum_by-append}
use Rattle.std.proofs.Math.Nat.{two-pow-succ}
use Rattle.df_lists.specs.NumberSets.{with_member, Rises}
use Rattle.df_lists.specs.Bits.{weight}
use Rattle.df_lists.proofs.RisingLists.{Rises-wider}

-- a point that is after all of a block is put at its end
pub with_last : (low p : ℕ) (b : List ℕ) → Rises low p b → with_member p b ≡ b ++ p ∷ []
with_last low p [] r = refl
with_last low p (q ∷ b) r = rw (le-ltb p q (omega (arith, r.1)), ne_eqb p q (λ e. absurd (omega (arith, e, r.1)))) (ap (λ l. q ∷ l) (with_last (q + 1) p b r.2))

-- the weight of a run
pub weight_run : (a t : ℕ) → weight (range_with_len a t) + 2 ^ a ≡ 2 ^ (a + t)
weight_run a zero = let same : 2 ^ (a + 0) ≡ 2 ^ a = ap (λ n. 2 ^ n) {x = a + 0} {y = a} (omega arith) in omega (arith, same)
weight_run a (suc t) =
    let ih = weight_run (a + 1) t in
    let twice : 2 ^ (a + 1) ≡ 2 ^ a + 2 ^ a = ap (λ n. 2 ^ n) (omega arith) ∙ two-pow-succ a in
    let same : 2 ^ (a + 1 + t) ≡ 2 ^ (a + suc t) = ap (λ n. 2 ^ n) (omega arith) in
    omega (arith, ih, twice, same, sum_by-cons (λ i. 2 ^ i) a (range_with_len (a + 1) t))

-- a run that begins one point lower
pub run_more : (v t : ℕ) → t < v → weight (range_with_len (v - (t + 1)) (t + 1)) ≡ 2 ^ (v - 1 - t) + weight (range_with_len (v - t) t)
run_more v t h =
    ap (λ n. weight (range_with_len (v - (t + 1)) n)) (add-one t)
    ∙ sum_by-cons (λ i. 2 ^ i) (v - (t + 1)) (range_with_len (v - (t + 1) + 1) t)
    ∙ ap (λ a. 2 ^ a + weight (range_with_len (v - (t + 1) + 1) t)) {x = v - (t + 1)} {y = v - 1 - t} (omega arith)
    ∙ ap (λ b. 2 ^ (v - 1 - t) + weight (range_with_len b t)) {x = v - (t + 1) + 1} {y = v - t} (omega arith)

pub weight-append : (a b : List ℕ) → weight (a ++ b) ≡ weight a + weight b
weight-append a b = sum_by-append (λ i. 2 ^ i) a b

-- runs and joined blocks rise
pub run_rises : (a t v : ℕ) → a + t ≤ v → Rises a v (range_with_len a t)
run_rises a zero v h = tt
run_rises a (suc t) v h = (omega arith, omega arith, run_rises (a + 1) t v (omega arith))

pub Rises-append : (low m v : ℕ) (a b : List ℕ) → low ≤ m → m ≤ v → Rises low m a → Rises m v b → Rises low v (a ++ b)
Rises-append low m v [] b h k r s = Rises-wider low m v v b h (omega arith) s
Rises-append low m v (p ∷ a) b h k r s = (r.0, omega (arith, r.1), Rises-append (p + 1) m v a b (omega (arith, r.1)) k r.2 s)
