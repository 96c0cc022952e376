-- How many pairs and blocks there are.
use Rattle.std.proofs.Common.{◌≡◌, ℕ, ◌+◌, ◌-◌, ◌*◌, ◌≤◌, Bool, true, false, cond, ◌&&◌, ◌||◌, List, [], ◌∷◌, filter, length, refl, sym, ap, ap₂, ◌∙◌, inl, inr, arith, eqb, eqb-true, mul-le-mul}
use Rattle.std.specs.List.{list_any, sum_by}
use Rattle.std.proofs.lemmas.List.Sums.{sum_by-cons}
use Rattle.df_lists.specs.Membership.{In, count}
use Rattle.df_lists.proofs.MemberLaws.{count_none}
use Rattle.df_lists.proofs.TestLaws.{any_gives}
use Rattle.df_lists.proofs.ListTotals.{count_whole}
use Rattle.df_lists.specs.NumberSets.{Rises}
use Rattle.df_subsets.specs.Blocks.{before}
use Rattle.df_subsets.specs.Subsets.{points, nonempty, candidates, binomial}
use Rattle.df_subsets.specs.SetLaws.{AreSets}
use Rattle.df_subsets.specs.SubsetLaws.{SubsetsAreAll, CandidatesAreAll}
use Rattle.df_subsets.proofs.Binomials.{binomial_turn}
use Rattle.df_subsets.proofs.SizedLists.{choose_is}
use Rattle.df_acting.specs.Representatives.{is_representative}
use Rattle.df_acting.specs.Images.{contains}
use Rattle.df_maps.specs.FullMaps.{full_maps, image}
use Rattle.df_lang.specs.Problems.{Stated, IsStated, point_count}
use Rattle.df_kramer_mesner.specs.OrbitSystems.{maps_of_problem, all_pairs, all_blocks, in_one_orbit}
use Rattle.df_kramer_mesner.specs.Laws.{AreFew}
use Rattle.df_kramer_mesner.proofs.OrbitBlocks.{block_sized, orbit_block, row_pair, stated_block, pair_points}

-- twice the pairs of n points are n times n - 1
pub pairs_most : (n top less : ℕ) → n ≤ top → n - 1 ≤ less → binomial n 2 * 2 ≤ top * less
pairs_most n top less h k =
    let one : binomial n 1 * 1 ≡ 1 * (n - 0) = binomial_turn n 0 in
    let two : binomial n 2 * 2 ≡ binomial n 1 * (n - 1) = binomial_turn n 1 in
    let points : binomial n 1 ≤ top = omega (arith, one, h) in
    let product : binomial n 1 * (n - 1) ≤ top * less = mul-le-mul points k in
    omega (arith, two, product)

-- two tests that no member passes both of
count_either : {X : Type 0} (t u : X → Bool) (xs : List X) → ((x : X) → t x ≡ true → u x ≡ true → ⊥) → count (λ x. t x || u x) xs ≡ count t xs + count u xs
count_either t u [] h = refl
count_either {X = X} t u (x ∷ xs) h = go (t x) (u x) refl refl (count_either t u xs h)
  where
    go : (b c : Bool) → t x ≡ b → u x ≡ c → count (λ x. t x || u x) xs ≡ count t xs + count u xs
        → length (cond (b || c) (x ∷ filter (λ x. t x || u x) xs) (filter (λ x. t x || u x) xs)) ≡ length (cond b (x ∷ filter t xs) (filter t xs)) + length (cond c (x ∷ filter u xs) (filter u xs))
    go true true e f rest = absurd (h x e f)
    go true false e f rest = omega (arith, rest)
    go false true e f rest = omega (arith, rest)
    go false false e f rest = omega (arith, rest)

rises_above : (low v : ℕ) (ks : List ℕ) (k : ℕ) → Rises low v ks → In ks k → low ≤ k
rises_above low v [] k r i = absurd i
rises_above low v (j ∷ ks) k r (inl e) = omega (arith, r.0, e)
rises_above low v (j ∷ ks) k r (inr i) = let l = rises_above (j + 1) v ks k r.2 i in omega (arith, r.0, l)

-- the blocks of several sizes are those of each
sizes_count : (all : SubsetsAreAll) (v low top : ℕ) (ks : List ℕ) → Rises low top ks → length (candidates v ks) ≡ sum_by (binomial v) ks
sizes_count all v low top [] r = count_none (λ b. false) ([] ∷ nonempty (points v)) (λ b i. refl)
sizes_count all v low top (k ∷ ks) r =
    count_either (λ b. eqb k (length b)) (λ b. list_any (λ j. eqb j (length b)) ks) ([] ∷ nonempty (points v)) apart
    ∙ ap₂ (λ m n. m + n) (ap length (sym (choose_is (points v) k)) ∙ (all v k).long) (sizes_count all v (k + 1) top ks r.2)
    ∙ sym (sum_by-cons (binomial v) k ks)
  where
    apart : (b : List ℕ) → eqb k (length b) ≡ true → list_any (λ j. eqb j (length b)) ks ≡ true → ⊥
    apart b h l =
        let j = any_gives (λ j. eqb j (length b)) ks l in
        let above = rises_above (k + 1) top ks j.0 r.2 j.1 in
        absurd (omega (arith, above, eqb-true j.0 (length b) j.2, eqb-true k (length b) h))

pub are_few : AreSets → SubsetsAreAll → CandidatesAreAll → (s : Stated) → IsStated s → AreFew s
are_few sets all some s is = record {
  pairs = let few = count_whole (is_representative before (image (maps_of_problem s)) (full_maps (maps_of_problem s))) (all_pairs s) in omega (arith, few, (all (point_count s) 2).long, pairs_most (point_count s) 128 127 is.points (omega (arith, is.points)));
  pair = λ pair i. let r = (all (point_count s) 2).inside pair (row_pair s pair i) in pair_points (point_count s) pair r.0 r.1;
  orbit = λ b i. stated_block sets s b (block_sized all some s is b (orbit_block s b i));
  orbit_low = λ b i. (block_sized all some s is b (orbit_block s b i)).low;
  orbit_high = λ b i. (block_sized all some s is b (orbit_block s b i)).high;
  blocks = sizes_count all (point_count s) 0 17 s.sizes is.sizes_rise;
  entry = λ b pair. count_whole (λ c. in_one_orbit s c b && contains c pair) (all_blocks s);
  size = λ b. count_whole (λ c. in_one_orbit s c b) (all_blocks s);
}
