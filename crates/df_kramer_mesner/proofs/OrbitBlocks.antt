-- The blocks of orbits, and the pairs of rows.
use Rattle.std.proofs.Common.{◌≡◌, ℕ, ◌≤◌, List, [], ◌∷◌, length, refl, sym, subst, arith}
use Rattle.df_lists.specs.Membership.{In}
use Rattle.df_lists.proofs.MemberLaws.{In-filter_gives}
use Rattle.df_lists.proofs.TestLaws.{has_from}
use Rattle.df_lists.proofs.ListPlaces.{all_members}
use Rattle.df_lists.specs.NumberSets.{Rises}
use Rattle.df_subsets.specs.Blocks.{before}
use Rattle.df_lists.specs.NumberSets.{IsSet}
use Rattle.df_subsets.specs.SetLaws.{AreSets}
use Rattle.df_subsets.specs.SubsetLaws.{SubsetsAreAll, CandidatesAreAll}
use Rattle.df_acting.specs.Representatives.{is_representative}
use Rattle.df_maps.specs.FullMaps.{full_maps, image}
use Rattle.df_lang.specs.Problems.{Stated, IsStated, IsSize, IsBlock, point_count}
use Rattle.df_kramer_mesner.specs.OrbitSystems.{maps_of_problem, all_pairs, all_blocks, pairs_of, orbits_of}
use Rattle.df_kramer_mesner.specs.Laws.{IsPair}

-- what a block of all is: a block of one of the stated sizes
pub record IsSized (s : Stated) (b : List ℕ) : Type 0 where
  pub block : IsSet (point_count s) b
  pub size : In s.sizes (length b)
  pub low : 2 ≤ length b
  pub high : length b ≤ 16

pub block_sized : SubsetsAreAll → CandidatesAreAll → (s : Stated) → IsStated s → (b : List ℕ) → In (all_blocks s) b → IsSized s b
block_sized all some s is b i =
    let k = (some (point_count s) s.sizes).inside b i in
    let r = (all (point_count s) k.0).inside b k.2 in
    let size = subst (In s.sizes) (sym r.1) k.1 in
    let sized = all_members (IsSize (point_count s)) s.sizes is.sizes (length b) size in
    record { block = r.0; size = size; low = sized.low; high = sized.high }

pub orbit_block : (s : Stated) (b : List ℕ) → In (orbits_of s) b → In (all_blocks s) b
orbit_block s b i = (In-filter_gives (is_representative before (image (maps_of_problem s)) (full_maps (maps_of_problem s))) (all_blocks s) b i).0

pub row_pair : (s : Stated) (pair : List ℕ) → In (pairs_of s) pair → In (all_pairs s) pair
row_pair s pair i = (In-filter_gives (is_representative before (image (maps_of_problem s)) (full_maps (maps_of_problem s))) (all_pairs s) pair i).0

pub stated_block : AreSets → (s : Stated) (b : List ℕ) → IsSized s b → IsBlock (point_count s) s.sizes b
stated_block sets s b sized = record { set = sized.block; size = has_from s.sizes (length b) sized.size }

-- the pair of the first two points
pub first_two : (v p q : ℕ) (b : List ℕ) → Rises 0 v (p ∷ q ∷ b) → Rises 0 v (p ∷ q ∷ [])
first_two v p q b (low, within, (next, below, more)) = (low, within, (next, below, tt))

pub pair_points : (v : ℕ) (pair : List ℕ) → IsSet v pair → length pair ≡ 2 → IsPair v pair
pair_points v [] r e = absurd (omega (arith, e))
pair_points v (p ∷ []) r e = absurd (omega (arith, e))
pair_points v (p ∷ q ∷ o ∷ rest) r e = absurd (omega (arith, e))
pair_points v (p ∷ q ∷ []) (low, within, (next, below, more)) e = record { points = refl; order = omega (arith, next); within = below }
