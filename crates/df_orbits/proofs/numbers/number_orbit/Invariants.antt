use Rattle.std.proofs.Common.{◌≡◌, ◌<◌, ◌+◌, ◌*◌, ℕ, cond, ◌∷◌, [], length, get_or}
use Rattle.std.specs.List.{list_any, range_with_len}
use Rattle.df_subsets.specs.Subsets.{same_list}
use Rattle.df_maps.specs.FullMaps.{point_count, image, map_number}
use Rattle.df_orbits.proofs.numbers.number_orbit.Given as goal

-- the images so far have the number, and the other pairs what they had
abbrev pub invariant-loop-i : goal.invariant-loop-i
invariant-loop-i l = record {
  long : length l.numbers ≡ length l.fn.numbers;
  written : (p q : ℕ) → p < q → q < point_count l.images → get_or l.numbers (p * point_count l.images + q) 0
      ≡ cond (list_any (λ j. same_list (image l.images (map_number l.images j) l.pair) (p ∷ q ∷ [])) (range_with_len 0 l.i)) l.number (get_or l.fn.numbers (p * point_count l.images + q) 0);
}
