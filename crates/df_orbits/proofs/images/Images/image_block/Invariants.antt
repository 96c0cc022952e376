use Rattle.std.proofs.Common.{◌≡◌, ℕ, eqb, take}
use Rattle.std.specs.List.{list_any}
use Rattle.df_lists.specs.NumberSets.{has_member, IsSet}
use Rattle.df_maps.specs.FullMaps.{point_count, carried, map_number}
use Rattle.df_orbits.proofs.images.Images.image_block.Given as goal

-- the image has the images of the points so far, and no others
abbrev pub invariant-loop-p : goal.invariant-loop-p
invariant-loop-p l = record {
  block : IsSet (point_count l.self) l.image;
  has : (q : ℕ) → has_member l.image q ≡ list_any (λ p. eqb (carried l.self (map_number l.self l.i) p) q) (take l.p-index l.points);
}
