use Rattle.std.proofs.Common.{◌≡◌, ℕ, eqb, take}
use Rattle.std.specs.List.{list_any}
use Rattle.df_lists.specs.NumberSets.{has_member, IsSet}
use Rattle.df_maps.specs.FullMaps.{point_count, carried}
use Rattle.df_maps.proofs.maps.Maps.image_block.Given as goal

abbrev pub invariant-loop-p : goal.invariant-loop-p
invariant-loop-p l = record {
  block : IsSet (point_count l.self) l.image;
  has : (q : ℕ) → has_member l.image q ≡ list_any (λ p. eqb (carried l.self (l.m, l.h) p) q) (take l.p-index l.p-items);
}
