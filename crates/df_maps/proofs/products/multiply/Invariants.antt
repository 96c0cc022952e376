use Rattle.std.proofs.Common.{◌≡◌, ◌*◌, ◌%◌, ◌<◌, ℕ, true}
use Rattle.df_lists.specs.NumberSets.{has_member, IsSet}
use Rattle.df_lists.specs.Membership.{In}
use Rattle.df_maps.specs.Products.{products}
use Rattle.df_maps.proofs.products.multiply.Given as goal

abbrev pub invariant-loop-r : goal.invariant-loop-r
invariant-loop-r l = record {
  set : IsSet 128 l.reached;
  stay : (r : ℕ) → has_member l.fn.reached r ≡ true → has_member l.reached r ≡ true;
  more : (m r : ℕ) → In l.mults m → r < l.r → has_member l.fn.reached r ≡ true → has_member l.reached ((m * r) % l.exponent) ≡ true;
  only : (r : ℕ) → has_member l.reached r ≡ true → In (products l.exponent l.mults) r;
}
