use Rattle.std.proofs.Common.{◌≡◌, ℕ, true}
use Rattle.df_lists.specs.Membership.{In}
use Rattle.df_lists.specs.NumberSets.{has_member, IsSet}
use Rattle.df_maps.specs.Products.{products, products_within}
use Rattle.df_maps.proofs.products.reached.Given as goal

-- the products of as many multipliers as there were passes are members, and only products are
abbrev pub invariant-loop-pass : goal.invariant-loop-pass
invariant-loop-pass l = record {
  set : IsSet 128 l.reached;
  all : (r : ℕ) → In (products_within l.exponent l.mults l.pass) r → has_member l.reached r ≡ true;
  only : (r : ℕ) → has_member l.reached r ≡ true → In (products l.exponent l.mults) r;
}
