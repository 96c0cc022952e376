use Rattle.std.proofs.Common.{◌≡◌, ◌*◌, ◌%◌, ◌||◌, ℕ, take, eqb}
use Rattle.std.specs.List.{list_any}
use Rattle.df_lists.specs.NumberSets.{has_member, IsSet}
use Rattle.df_maps.proofs.products.multiply_one.Given as goal

-- a member was one, or is made by one of the multipliers so far
abbrev pub invariant-loop-m : goal.invariant-loop-m
invariant-loop-m l = record {
  set : IsSet 128 l.reached;
  members : (j : ℕ) → has_member l.reached j ≡ (has_member l.fn.reached j || list_any (λ m. eqb ((m * l.residue) % l.exponent) j) (take l.m-index l.mults));
}
