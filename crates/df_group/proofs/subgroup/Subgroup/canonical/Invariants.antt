use Rattle.std.proofs.Common.{◌≡◌, ◌-◌, filter}
use Rattle.std.specs.List.{range_with_len}
use Rattle.df_lists.specs.NumberSets.{has_member}
use Rattle.df_group.specs.Elements.{order_of}
use Rattle.df_group.specs.Subgroups.{generated, canonical_from, canonical_of}
use Rattle.df_group.proofs.CanonicalLaws.{AreTaken}
use Rattle.df_group.proofs.subgroup.Subgroup.canonical.Given as goal

abbrev pub invariant-loop-number : goal.invariant-loop-number
invariant-loop-number l = record {
  rest : canonical_from l.shape l.generators.items (filter (has_member l.self) (range_with_len l.number (order_of l.shape - l.number))) ≡ canonical_of l.shape l.self;
  same : l.generated ≡ generated l.shape l.generators.items;
  taken : AreTaken l.shape l.generators.items;
}
