use Rattle.std.proofs.Common.{ap, subst, sym, ◌∙◌, arith}
use Rattle.std.specs.Int.RustNames.{count_ones}
use Rattle.df_lists.specs.NumberSets.{IsSet, Rises}
use Rattle.df_lists.proofs.RisingLists.{length_fits}
use Rattle.df_lists.proofs.BitLaws.{weight_view}
use Rattle.df_sets.proofs.MemberBits.{members_rise, members_set, ones_weight}
use Rattle.df_sets.proofs.number_set.NumberSet.len.Goals as goal

pub returns : goal.returns
returns c =
    let rises = subst (Rises 0 128) c.self.view_is (members_rise c.self.inside.bits) in
    let long = ap count_ones (sym (weight_view c.self.inside.bits c.args.self.now c.self.view_is c.self.invariant)) ∙ ones_weight 0 128 c.args.self.now rises in
    record {
      length = long;
      high = omega (arith, long, length_fits 0 128 c.args.self.now (omega arith) rises);
      set = subst (IsSet 128) c.self.view_is (members_set c.self.inside.bits);
    }
