use Rattle.std.proofs.Common.{arith, ap, subst, ◌∙◌, ◌*◌, ◌%◌, ◌^◌, bit_or}
use Rattle.std.proofs.lemmas.Nat.{or_lt}
use Rattle.std.proofs.Math.Nat.{mod-lt}
use Rattle.df_lists.specs.NumberSets.{with_member, IsSet}
use Rattle.df_lists.proofs.BitLaws.{members_put}
use Rattle.df_sets.proofs.MemberBits.{members_set}
use Rattle.df_sets.proofs.number_set.NumberSet.insert.Goals as goal

pub invariant_of-self : goal.invariant_of-self
invariant_of-self c =
    or_lt 128 c.self.inside.bits (1 * 2 ^ c.args.n % 2 ^ 128) c.self.invariant (mod-lt (1 * 2 ^ c.args.n) (omega arith))

pub returns : goal.returns
returns c = record {
  list = members_put c.self.inside.bits c.args.n c.requires ∙ ap (with_member c.args.n) c.self.view_is;
  set = members_set (bit_or c.self.inside.bits (1 * 2 ^ c.args.n % 2 ^ 128));
  before = subst (IsSet 128) c.self.view_is (members_set c.self.inside.bits);
}
