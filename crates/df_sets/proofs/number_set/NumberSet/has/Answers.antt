use Rattle.std.proofs.Common.{sym, ap, subst, ◌∙◌, nat_eq, le-ltb}
use Rattle.std.proofs.lemmas.Nat.Bits.{shr_and_one}
use Rattle.df_lists.specs.NumberSets.{has_member, Rises}
use Rattle.df_lists.proofs.RisingLists.{none_above}
use Rattle.df_lists.proofs.BitLaws.{has_members}
use Rattle.df_sets.proofs.MemberBits.{members_rise}
use Rattle.df_sets.proofs.number_set.NumberSet.has.Goals as goal

pub returns-then-n-lt128 : goal.returns-then-n-lt128
returns-then-n-lt128 c =
    ap (λ v. nat_eq v 1) (shr_and_one c.self.inside.bits c.args.n)
    ∙ sym (has_members c.self.inside.bits c.args.n c.if-n-lt128.true)
    ∙ ap (λ l. has_member l c.args.n) c.self.view_is

pub returns-else-n-lt128 : goal.returns-else-n-lt128
returns-else-n-lt128 c =
    le-ltb c.args.n 128 c.if-n-lt128.false
    ∙ sym (none_above 0 128 c.args.self.now c.args.n (subst (Rises 0 128) c.self.view_is (members_rise c.self.inside.bits)) c.if-n-lt128.false)
