use Rattle.std.proofs.Common.{◌-◌, ◌∷◌, ap, sym, subst, ◌∙◌, arith}
use Rattle.std.specs.Int.{w128, trailing_zeros}
use Rattle.std.proofs.lemmas.Nat.{one_shl}
use Rattle.df_lists.specs.Bits.{members}
use Rattle.df_lists.specs.NumberSets.{IsSet}
use Rattle.df_sets.proofs.MemberBits.{lowest_first, members_set, no_members}
use Rattle.df_sets.proofs.number_set.NumberSet.pop_first.Goals as goal

pub returns-then-self-eq0 : goal.returns-then-self-eq0
returns-then-self-eq0 c =
    let none = sym c.self.view_is ∙ ap members c.if-self-eq0.true ∙ no_members in
    record { first = (none, none); set = subst (IsSet 128) c.self.view_is (members_set c.self.inside.bits) }

pub overflow_sub-self : goal.overflow_sub-self
overflow_sub-self c =
    let bits = c.self.inside.bits in
    let low = lowest_first bits (omega (arith, c.if-self-eq0.false)) c.self.invariant in
    omega (arith, low.1, one_shl (trailing_zeros w128 bits) 128 low.0)

pub returns : goal.returns
returns c =
    let bits = c.self.inside.bits in
    let t = trailing_zeros w128 bits in
    let low = lowest_first bits (omega (arith, c.if-self-eq0.false)) c.self.invariant in
    record {
      first = (sym c.self.view_is ∙ low.2 ∙ ap (λ n. t ∷ members (bits - n)) (sym (one_shl t 128 low.0)), low.0);
      set = subst (IsSet 128) c.self.view_is (members_set bits);
    }
