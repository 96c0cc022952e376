use Rattle.std.proofs.Common.{◌≡◌, ◌&&◌, eqb, sym, ap, ◌∙◌, arith}
use Rattle.df_lists.specs.LeastMembers.{any_below}
use Rattle.df_lists.specs.NumberSets.{has_member}
use Rattle.df_group.specs.Elements.{order_of, group_of}
use Rattle.df_group.specs.Subgroups.{exponent_of}
use Rattle.df_group.proofs.GeneratedSets.{cosets_more}
use Rattle.df_group.proofs.Extensions.{is_reached, reached_first, extended_all, extended_first, subgroup_stored}
use Rattle.df_group.proofs.subgroup.Subgroup.extended.Goals as goal

pub loop-c-init : goal.loop-c-init
loop-c-init c =
    let fs = c.args.shape.now in
    let is = c.exponent-c-end.ensures.shape in
    let sub = c.requires.subgroup in
    record {
      stored = subgroup_stored fs is c.args.self.now sub;
      members = reached_first fs is c.args.generator c.args.self.now sub.0 sub.1;
    }

pub loop-c-preserved : goal.loop-c-preserved
loop-c-preserved c =
    let fs = c.args.shape.now in
    let g = c.args.generator in
    let set = c.args.self.now in
    let multiple = c.times-multiple.ensures.multiple ∙ ap (λ k. (group_of fs).times k g) c.from.ensures in
    record {
      stored = c.put_coset.ensures.stored;
      members = λ x.
          cosets_more (λ c. any_below (λ s. has_member set s && eqb ((group_of fs).plus ((group_of fs).times c g) s) x) (order_of fs)) c.loop-c.c (has_member c.loop-c.extended x) (has_member c.put_coset.new.self x)
          (any_below (λ s. has_member set s && eqb ((group_of fs).plus c.times-multiple.result s) x) (order_of fs))
          (c.put_coset.ensures.members x) (c.loop-c.invariant.members x)
          (ap (λ m. any_below (λ s. has_member set s && eqb ((group_of fs).plus m s) x) (order_of fs)) multiple);
    }

pub returns-then-has : goal.returns-then-has
returns-then-has c =
    let fs = c.args.shape.now in
    let g = c.args.generator in
    let multiple = c.times-multiple.ensures.multiple ∙ ap (λ k. (group_of fs).times k g) c.from.ensures in
    extended_first fs c.exponent-c-end.ensures.shape g c.loop-c.c c.args.self.now c.loop-c.extended c.requires.subgroup (omega arith) (omega (arith, c.exponent-c-end.ensures.exponent))
    (ap (has_member c.args.self.now) (sym multiple) ∙ sym c.has.ensures ∙ c.if-has.true) c.loop-c.invariant.stored c.loop-c.invariant.members

pub returns : goal.returns
returns c =
    let fs = c.args.shape.now in
    let g = c.args.generator in
    let end : c.loop-c.c ≡ exponent_of fs = omega (arith, c.exponent-c-end.ensures.exponent, c.exponent-c-end.ensures.low) in
    extended_all fs c.exponent-c-end.ensures.shape g c.args.self.now c.loop-c.extended c.requires.subgroup c.loop-c.invariant.stored
    (λ x. c.loop-c.invariant.members x ∙ ap (λ n. is_reached fs g c.args.self.now n x) end)
