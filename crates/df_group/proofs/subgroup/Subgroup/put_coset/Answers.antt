use Rattle.std.proofs.Common.{◌||◌, eqb, eq-eqb, refl, sym, ap, ◌∙◌, arith}
use Rattle.std.proofs.lemmas.Bool.{or_left, or_right}
use Rattle.std.specs.List.{list_any}
use Rattle.df_lists.specs.NumberSets.{has_member, with_member}
use Rattle.df_lists.proofs.SetLaws.{any_of_set}
use Rattle.df_group.specs.Elements.{group_of, order_of}
use Rattle.df_group.proofs.Extensions.{subgroup_below, coset_step}
use Rattle.df_group.proofs.subgroup.Subgroup.put_coset.Goals as goal

pub loop-s-init : goal.loop-s-init
loop-s-init c =
    let fs = c.args.shape.now in
    let set = c.args.subgroup.now in
    let below = subgroup_below fs set c.requires.subgroup in
    record {
      stored = c.requires.stored;
      below = λ s h. below s (sym (ap (λ l. has_member l s) c.subgroup.view_is) ∙ h);
      members = λ x.
          ap (λ v. has_member c.args.self.now x || v)
          (ap (list_any (λ s. eqb ((group_of fs).plus c.args.shift s) x)) c.subgroup.view_is ∙ any_of_set (λ s. eqb ((group_of fs).plus c.args.shift s) x) (order_of fs) set below);
    }

pub add-requires-clause-b : goal.add-requires-clause-b
add-requires-clause-b c =
    c.loop-s.invariant.below c.in-Some.s (ap (λ l. has_member l c.in-Some.s) c.in-Some.ensures.first.0 ∙ or_left (eqb c.in-Some.s c.in-Some.s) (has_member c.pop_first.new.self c.in-Some.s) (eq-eqb c.in-Some.s c.in-Some.s refl))

pub put-requires : goal.put-requires
put-requires c = omega (arith, c.add.ensures.below, c.requires.shape.small)

pub loop-s-preserved : goal.loop-s-preserved
loop-s-preserved c =
    let fs = c.args.shape.now in
    let s = c.in-Some.s in
    record {
      stored = c.put.ensures.stored;
      below = λ x h. c.loop-s.invariant.below x (ap (λ l. has_member l x) c.in-Some.ensures.first.0 ∙ or_right (eqb s x) (has_member c.pop_first.new.self x) h);
      members = λ x.
          coset_step c.loop-s.self c.put.new.self c.loop-s.rest c.pop_first.new.self ((group_of fs).plus c.args.shift) s x
          (c.put.ensures.member ∙ ap (λ n. with_member n c.loop-s.self) c.add.ensures.sum) c.in-Some.ensures.first.0
          ∙ c.loop-s.invariant.members x;
    }
