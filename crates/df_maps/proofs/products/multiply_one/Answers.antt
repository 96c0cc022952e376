use Rattle.std.proofs.Common.{◌≡◌, ◌*◌, ◌%◌, ◌||◌, ◌∙◌, ap, ap₂, sym, get_or, eqb, arith}
use Rattle.std.proofs.lemmas.List.{take_all}
use Rattle.std.specs.List.{list_any}
use Rattle.df_lists.specs.NumberSets.{has_member, with_member}
use Rattle.df_maps.proofs.MarkSteps.{member_more, or_none}
use Rattle.df_maps.proofs.products.multiply_one.Goals as goal

pub insert-requires : goal.insert-requires
insert-requires c = grind arith

pub loop-m-preserved : goal.loop-m-preserved
loop-m-preserved c = record {
  set = c.insert.ensures.set;
  members = λ j.
      let made = λ (m : _). (m * c.args.residue) % c.args.exponent in
      let place : made (get_or c.args.mults.now c.loop-m.m-index 0) ≡ (c.from.result * c.from-in-loop-m.result) % c.from-in-loop-m-2.result =
      sym (ap₂ (λ a b. (c.from.result * a) % b) c.from-in-loop-m.ensures c.from-in-loop-m-2.ensures ∙ ap (λ a. (a * c.args.residue) % c.args.exponent) c.from.ensures) in
      ap (λ l. has_member l j) c.insert.ensures.list ∙ ap (λ k. has_member (with_member k c.loop-m.reached) j) (sym place)
      ∙ member_more c.args.reached.now c.loop-m.reached made c.args.mults.now c.loop-m.m-index j (omega arith) (c.loop-m.invariant.members j);
}

pub loop-m-init : goal.loop-m-init
loop-m-init c = record { set = c.requires.set; members = λ j. sym (or_none (has_member c.args.reached.now j)) }

pub returns-clause-members : goal.returns-clause-members
returns-clause-members c = λ j. c.loop-m.invariant.members j ∙ ap (λ l. has_member c.args.reached.now j || list_any (λ m. eqb ((m * c.args.residue) % c.args.exponent) j) l) (take_all c.loop-m.m-index c.args.mults.now (omega arith))
