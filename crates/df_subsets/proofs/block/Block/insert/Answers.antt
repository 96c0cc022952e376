use Rattle.std.proofs.Common.{◌≡◌, arith, ap, sym, subst, length, ◌∙◌}
use Rattle.df_lists.specs.NumberSets.{has_member, with_member, IsSet}
use Rattle.df_lists.proofs.RisingLists.{has_more, Rises-more}
use Rattle.df_subsets.proofs.BlockLaws.{length_more}
use Rattle.df_subsets.proofs.block.Block.insert.Goals as goal

pub invariant_of-self : goal.invariant_of-self
invariant_of-self c = c.insert.ensures.set

pub returns : goal.returns
returns c =
    let p = c.args.p in
    let b = c.args.self.now in
    let is : c.insert.new.self ≡ with_member p b = c.insert.ensures.list ∙ ap (λ q. with_member q c.self.inside.points) c.p.view_is ∙ ap (with_member p) c.self.view_is in
    record {
      list = is;
      points = λ q. ap (λ l. has_member l q) is ∙ has_more p q b;
      size = ap length is ∙ length_more 0 128 p b (subst (IsSet 128) c.self.view_is c.self.invariant);
      within = λ v h r. subst (IsSet v) (sym is) (Rises-more 0 v p b (omega arith) h r);
    }
