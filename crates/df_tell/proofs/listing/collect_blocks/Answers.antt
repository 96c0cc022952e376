use Rattle.std.proofs.Common.{◌++◌, ◌∷◌, [], ap, sym, ◌∙◌, append_assoc}
use Rattle.df_tell.proofs.listing.collect_blocks.Goals as goal

pub loop-block-preserved : goal.loop-block-preserved
loop-block-preserved c =
    record {
      all = ap (λ l. l ++ c.next.new.self) c.in_ok-push.ensures.items ∙ append_assoc c.loop-block.list.items (c.in-Some.block ∷ []) c.next.new.self
          ∙ ap (λ l. c.loop-block.list.items ++ l) (sym c.in-Some.ensures) ∙ c.loop-block.invariant.all;
    }
