use Rattle.std.proofs.Common.{◌≡◌, ◌+◌, ◌<◌, ◌∷◌, ℕ, List, length, get_or, ap, sym, subst, ◌∙◌, arith}
use Rattle.df_correspondence.specs.Designs.{design}
use Rattle.df_design.proofs.FirstBlocks.{left_after}
use Rattle.df_design.proofs.DesignBlocks.{design_sorted}
use Rattle.df_design.proofs.blocks.Blocks.next.Goals as goal
use Rattle.df_design.proofs.blocks.Blocks.next.Goals.{then-self-eq-READY, else-self-eq-READY}

pub invariant_of-self-else-self-eq-READY : goal.invariant_of-self-else-self-eq-READY
invariant_of-self-else-self-eq-READY c =
    let s = c.self.inside.matrix.now in
    let x = c.self.inside.chosen.now in
    let b = c.in_ok-block.field-0.now in
    let place = c.self.inside.place in
    let lookup = c.in_ok-block.ensures.lookup in
    let within = subst (λ (l : List (List ℕ)). place < length l) c.as_slice.ensures.value lookup.3.0 in
    let at = subst (λ (l : List (List ℕ)). b ≡ get_or l place b) c.as_slice.ensures.value lookup.1 in
    let left = left_after c.blocks_are_ordered.ensures.order (design s x) c.self.inside.last b c.self.inside.ready.items c.self.invariant.rest place (design_sorted c.candidates_are_all.ensures s x) within at c.self.invariant.joined in
    record { long = c.self.invariant.long; maps_are = c.self.invariant.maps_are; within = omega (arith, c.self.invariant.within, c.if-self-eq-READY.false); rest = c.self.invariant.rest; joined = left.0; whole = c.self.invariant.whole }

pub returns : goal.returns
returns c =
    let s = c.self.inside.matrix.now in
    let x = c.self.inside.chosen.now in
    let b = c.in_ok-block.field-0.now in
    let place = c.self.inside.place in
    let lookup = c.in_ok-block.ensures.lookup in
    let within = subst (λ (l : List (List ℕ)). place < length l) c.as_slice.ensures.value lookup.3.0 in
    let at = subst (λ (l : List (List ℕ)). b ≡ get_or l place b) c.as_slice.ensures.value lookup.1 in
    let left = left_after c.blocks_are_ordered.ensures.order (design s x) c.self.inside.last b c.self.inside.ready.items c.self.invariant.rest place (design_sorted c.candidates_are_all.ensures s x) within at c.self.invariant.joined in
    elim c.if-self-eq-READY.branch [
      | then-self-eq-READY w ↦ sym c.self.view_is ∙ left.1 ∙ ap (λ l. b ∷ l) (sym w.self-is)
      | else-self-eq-READY w ↦ sym c.self.view_is ∙ left.1 ∙ ap (λ l. b ∷ l) (sym w.self-is)
    ]
