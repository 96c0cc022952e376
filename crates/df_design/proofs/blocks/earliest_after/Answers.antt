use Rattle.std.proofs.Common.{◌≡◌, ◌∷◌, ◌⊎◌, ℕ, List, refl, inl, sym, subst}
use Rattle.df_lists.specs.Membership.{In}
use Rattle.df_lists.specs.NumberSets.{IsSet}
use Rattle.df_maps.specs.FullMaps.{point_count}
use Rattle.df_maps.specs.Laws.{AreGroup}
use Rattle.df_kramer_mesner.specs.OrbitSystems.{maps_of_problem}
use Rattle.df_design.specs.LeftBlocks.{IsSettled, IsImageAfter, AreGathered}
use Rattle.df_design.proofs.DesignBlocks.{base_set, gather_more, gathered}
use Rattle.df_design.proofs.blocks.earliest_after.Goals as goal

pub meet_images-requires-clause-block : goal.meet_images-requires-clause-block
meet_images-requires-clause-block c =
    let s = c.args.matrix.now in
    let A = subst AreGroup c.requires.maps c.count.ensures.maps in
    let base = c.in-Some.base in
    let chosen = c.loop-base.invariant.inside base (subst (λ (l : List (List ℕ)). In l base) (sym c.in-Some.ensures.block) (inl refl)) in
    subst (λ M. IsSet (point_count M) base) (sym c.requires.maps) (base_set s A c.args.chosen.now base chosen)

pub loop-base-preserved : goal.loop-base-preserved
loop-base-preserved c =
    let s = c.args.matrix.now in
    let A = subst AreGroup c.requires.maps c.count.ensures.maps in
    let x = c.args.chosen.now in
    let last = c.args.last.now in
    let base = c.in-Some.base in
    let ready = c.loop-base.ready.items in
    let new = c.meet_images.new.ready.items in
    gather_more s A x last ready new base c.next.new.self (subst (AreGathered s x last ready) c.in-Some.ensures.block c.loop-base.invariant) c.meet_images.ensures.sorted
    (subst (λ M. (z : List ℕ) → In new z → In ready z ⊎ IsImageAfter M base last z) c.requires.maps c.meet_images.ensures.inside)
    (subst (λ M. (z : List ℕ) → IsImageAfter M base last z → IsSettled new z) c.requires.maps c.meet_images.ensures.images)
    c.meet_images.ensures.still

pub returns : goal.returns
returns c =
    let s = c.args.matrix.now in
    let A = subst AreGroup c.requires.maps c.count.ensures.maps in
    let x = c.args.chosen.now in
    let last = c.args.last.now in
    let ready = c.loop-base.ready.items in
    gathered s A x c.blocks_are_ordered.ensures.order c.candidates_are_all.ensures last ready (subst (AreGathered s x last ready) c.in_default.ensures.block.0 c.loop-base.invariant)
