use Rattle.std.proofs.Common.{◌≡◌, ◌<◌, ◌-◌, ◌+◌, ◌&&◌, ◌++◌, ◌∷◌, [], ℕ, List, true, false, eqb, eqb-true, length, get_or, take, drop, ap, sym, subst, ◌∙◌, arith}
use Rattle.std.proofs.lemmas.Bool.{eqb-false}
use Rattle.std.proofs.lemmas.List.{length-take}
use Rattle.df_lists.specs.Membership.{In}
use Rattle.df_lists.specs.Orders.{IsSorted}
use Rattle.df_subsets.specs.Blocks.{before}
use Rattle.df_design.specs.declared.blocks.TheConstants.{READY}
use Rattle.df_design.specs.LeftBlocks.{IsPlaceFor, IsMet}
use Rattle.df_design.proofs.ReadyBlocks.{met_late, met_before, met_room, met_full, place_early}
use Rattle.df_design.proofs.blocks.meet.Goals as goal
use Rattle.df_design.proofs.blocks.meet.Goals.{then-is_full, else-is_full}

pub returns-then-comes_late : goal.returns-then-comes_late
returns-then-comes_late c =
    let y = c.args.block in
    let late = subst (λ (l : List (List ℕ)). (eqb (length l) READY && before (get_or l (READY - 1) []) y) ≡ true) c.as_slice.ensures.value (sym c.comes_late.ensures ∙ c.if-comes_late.true) in
    met_late c.blocks_are_ordered.ensures.order c.args.ready.now.items y c.requires late

pub place_of-requires : goal.place_of-requires
place_of-requires c = subst (IsSorted before) (sym c.as_slice-2.ensures.value) c.requires

pub returns-in_default : goal.returns-in_default
returns-in_default c =
    let y = c.args.block in
    met_before c.blocks_are_ordered.ensures.order c.args.ready.now.items y c.requires (subst (λ (l : List (List ℕ)). In l y) c.as_slice-2.ensures.value c.in_default.ensures)

pub returns : goal.returns
returns c =
    let O = c.blocks_are_ordered.ensures.order in
    let xs = c.args.ready.now.items in
    let y = c.args.block in
    let place = c.in-Err.place in
    let soon = subst (λ (l : List (List ℕ)). (eqb (length l) READY && before (get_or l (READY - 1) []) y) ≡ false) c.as_slice.ensures.value (sym c.comes_late.ensures ∙ c.if-comes_late.false) in
    let fit = subst (λ (l : List (List ℕ)). IsPlaceFor l y place) c.as_slice-2.ensures.value c.in-Err.ensures in
    let items = c.insert.ensures.items in
    let put = λ (l : List (List ℕ)). take place l ++ y ∷ drop place l in
    elim c.if-is_full.branch [
      | then-is_full w ↦
          let full = eqb-true (length xs) READY (sym c.is_full.ensures.value ∙ w.if-is_full.true) in
          let ys = w.pop.new.self.items in
          let shorter : length ys + 1 ≡ length xs = omega (arith, ap length w.pop.ensures.rest, length-take (length xs - 1) xs, full) in
          let early = place_early O xs place y full fit soon in
          subst (IsMet xs y) (sym (items ∙ ap put (ap (λ v. v.items) w.ready-is)))
          (met_full O xs ys w.pop.result place y c.requires full w.pop.ensures.items shorter (omega (arith, early, shorter, full)) fit)
      | else-is_full w ↦
          let unlike = eqb-false (length xs) READY (sym c.is_full.ensures.value ∙ w.if-is_full.false) in
          let room : length xs < READY = omega (arith, c.is_full.ensures.fits, unlike) in
          subst (IsMet xs y) (sym (items ∙ ap put (ap (λ v. v.items) w.ready-is))) (met_room O xs place y c.requires room fit)
    ]
