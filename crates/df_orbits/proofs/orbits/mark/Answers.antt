use Rattle.std.proofs.Common.{◌≡◌, ◌≤◌, ◌+◌, ◌∙◌, ◌||◌, ℕ, true, false, [], ap, sym, subst, eqb, arith, length, get_or, slice_get, Some}
use Rattle.std.specs.List.{list_any, range_with_len}
use Rattle.std.proofs.Math.Bool.{or_assoc}
use Rattle.df_subsets.specs.Subsets.{subsets, same_list, rank}
use Rattle.df_maps.specs.FullMaps.{point_count, image, map_number, full_maps}
use Rattle.df_maps.proofs.FixingCounts.{fixing, fixing_more, fixing_some, size_is}
use Rattle.df_orbits.specs.MarkedPlaces.{is_marked}
use Rattle.df_orbits.proofs.MarkLaws.{any_more}
use Rattle.df_orbits.proofs.NumberedMaps.{by_numbers}
use Rattle.df_orbits.proofs.PlaceTests.{rank_test}
use Rattle.df_orbits.proofs.orbits.mark.Goals as goal
use Rattle.df_orbits.proofs.orbits.mark.Goals.{then-eq, else-eq}

pub loop-i-preserved : goal.loop-i-preserved
loop-i-preserved c =
    let M = c.args.images.now in
    let b = c.args.block.now in
    let v = point_count M in
    let k = length b in
    let L = subsets v k in
    let i = c.loop-i.i in
    let x = c.image_block-image.result in
    let at : slice_get L c.rank.result ≡ Some x = subst (λ (p : ℕ × ℕ). slice_get (subsets p.0 p.1) c.rank.result ≡ Some x) c.requires.places c.rank.ensures.place in
    let ranked : c.rank.result ≡ rank v x = c.rank.ensures.rank ∙ ap (λ (p : ℕ × ℕ). rank p.0 x) c.requires.places in
    let is : x ≡ image M (map_number M i) b = c.image_block-image.ensures.image ∙ ap (image M (map_number M i)) (c.as_slice.ensures.value ∙ c.points-points.ensures.list) in
    let more = elim c.if-eq.branch as (λ _. (c.if-eq.fixing ≡ fixing M b (i + 1)) × (c.if-eq.fixing ≤ i + 1)) [
      | then-eq w ↦ (fixing_more M b x c.loop-i.fixing c.if-eq.fixing i true c.loop-i.invariant.fixing is (sym c.eq.ensures ∙ w.if-eq.true) w.fixing-is, omega (arith, w.fixing-is, c.loop-i.invariant.few))
      | else-eq w ↦ (fixing_more M b x c.loop-i.fixing c.if-eq.fixing i false c.loop-i.invariant.fixing is (sym c.eq.ensures ∙ w.if-eq.false) (w.fixing-is ∙ omega arith), omega (arith, w.fixing-is, c.loop-i.invariant.few))
    ] in
    record {
      room = c.put.ensures.room ∙ c.loop-i.invariant.room;
      marks = λ place h.
          let y = get_or L place [] in
          let t = λ (j : ℕ). same_list (image M (map_number M j) b) y in
          c.put.ensures.marks place
          ∙ ap (λ s. s || eqb c.rank.result place) (c.loop-i.invariant.marks place h)
          ∙ ap (λ s. (is_marked c.args.marks.now place || list_any t (range_with_len 0 i)) || s) (rank_test v k x c.rank.result place at ranked h ∙ ap (λ z. same_list z y) is)
          ∙ or_assoc (is_marked c.args.marks.now place) (list_any t (range_with_len 0 i)) (t i)
          ∙ ap (λ s. is_marked c.args.marks.now place || s) (sym (any_more t i));
      fixing = more.0;
      few = more.1;
    }

pub nonzero_div-result : goal.nonzero_div-result
nonzero_div-result c =
    let M = c.args.images.now in
    let b = c.args.block.now in
    let end : length (full_maps M) ≡ c.loop-i.i = omega (arith, c.count-i-end.ensures.count) in
    fixing_some M c.count-i-end.ensures.maps b c.requires.block c.loop-i.fixing c.loop-i.i c.loop-i.invariant.fixing end (omega (arith, c.count-i-end.ensures.count, c.count-i-end.ensures.some))

pub returns-clause-marks : goal.returns-clause-marks
returns-clause-marks c = λ place h.
    let M = c.args.images.now in
    let b = c.args.block.now in
    let y = get_or (subsets (point_count M) (length b)) place [] in
    let end : length (full_maps M) ≡ c.loop-i.i = omega (arith, c.count-i-end.ensures.count) in
    c.loop-i.invariant.marks place h ∙ ap (λ t. is_marked c.args.marks.now place || t) (sym (by_numbers M b y c.count-i-end.ensures.maps ∙ ap (λ n. list_any (λ j. same_list (image M (map_number M j) b) y) (range_with_len 0 n)) end))

pub returns-clause-size : goal.returns-clause-size
returns-clause-size c =
    let M = c.args.images.now in
    let b = c.args.block.now in
    let end : length (full_maps M) ≡ c.loop-i.i = omega (arith, c.count-i-end.ensures.count) in
    size_is M c.count-i-end.ensures.maps b c.requires.block c.loop-i.fixing c.loop-i.i c.loop-i.invariant.fixing end c.count.result c.count.ensures.count (omega (arith, c.count.ensures.some))
