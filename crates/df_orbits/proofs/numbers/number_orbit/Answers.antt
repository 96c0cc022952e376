use Rattle.std.proofs.Common.{◌≡◌, ◌<◌, ◌+◌, ◌*◌, ◌∙◌, ◌∷◌, [], ℕ, cond, ap, ap₂, sym, subst, arith, length, get_or, set, length-set}
use Rattle.std.proofs.lemmas.List.{get_or_read}
use Rattle.std.proofs.lemmas.Nat.{mul-add-lt}
use Rattle.std.specs.List.{list_any, range_with_len}
use Rattle.df_lists.specs.NumberSets.{set_of}
use Rattle.df_subsets.specs.Subsets.{same_list}
use Rattle.df_maps.specs.FullMaps.{point_count, image, map_number, carried, full_maps}
use Rattle.df_orbits.proofs.NumberedMaps.{by_numbers}
use Rattle.df_orbits.proofs.MarkLaws.{any_more}
use Rattle.df_orbits.proofs.PairPlaces.{put_pair, put_more, two_points}
use Rattle.df_orbits.proofs.numbers.number_orbit.Goals as goal

pub bounds-numbers-a : goal.bounds-numbers-a
bounds-numbers-a c =
    let v = point_count c.args.images.now in
    let width = c.from-width.ensures ∙ c.points.ensures.points in
    let a : c.from-a.result < v = subst (λ x. x < v) (sym (c.from-a.ensures ∙ c.from.view_is)) c.image_point.ensures.below in
    let b : c.from-b.result < v = subst (λ x. x < v) (sym (c.from-b.ensures ∙ c.from-in-loop-i.view_is)) c.image_point-in-loop-i.ensures.below in
    let at = mul-add-lt c.from-a.result v c.from-b.result v a b in
    omega (arith, at, ap (λ w. c.from-a.result * w) width, c.loop-i.invariant.long, c.requires.long)

pub bounds-numbers-b : goal.bounds-numbers-b
bounds-numbers-b c =
    let v = point_count c.args.images.now in
    let width = c.from-width.ensures ∙ c.points.ensures.points in
    let a : c.from-a.result < v = subst (λ x. x < v) (sym (c.from-a.ensures ∙ c.from.view_is)) c.image_point.ensures.below in
    let b : c.from-b.result < v = subst (λ x. x < v) (sym (c.from-b.ensures ∙ c.from-in-loop-i.view_is)) c.image_point-in-loop-i.ensures.below in
    let at = mul-add-lt c.from-b.result v c.from-a.result v b a in
    let long = length-set c.loop-i.numbers (c.from-a.result * c.from-width.result + c.from-b.result) c.args.number in
    omega (arith, at, long, ap (λ w. c.from-b.result * w) width, c.loop-i.invariant.long, c.requires.long)

pub loop-i-preserved : goal.loop-i-preserved
loop-i-preserved c =
    let M = c.args.images.now in
    let pair = c.args.pair.now in
    let v = point_count M in
    let i = c.loop-i.i in
    let n = c.args.number in
    let a = c.from-a.result in
    let b = c.from-b.result in
    let w = c.from-width.result in
    let numbers = c.loop-i.numbers in
    let items = c.deref.result.now in
    let same = c.deref.ensures.0 ∙ c.points-points.ensures.list in
    let same-2 = c.deref-in-loop-i.ensures.0 ∙ c.points-points.ensures.list in
    let first = get_or_read c.deref.result.now 0 c.index-deref-0.result (omega (arith, ap length same, c.requires.two)) c.index-deref-0.is 0 ∙ ap (λ l. get_or l 0 0) same in
    let second = get_or_read c.deref-in-loop-i.result.now 1 c.index-deref-1.result (omega (arith, ap length same-2, c.requires.two)) c.index-deref-1.is 0 ∙ ap (λ l. get_or l 1 0) same-2 in
    let to = carried M (map_number M i) in
    let one : a ≡ to (get_or pair 0 0) = c.from-a.ensures ∙ c.from.view_is ∙ c.image_point.ensures.image ∙ ap to first in
    let two : b ≡ to (get_or pair 1 0) = c.from-b.ensures ∙ c.from-in-loop-i.view_is ∙ c.image_point-in-loop-i.ensures.image ∙ ap to second in
    let is : image M (map_number M i) pair ≡ set_of v (a ∷ b ∷ []) = ap (image M (map_number M i)) (two_points pair c.requires.two) ∙ ap₂ (λ x y. set_of v (x ∷ y ∷ [])) (sym one) (sym two) in
    let low : a < v = subst (λ x. x < v) (sym (c.from-a.ensures ∙ c.from.view_is)) c.image_point.ensures.below in
    let high : b < v = subst (λ x. x < v) (sym (c.from-b.ensures ∙ c.from-in-loop-i.view_is)) c.image_point-in-loop-i.ensures.below in
    record {
      long = length-set (set numbers (a * w + b) n) (b * w + a) n ∙ length-set numbers (a * w + b) n ∙ c.loop-i.invariant.long;
      written = λ p q l h.
          let t = λ (j : ℕ). same_list (image M (map_number M j) pair) (p ∷ q ∷ []) in
          let place = p * v + q in
          ap (λ x. get_or (set (set numbers (a * x + b) n) (b * x + a) n) place 0) (c.from-width.ensures ∙ c.points.ensures.points)
          ∙ put_pair v a b p q n numbers low high l h (c.loop-i.invariant.long ∙ c.requires.long)
          ∙ ap₂ (λ s x. cond s n x) (ap (λ y. same_list y (p ∷ q ∷ [])) (sym is)) (c.loop-i.invariant.written p q l h)
          ∙ put_more (list_any t (range_with_len 0 i)) (t i) n (get_or c.args.numbers.now place 0)
          ∙ ap (λ s. cond s n (get_or c.args.numbers.now place 0)) (sym (any_more t i));
    }

pub returns-clause-written : goal.returns-clause-written
returns-clause-written c =
    let M = c.args.images.now in
    let pair = c.args.pair.now in
    let end : c.loop-i.i ≡ length (full_maps M) = omega (arith, c.count-i-end.ensures.count, c.loop-i-test.false) in
    λ p q l h.
    let t = λ (j : ℕ). same_list (image M (map_number M j) pair) (p ∷ q ∷ []) in
    c.loop-i.invariant.written p q l h
    ∙ ap (λ s. cond s c.args.number (get_or c.args.numbers.now (p * point_count M + q) 0)) (ap (λ m. list_any t (range_with_len 0 m)) end ∙ sym (by_numbers M pair (p ∷ q ∷ []) c.count-i-end.ensures.maps))
