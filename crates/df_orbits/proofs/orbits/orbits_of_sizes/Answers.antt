use Rattle.std.proofs.Common.{◌≡◌, ◌<◌, ◌∙◌, ◌+◌, ◌++◌, ◌∷◌, ℕ, List, true, false, [], map, ap, ap₂, sym, arith, length, take, get_or, append-nil, append_assoc, refl, Ordering, Less, Equal, Greater}
use Rattle.std.proofs.lemmas.Bool.{both_ways, false_from_ne_true}
use Rattle.std.proofs.lemmas.List.{take_all, take_more, get_or-map, length-map}
use Rattle.std.specs.List.{flat_map}
use Rattle.std.specs.Ordering.{nat_cmp, is_lt, ordering_then}
use Rattle.std.specs.Cmp.Lexicographic.{slice_cmp}
use Rattle.df_subsets.specs.Blocks.{before}
use Rattle.df_subsets.specs.Subsets.{subsets, binomial}
use Rattle.df_subsets.proofs.BlockOrders.{before_is}
use Rattle.df_maps.specs.FullMaps.{point_count}
use Rattle.df_orbits.specs.Orbits.{orbits_with_sizes}
use Rattle.df_orbits.specs.declared.orbits.Orbit.{Orbit}
use Rattle.df_orbits.proofs.SizedOrbits.{sized_orbits_found}
use Rattle.df_orbits.proofs.SizeSums.{sum_more, sum_part, rising_distinct}
use Rattle.df_orbits.proofs.orbits.orbits_of_sizes.Goals as goal

flat_more : {X Y : Type 0} (f : X → List Y) (xs : List X) (i : ℕ) (d : X) → i < length xs → flat_map f (take (i + 1) xs) ≡ flat_map f (take i xs) ++ f (get_or xs i d)
flat_more f xs i d h = ap (flat_map f) (take_more xs i d h) ∙ flat_append f (take i xs) (get_or xs i d ∷ []) ∙ ap (λ l. flat_map f (take i xs) ++ l) (append-nil (f (get_or xs i d)))
  where
    flat_append : {X Y : Type 0} (f : X → List Y) (xs ys : List X) → flat_map f (xs ++ ys) ≡ flat_map f xs ++ flat_map f ys
    flat_append f [] ys = refl
    flat_append f (x ∷ xs) ys = ap (λ l. f x ++ l) (flat_append f xs ys) ∙ sym (append_assoc (f x) (flat_map f xs) (flat_map f ys))

less_first : (o p : Ordering) → is_lt o ≡ true → is_lt (ordering_then o p) ≡ true
less_first Less p h = refl
less_first Equal p h = absurd (both_ways false refl h)
less_first Greater p h = absurd (both_ways false refl h)

pub find-requires-clause-few : goal.find-requires-clause-few
find-requires-clause-few c =
    let v = point_count c.args.images.now in
    let sizes = c.args.sizes.now in
    let next = sum_more (binomial v) sizes c.loop-size.size-index c.loop-size-test.true in
    let part = sum_part (binomial v) sizes (c.loop-size.size-index + 1) in
    omega (arith, next, part, c.requires.few)

pub loop-size-preserved : goal.loop-size-preserved
loop-size-preserved c =
    let M = c.args.images.now in
    let f = λ (k : ℕ). orbits_with_sizes M (subsets (point_count M) k) in
    c.in_ok-find.ensures
    ∙ ap (λ l. l ++ f (get_or c.args.sizes.now c.loop-size.size-index 0)) c.loop-size.invariant ∙ sym (flat_more f c.args.sizes.now c.loop-size.size-index 0 c.loop-size-test.true)

pub returns : goal.returns
returns c =
    let M = c.args.images.now in
    let sizes = c.args.sizes.now in
    let items = c.loop-size.found.items in
    let new = c.sort.new.self.items in
    let none : Orbit = record { block = []; size = 0 } in
    let block = λ (o : Orbit). o.block in
    let whole = c.loop-size.invariant ∙ ap (flat_map (λ k. orbits_with_sizes M (subsets (point_count M) k))) (take_all c.loop-size.size-index sizes c.loop-size-test.false) in
    sized_orbits_found M c.points.ensures.maps sizes items new whole c.in_ok-sort.ensures.permutation (rising_distinct sizes c.requires.rising)
    (λ i l.
    let long = length-map new block in
    let x = get_or new (i + 1) none in
    let y = get_or new i none in
    let at_x : get_or (map block new) (i + 1) [] ≡ x.block = get_or-map block new (i + 1) none [] (omega (arith, l, long)) in
    let at_y : get_or (map block new) i [] ≡ y.block = get_or-map block new i none [] (omega (arith, l, long)) in
    ap₂ before at_x at_y ∙ false_from_ne_true (before x.block y.block) (λ h. both_ways (is_lt (ordering_then (slice_cmp nat_cmp x.block y.block) (nat_cmp x.size y.size))) (c.in_ok-sort.ensures.sorted i none (omega arith) (omega (arith, l, long))) (less_first (slice_cmp nat_cmp x.block y.block) (nat_cmp x.size y.size) (sym (before_is x.block y.block) ∙ h))))
