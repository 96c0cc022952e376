use Rattle.std.proofs.Common.{◌≡◌, ◌<◌, ◌≤◌, ◌∙◌, ℕ, List, [], true, false, eqb, length, get_or, ap, sym, arith, slice_get, Some}
use Rattle.std.proofs.lemmas.List.{length-map}
use Rattle.df_lists.specs.Membership.{In}
use Rattle.df_lists.specs.NumberSets.{IsSet}
use Rattle.df_subsets.specs.Blocks.{before}
use Rattle.df_subsets.specs.Subsets.{place_of}
use Rattle.df_subsets.proofs.SubsetLists.{same_list-gives}
use Rattle.df_maps.specs.FullMaps.{MapGroup, point_count}
use Rattle.df_maps.specs.Laws.{AreGroup}
use Rattle.df_orbits.specs.Orbits.{are_in_one_orbit, block_orbits, listed_representatives, representative_of}
use Rattle.df_orbits.proofs.OrbitLists.{member_at}
use Rattle.df_orbits.proofs.OrbitNumbers.{search_ends, listed_sorted, listed_own, place_is}
use Rattle.df_orbits.proofs.orbits.Orbits.number_of.Goals as goal

-- the place of a block's representative in the order is the number of its orbit
numbered : (M : MapGroup) → AreGroup M → (sizes b x : List ℕ) → IsSet (point_count M) b → In sizes (length b) → (now : List (List ℕ × ℕ)) → now ≡ block_orbits M sizes → x ≡ representative_of M b
    → (r : ℕ) → r ≤ length now → ((i : ℕ) → i < r → before (get_or (listed_representatives now) i []) x ≡ true) → ((i : ℕ) → r ≤ i → i < length now → before (get_or (listed_representatives now) i []) x ≡ false)
    → (r ≡ place_of (representative_of M b) (listed_representatives now)) × (r < length now) × (slice_get (listed_representatives now) r ≡ Some (representative_of M b)) × ((i : ℕ) (y : List ℕ) → slice_get (listed_representatives now) i ≡ Some y → are_in_one_orbit M b y ≡ eqb i r)
numbered M A sizes b x set sized now is own r within earlier later =
    let F = listed_representatives now in
    let long : length F ≡ length now = simp length-map in
    let ends = search_ends M A sizes b set sized now is r (omega (arith, long, within))
    (λ i h. ap (before (get_or F i [])) (sym own) ∙ earlier i h)
    (λ i h k. ap (before (get_or F i [])) (sym own) ∙ later i h (omega (arith, k, long))) in
    (place_is F r (representative_of M b) (listed_sorted M A sizes now is) ends.1, omega (arith, ends.0, long), ends.1, ends.2)

pub place_among-place-requires : goal.place_among-place-requires
place_among-place-requires c = listed_sorted c.args.maps.now c.points.ensures.maps c.requires.making.0 c.args.self.now c.requires.making.1

pub place_among-requires : goal.place_among-requires
place_among-requires c = listed_sorted c.args.maps.now c.points.ensures.maps c.requires.making.0 c.args.self.now c.requires.making.1

-- the block stands among the representatives, and so is its own
pub returns-then-eq : goal.returns-then-eq
returns-then-eq c =
    let now = c.args.self.now in
    let M = c.args.maps.now in
    let b = c.args.block.now in
    let items = c.self.inside.found.items in
    let r = c.place_among-place.result in
    let x = c.index.result.now in
    let within : r < length items = omega (arith, c.if-place-len.true, c.len.ensures) in
    let stands : slice_get (listed_representatives now) r ≡ Some x.block = ap (λ l. slice_get (listed_representatives l) r) (sym c.self.view_is) ∙ member_at items r x within c.index.ensures in
    let is = same_list-gives x.block b (sym c.eq.ensures ∙ c.if-eq.true) in
    let own = listed_own M c.points.ensures.maps c.requires.making.0 now c.requires.making.1 r b (stands ∙ ap Some is) in
    let a = numbered M c.points.ensures.maps c.requires.making.0 b b c.requires.block c.requires.making.2 now c.requires.making.1 (sym own) r c.place_among-place.ensures.within c.place_among-place.ensures.earlier c.place_among-place.ensures.later in
    record { number = a.0; within = a.1; representative = a.2; orbit = a.3 }

pub returns : goal.returns
returns c =
    let now = c.args.self.now in
    let M = c.args.maps.now in
    let b = c.args.block.now in
    let a = numbered M c.points.ensures.maps c.requires.making.0 b c.least_image.result c.requires.block c.requires.making.2 now c.requires.making.1 c.least_image.ensures.image c.place_among.result c.place_among.ensures.within c.place_among.ensures.earlier c.place_among.ensures.later in
    record { number = a.0; within = a.1; representative = a.2; orbit = a.3 }
