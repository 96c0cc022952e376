use Rattle.std.proofs.Common.{◌≡◌, ◌<◌, ℕ, ◌/◌, ◌%◌, ◌∙◌, ap, ap₂, sym, subst, length, get_or, arith}
use Rattle.std.proofs.lemmas.List.{get_or_read}
use Rattle.df_lists.specs.Membership.{In}
use Rattle.df_group.specs.Elements.{order_of}
use Rattle.df_maps.specs.FullMaps.{IsMaps, full_maps}
use Rattle.df_maps.proofs.GroupOfMaps.{number_in, some_shift}
use Rattle.df_maps.proofs.MapsFacts.{are_group, number_low, number_row, made_of}
use Rattle.df_maps.proofs.maps.Maps.numbered.Goals as goal

pub bounds-deref-i : goal.bounds-deref-i
bounds-deref-i c =
    let M = made_of c.self.inside.shape c.self.inside.fixed c.self.inside.products.items c.self.inside.shifts.items in
    let low = number_row M c.self.invariant c.args.i (subst (λ N. c.args.i < length (full_maps N)) (sym c.self.view_is) c.requires) in
    subst (λ w. c.args.i / w < length c.deref.result.now) (sym c.len-width.ensures.value) (subst (λ l. c.args.i / length c.self.inside.shifts.items < length l) (sym c.deref.ensures.0) low)

pub returns-clause-shift : goal.returns-clause-shift
returns-clause-shift c =
    let S = c.self.inside.shifts.items in
    let M = made_of c.self.inside.shape c.self.inside.fixed c.self.inside.products.items S in
    let low = number_low M c.self.invariant c.args.i (subst (λ N. c.args.i < length (full_maps N)) (sym c.self.view_is) c.requires) in
    let place = c.args.i % c.len-width.result in
    let within : place < length c.deref-2.result.now = omega (arith, ap length c.deref-2.ensures.0, some_shift M c.self.invariant, c.len-width.ensures.value) in
    let read : c.index-deref-i.result ≡ get_or S (c.args.i % length S) 0 = get_or_read c.deref-2.result.now place c.index-deref-i.result within c.index-deref-i.is 0 ∙ ap₂ (λ l w. get_or l (c.args.i % w) 0) c.deref-2.ensures.0 c.len-width.ensures.value in
    subst (λ x. x < order_of c.args.self.now.factors) (sym read) (subst (λ N. get_or S (c.args.i % length S) 0 < order_of N.factors) c.self.view_is low)

pub returns-clause-member : goal.returns-clause-member
returns-clause-member c =
    let P = c.self.inside.products.items in
    let S = c.self.inside.shifts.items in
    let M = made_of c.self.inside.shape c.self.inside.fixed P S in
    let place = c.args.i % c.len-width.result in
    let within : place < length c.deref-2.result.now = omega (arith, ap length c.deref-2.ensures.0, some_shift M c.self.invariant, c.len-width.ensures.value) in
    let shift : c.index-deref-i.result ≡ get_or S (c.args.i % length S) 0 = get_or_read c.deref-2.result.now place c.index-deref-i.result within c.index-deref-i.is 0 ∙ ap₂ (λ l w. get_or l (c.args.i % w) 0) c.deref-2.ensures.0 c.len-width.ensures.value in
    let product : get_or c.deref.result.now (c.args.i / c.len-width.result) 0 ≡ get_or P (c.args.i / length S) 0 = ap₂ (λ l w. get_or l (c.args.i / w) 0) c.deref.ensures.0 c.len-width.ensures.value in
    let both = ap₂ (λ (a b : ℕ). (a, b)) product shift in
    subst (λ N. In (full_maps N) (get_or c.deref.result.now (c.args.i / c.len-width.result) 0, c.index-deref-i.result)) c.self.view_is
    (subst (In (full_maps M)) (sym both) (number_in M c.self.invariant c.args.i (subst (λ N. c.args.i < length (full_maps N)) (sym c.self.view_is) c.requires)))

pub returns-clause-maps : goal.returns-clause-maps
returns-clause-maps c = are_group c.args.self.now (subst IsMaps c.self.view_is c.self.invariant)
