use Rattle.std.proofs.Common.{◌≡◌, ◌<◌, ◌+◌, ◌*◌, ◌∙◌, ap, ap₂, sym, subst, length, get_or}
use Rattle.std.proofs.lemmas.List.{get_or_read}
use Rattle.df_orbits.proofs.TableLooks.{image_found, image_place}
use Rattle.df_orbits.proofs.images.Images.image_point.Goals as goal

pub returns-clause-image : goal.returns-clause-image
returns-clause-image c =
    let own = c.self.inside in
    let items = own.table.items in
    let place : c.args.i * c.from-width.result + c.from.result ≡ c.args.i * own.points + c.args.p = ap₂ (λ w p. c.args.i * w + p) c.from-width.ensures (c.from.ensures ∙ c.p.view_is) in
    let within = image_place own.maps c.args.self.now own.points own.count items c.self.invariant c.self.view_is c.args.i c.args.p c.requires.number c.requires.point in
    let at = get_or_read items (c.args.i * c.from-width.result + c.from.result) c.index.result.now (subst (λ k. k < length items) (sym place) within) c.index.ensures 0 ∙ ap (λ k. get_or items k 0) place in
    (image_found own.maps c.args.self.now own.points own.count items c.self.invariant c.self.view_is c.args.i c.args.p c.index.result.now c.requires.number c.requires.point at).0

pub returns-clause-below : goal.returns-clause-below
returns-clause-below c =
    let own = c.self.inside in
    let items = own.table.items in
    let place : c.args.i * c.from-width.result + c.from.result ≡ c.args.i * own.points + c.args.p = ap₂ (λ w p. c.args.i * w + p) c.from-width.ensures (c.from.ensures ∙ c.p.view_is) in
    let within = image_place own.maps c.args.self.now own.points own.count items c.self.invariant c.self.view_is c.args.i c.args.p c.requires.number c.requires.point in
    let at = get_or_read items (c.args.i * c.from-width.result + c.from.result) c.index.result.now (subst (λ k. k < length items) (sym place) within) c.index.ensures 0 ∙ ap (λ k. get_or items k 0) place in
    (image_found own.maps c.args.self.now own.points own.count items c.self.invariant c.self.view_is c.args.i c.args.p c.index.result.now c.requires.number c.requires.point at).1
