use Rattle.std.proofs.Common.{◌≡◌, ◌<◌, ◌+◌, ◌*◌, ◌∙◌, ap, ap₂, sym, subst, length, get_or}
use Rattle.std.proofs.lemmas.List.{get_or_read}
use Rattle.df_orbits.proofs.TableLooks.{number_found, number_place}
use Rattle.df_orbits.proofs.numbers.PairNumbers.number_of.Goals as goal

pub returns : goal.returns
returns c =
    let own = c.self.inside in
    let items = own.numbers.items in
    let index = c.from.result * c.from-2.result + c.from-3.result in
    let place : index ≡ c.args.p * own.points + c.args.q = ap₂ (λ a b. a + b) (ap₂ (λ a b. a * b) (c.from.ensures ∙ c.p.view_is) c.from-2.ensures) (c.from-3.ensures ∙ c.q.view_is) in
    let within = number_place own.maps c.args.self.now own.points items c.self.invariant c.self.view_is c.args.p c.args.q c.requires.order c.requires.points in
    let at = get_or_read items index c.index.result.now (subst (λ k. k < length items) (sym place) within) c.index.ensures 0 ∙ ap (λ k. get_or items k 0) place in
    let is = number_found own.maps c.args.self.now own.points items c.self.invariant c.self.view_is c.args.p c.args.q c.index.result.now c.requires.order c.requires.points at in
    record { number = is.number; within = is.within; representative = is.representative; orbit = is.orbit }
