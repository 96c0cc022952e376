use Rattle.std.proofs.Common.{◌≡◌, ◌<◌, ◌≤◌, ◌∙◌, ltb, List, length, get_or, sym, subst, arith, rules}
use Rattle.std.proofs.lemmas.List.{get_or_read}
use Rattle.std.proofs.lemmas.List.Sorted.{IsPartitionPoint-from_clause}
use Rattle.df_walk.specs.declared.Rules.TheVariants.{Plain}
use Rattle.df_walk.specs.Assignments.{total}
use Rattle.df_system.specs.declared.reaches.Reach.{Reach}
use Rattle.df_system.specs.Deadlines.{IsDeadline}
use Rattle.df_system.specs.Reaches.{IsReaching}
use Rattle.df_system.proofs.ReachLists.{are_parted, deadline_halved, deadline_beyond}
use Rattle.df_system.proofs.reaches.Reaches.deadline.Goals as goal

pub returns-in-Some : goal.returns-in-Some
returns-in-Some c = λ es reaching.
    let list = c.deref.result.now in
    let need = c.args.need in
    let place = c.partition_point-place.result in
    let reach = c.in-Some.reach.now in
    let r : IsReaching es (total es) list = rw (← c.self.view_is, ← c.deref.ensures.value) at reaching in
    let point = IsPartitionPoint-from_clause (λ (x : Reach). ltb x.most need) _ _ c.partition_point-place.ensures.partitioned (are_parted r need) (λ a x q k. search rules) in
    let same : c.deref-2.result.now ≡ list = c.deref-2.ensures.value ∙ sym c.deref.ensures.value in
    let within : place < length list = subst (λ (l : List Reach). place < length l) same c.in-Some.ensures.lookup.3.0 in
    let at : reach ≡ get_or list place reach = subst (λ (l : List Reach). reach ≡ get_or l place reach) same c.in-Some.ensures.lookup.1 in
    let read : reach ≡ get_or list place (record { due = 0; most = 0 }) = get_or_read list place reach within at (record { due = 0; most = 0 }) in
    subst (λ (x : Reach). IsDeadline Plain es need 0 x.due) (sym read) (deadline_halved es list need place r c.requires (omega (arith, c.ranges.need.fits)) point within)

pub returns-in-None : goal.returns-in-None
returns-in-None c = λ es reaching.
    let list = c.deref.result.now in
    let need = c.args.need in
    let place = c.partition_point-place.result in
    let r : IsReaching es (total es) list = rw (← c.self.view_is, ← c.deref.ensures.value) at reaching in
    let point = IsPartitionPoint-from_clause (λ (x : Reach). ltb x.most need) _ _ c.partition_point-place.ensures.partitioned (are_parted r need) (λ a x q k. search rules) in
    let same : c.deref-2.result.now ≡ list = c.deref-2.ensures.value ∙ sym c.deref.ensures.value in
    let past : length list ≤ place = subst (λ (l : List Reach). length l ≤ place) same c.in-None.ensures.lookup.3 in
    deadline_beyond es list need place r c.requires (omega (arith, c.ranges.need.fits)) point past
