use Rattle.std.proofs.Common.{◌≡◌, ◌<◌, ◌≤◌, [], List, length, get_or, sym, subst}
use Rattle.std.proofs.lemmas.List.{get_or_read}
use Rattle.df_walk.specs.Systems.{entries}
use Rattle.df_walk.specs.Assignments.{total}
use Rattle.df_system.specs.declared.reaches.Reach.{Reach}
use Rattle.df_system.specs.Reaches.{IsReaching, list_at}
use Rattle.df_system.proofs.ReachLists.{far_list, far_missed}
use Rattle.df_system.proofs.deadlines.Deadlines.far.Goals as goal

pub returns-in-Some : goal.returns-in-Some
returns-in-Some c =
    let s = c.args.system.now in
    let lists = c.args.self.now.far.items in
    let row = c.args.row in
    let es = entries s row in
    let reaches = c.in-Some.reaches.now in
    let within : row < length lists = subst (λ (l : List (List Reach)). row < length l) c.deref.ensures.value c.in-Some.ensures.lookup.3.0 in
    let at : reaches ≡ get_or lists row reaches = subst (λ (l : List (List Reach)). reaches ≡ get_or l row reaches) c.deref.ensures.value c.in-Some.ensures.lookup.1 in
    let read : reaches ≡ list_at lists row = get_or_read lists row reaches within at [] in
    c.deadline.ensures es (subst (λ (l : List Reach). IsReaching es (total es) l) (sym read) (far_list s c.args.self.now.width lists row c.requires.far within c.requires.row))

pub returns-in-None : goal.returns-in-None
returns-in-None c =
    let lists = c.args.self.now.far.items in
    let past : length lists ≤ c.args.row = subst (λ (l : List (List Reach)). length l ≤ c.args.row) c.deref.ensures.value c.in-None.ensures.lookup.3 in
    far_missed c.args.system.now c.args.self.now.width lists c.args.row c.args.need c.requires.far past c.requires.row c.requires.wide c.requires.need
