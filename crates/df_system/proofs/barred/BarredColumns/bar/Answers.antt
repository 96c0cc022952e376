use Rattle.std.proofs.Common.{◌<◌, ◌∙◌, arith, length, length-set, Some, take}
use Rattle.std.specs.Prelude.{reverse}
use Rattle.df_system.specs.BarredWords.{levels_of}
use Rattle.df_system.proofs.BarredSets.{levels_bar}
use Rattle.df_system.proofs.BarredTrails.{room_bar, trail_bar, reverse_next, length-reversed}
use Rattle.df_system.proofs.barred.BarredColumns.bar.Goals as goal

pub index_mut-requires : goal.index_mut-requires
index_mut-requires c =
    let i = c.self.invariant in
    let t = c.self.inside.trail.items in
    let within = rw (← c.self.view_is) at c.requires.row in
    let fresh = rw (← c.self.view_is) at c.requires.fresh in
    omega (arith, room_bar (reverse (take c.self.inside.count t)) c.args.row i.trail_is within fresh, length-reversed t c.self.inside.count i.within, i.room, c.self.inside.trail.ok.0)

pub invariant_of-self : goal.invariant_of-self
invariant_of-self c =
    let i = c.self.invariant in
    let t = c.self.inside.trail.items in
    let n = c.self.inside.count in
    let within = rw (← c.self.view_is) at c.requires.row in
    let fresh = rw (← c.self.view_is) at c.requires.fresh in
    let room : n < length t = omega (arith, room_bar (reverse (take n t)) c.args.row i.trail_is within fresh, length-reversed t n i.within, i.room) in
    let joined = rw c.deref.ensures.value at c.join.ensures.joined in
    record {
      words_are = i.words_are;
      kept_is = i.kept_is;
      sets_are = i.sets_are;
      long = c.join.ensures.long ∙ i.long;
      room = length-set t n (Some c.args.row) ∙ i.room;
      within = omega (arith, length-set t n (Some c.args.row), room);
      trail_is = rw (reverse_next t n (Some c.args.row) room) (trail_bar (reverse (take n t)) c.args.row i.trail_is within fresh);
      levels_are = rw (reverse_next t n (Some c.args.row) room) (levels_bar c.self.inside.system.now c.self.inside.words c.self.inside.kept c.self.inside.top c.args.row c.self.inside.sets.items c.self.inside.barred.items c.join.new.barred.items (levels_of (reverse (take n t))) i.trail_is.depth within i.sets_are c.join.ensures.below joined i.levels_are);
    }

pub returns : goal.returns
returns c =
    let i = c.self.invariant in
    let t = c.self.inside.trail.items in
    let n = c.self.inside.count in
    let within = rw (← c.self.view_is) at c.requires.row in
    let fresh = rw (← c.self.view_is) at c.requires.fresh in
    let room : n < length t = omega (arith, room_bar (reverse (take n t)) c.args.row i.trail_is within fresh, length-reversed t n i.within, i.room) in
    rw (← c.self.view_is, reverse_next t n (Some c.args.row) room)
