use Rattle.std.proofs.Common.{◌<◌, ◌+◌, ◌∙◌, arith, length, length-set, None, take}
use Rattle.std.specs.Prelude.{reverse}
use Rattle.df_system.specs.BarredWords.{levels_of}
use Rattle.df_system.proofs.BarredSets.{levels_push}
use Rattle.df_system.proofs.BarredTrails.{room_push, trail_push, reverse_next, length-reversed}
use Rattle.df_system.proofs.barred.BarredColumns.push.Goals as goal

pub index_mut-requires : goal.index_mut-requires
index_mut-requires c =
    let i = c.self.invariant in
    let t = c.self.inside.trail.items in
    let few = rw (← c.self.view_is) at c.requires in
    omega (arith, room_push (reverse (take c.self.inside.count t)) i.trail_is (omega (arith, few, i.trail_is.depth)), length-reversed t c.self.inside.count i.within, i.room, c.self.inside.trail.ok.0)

pub invariant_of-self : goal.invariant_of-self
invariant_of-self c =
    let i = c.self.invariant in
    let t = c.self.inside.trail.items in
    let n = c.self.inside.count in
    let few = rw (← c.self.view_is) at c.requires in
    let less : c.self.inside.top < length c.self.inside.system.now.columns = omega (arith, few, i.trail_is.depth) in
    let room : n < length t = omega (arith, room_push (reverse (take n t)) i.trail_is less, length-reversed t n i.within, i.room) in
    record {
      words_are = i.words_are;
      kept_is = i.kept_is;
      sets_are = i.sets_are;
      long = c.copy.ensures.long ∙ i.long;
      room = length-set t n None ∙ i.room;
      within = omega (arith, length-set t n None, room);
      trail_is = rw (reverse_next t n None room) (trail_push (reverse (take n t)) i.trail_is less);
      levels_are = rw (reverse_next t n None room) (levels_push c.self.inside.system.now c.self.inside.words c.self.inside.kept (c.self.inside.top + 1) c.self.inside.barred.items c.copy.new.barred.items (levels_of (reverse (take n t))) i.trail_is.depth (omega arith) c.copy.ensures.below c.copy.ensures.copied i.levels_are);
    }

pub returns : goal.returns
returns c =
    let i = c.self.invariant in
    let t = c.self.inside.trail.items in
    let n = c.self.inside.count in
    let few = rw (← c.self.view_is) at c.requires in
    let room : n < length t = omega (arith, room_push (reverse (take n t)) i.trail_is (omega (arith, few, i.trail_is.depth)), length-reversed t n i.within, i.room) in
    rw (← c.self.view_is, reverse_next t n None room)
