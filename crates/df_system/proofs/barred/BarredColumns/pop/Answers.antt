use Rattle.std.proofs.Common.{◌≡◌, ◌<◌, arith, length, drop, take}
use Rattle.std.specs.Prelude.{reverse}
use Rattle.df_system.specs.BarredWords.{levels_of}
use Rattle.df_system.proofs.BarredSets.{levels_pop}
use Rattle.df_system.proofs.BarredTrails.{trail_pop}
use Rattle.df_system.proofs.barred.BarredColumns.pop.Goals as goal

pub invariant_of-self : goal.invariant_of-self
invariant_of-self c =
    let i = c.self.invariant in
    let t = c.self.inside.trail.items in
    let n = c.self.inside.count in
    let some : 1 < length (levels_of (reverse (take n t))) = rw (← c.self.view_is) at c.requires in
    let is : levels_of (reverse (take c.level_start-self-inside.result t)) ≡ drop 1 (levels_of (reverse (take n t))) = rw c.deref.ensures.value at c.level_start-self-inside.ensures.levels in
    let less = c.level_start-self-inside.ensures.within in
    record {
      words_are = i.words_are;
      kept_is = i.kept_is;
      sets_are = i.sets_are;
      long = i.long;
      room = i.room;
      within = omega (arith, less, i.within);
      trail_is = trail_pop t c.level_start-self-inside.result n i.trail_is (omega (arith, less)) i.within some is;
      levels_are = rw is (levels_pop c.self.inside.system.now c.self.inside.words c.self.inside.kept c.self.inside.barred.items (levels_of (reverse (take n t))) i.levels_are);
    }
