use Rattle.std.proofs.Common.{◌∙◌, ◌||◌, ap, eqb, arith, length, ◌<◌, ◌/◌}
use Rattle.std.proofs.lemmas.List.{get_or_read}
use Rattle.df_orbits.specs.MarkedPlaces.{is_marked}
use Rattle.df_orbits.proofs.MarkLaws.{mark_put}
use Rattle.df_orbits.proofs.marks.Marks.put.Goals as goal

pub returns-clause-marks : goal.returns-clause-marks
returns-clause-marks c = λ other.
    let inside : c.args.place / 64 < length c.self.inside.words.items = omega (arith, ap length c.self.view_is, c.requires) in
    mark_put c.self.inside.words.items c.index_mut.result.now c.args.place inside (get_or_read c.self.inside.words.items (c.args.place / 64) c.index_mut.result.now inside c.index_mut.ensures.value 0) other
    ∙ ap (λ l. is_marked l other || eqb c.args.place other) c.self.view_is
