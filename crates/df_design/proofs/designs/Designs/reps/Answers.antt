use Rattle.std.proofs.Common.{◌≡◌, length, ap, sym, ◌∙◌, subst}
use Rattle.df_kramer_mesner.specs.OrbitSystems.{columns_of}
use Rattle.df_correspondence.specs.Designs.{base, design}
use Rattle.df_design.proofs.RemainingLaws.{bases_listed}
use Rattle.df_design.proofs.designs.Designs.reps.Goals as goal

pub new-requires : goal.new-requires
new-requires c = c.chosen.ensures.long ∙ ap (λ r. length (columns_of r.problem)) (sym c.self.view_is)

pub returns : goal.returns
returns c =
    let x = c.chosen.result.now in
    bases_listed c.args.self.now x c.new.result c.chosen.ensures.value (subst (λ r. base r.problem (design r.problem x) ≡ c.new.result) c.self.view_is (c.matrix_tells_designs.ensures.bases x ∙ sym c.new.ensures))
