use Rattle.std.proofs.Common.{◌≡◌, ◌∷◌, ◌+◌, ◌<◌, ℕ, Bool, List, false, length, get_or, refl, ap, sym, subst, ◌∙◌}
use Rattle.std.proofs.lemmas.List.{take_rest}
use Rattle.df_design.specs.LeftBlocks.{chosen_from, IsFirstYes}
use Rattle.df_design.proofs.ChosenColumns.{chosen_none, chosen_next}
use Rattle.df_design.proofs.reps.Reps.next.Goals as goal

pub returns-in-None-clause-block : goal.returns-in-None-clause-block
returns-in-None-clause-block c =
    let s = c.self.inside.matrix.now in
    let x = c.self.inside.chosen.now in
    let column = c.self.inside.column in
    let none = sym c.self.view_is ∙ chosen_none s x column (subst (λ (l : List Bool). (k : ℕ) → k < length l → get_or l k false ≡ false) (take_rest x column) (c.in-None.ensures.none refl)) in
    (none, none)

pub returns-in-Some-clause-block : goal.returns-in-Some-clause-block
returns-in-Some-clause-block c =
    let s = c.self.inside.matrix.now in
    let x = c.self.inside.chosen.now in
    let column = c.self.inside.column in
    let k = c.in-Some.skipped in
    let first = subst (λ (l : List Bool). IsFirstYes l k) (take_rest x column) c.in-Some.ensures.some in
    sym c.self.view_is ∙ chosen_next s x column k c.self.invariant.long first ∙ ap (λ b. b ∷ chosen_from s x (column + k + 1)) (sym c.column_block.ensures.column)
