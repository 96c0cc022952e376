use Rattle.std.proofs.Common.{◌<◌, ◌++◌, ◌∷◌, ℕ, List, All, codes, length, map, sym, ap, ◌∙◌, subst, arith}
use Rattle.df_io.specs.Joined.{spaced}
use Rattle.df_group.specs.Elements.{order_of}
use Rattle.df_lang.specs.Canonical.{element_text}
use Rattle.df_lang.proofs.GeneratorsBelow.{canonical_below}
use Rattle.df_lang.proofs.print_statements.put_subgroup.Goals as goal

pub put_subgroup_statement-requires-clause-elements : goal.put_subgroup_statement-requires-clause-elements
put_subgroup_statement-requires-clause-elements c =
    let fs = c.args.shape.now in
    subst (λ (l : List ℕ). All (λ (e : ℕ). e < order_of fs) l) (sym (c.as_slice.ensures.value ∙ c.canonical-generators.ensures.canonical)) (canonical_below fs c.args.subgroup.now c.factors-factors.ensures.shape c.requires.subgroup)

pub put_subgroup_statement-requires-clause-room : goal.put_subgroup_statement-requires-clause-room
put_subgroup_statement-requires-clause-room c =
    let fs = c.args.shape.now in
    let is = ap (λ (l : List ℕ). length (spaced (codes "subgroup" ∷ c.args.name.now ∷ map (element_text fs) l))) (c.as_slice.ensures.value ∙ c.canonical-generators.ensures.canonical) in
    omega (arith, c.requires.room, is)

pub returns : goal.returns
returns c =
    let fs = c.args.shape.now in
    c.put_subgroup_statement.ensures
    ∙ ap (λ (l : List ℕ). c.args.buf.now.items ++ spaced (codes "subgroup" ∷ c.args.name.now ∷ map (element_text fs) l)) (c.as_slice.ensures.value ∙ c.canonical-generators.ensures.canonical)
