use Rattle.std.proofs.Common.{ℕ, List, ap, filter, length, ◌∙◌, arith}
use Rattle.std.proofs.lemmas.List.Sums.{length-filter, count_by-le-length}
use Rattle.std.proofs.lemmas.List.FromFn.{length-range_with_len}
use Rattle.df_group.specs.Elements.{order_of}
use Rattle.df_lang.specs.Problems.{Stated}
use Rattle.df_family.specs.Translates.{elements, fixes}
use Rattle.df_family.proofs.translate.stabilizer.Goals as goal

pub returns : goal.returns
returns c =
    let s = c.args.problem.now in
    let test = fixes s c.args.block.now in
    let count = c.from.ensures ∙ c.len.ensures.length ∙ ap length c.fixing.ensures ∙ ap (λ (l : List ℕ). length (filter test l)) c.whole-elements.ensures.members ∙ ap (λ (t : Stated). length (filter test (elements t))) c.problem.view_is ∙ length-filter test (elements s) in
    record { count = count; some = omega (arith, count, count_by-le-length test (elements s), length-range_with_len 0 (order_of s.group)) }
