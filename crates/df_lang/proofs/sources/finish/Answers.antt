use Rattle.std.proofs.Common.{◌≡◌, ℕ, ◌<◌, [], length, map, Option, Some, None, option_map, unwrap_or, refl, sym, ap, ◌∙◌, arith}
use Rattle.std.proofs.lemmas.List.{length-map}
use Rattle.arrayvec.specs.ArrayVec.{ArrayVec}
use Rattle.df_lang.specs.declared.problem.TheConstants.{NAMES_LIMIT}
use Rattle.df_lang.specs.Stored.{named, items_of}
use Rattle.df_lang.specs.Drafts.{above}
use Rattle.df_lang.proofs.LinesKept.{whole_kept}
use Rattle.df_lang.proofs.sources.finish.Goals as goal

items_or : (o : Option (ArrayVec ℕ)) (v : ArrayVec ℕ) → v.items ≡ [] → unwrap_or (option_map items_of o) [] ≡ (unwrap_or o v).items
items_or None v none = sym none
items_or (Some w) v none = refl

pub invariant_of-result : goal.invariant_of-result
invariant_of-result c =
    let d = c.args.draft in
    let ks = c.in-Some-sizes.sizes.items in
    let n = c.in-Some-lambda.lambda in
    let sized : option_map items_of d.sizes ≡ Some ks = ap (option_map items_of) c.in-Some-sizes.is in
    let few : length (map named d.names.entries) < NAMES_LIMIT = omega (arith, d.few_names, length-map d.names.entries named) in
    let kept = whole_kept (above d) c.in-Some.shape ks n c.requires c.in-Some.is sized c.in-Some-lambda.is few in
    let mults : c.unwrap_or-4.result.items ≡ unwrap_or (option_map items_of d.mults) [] = ap items_of c.unwrap_or-4.ensures ∙ sym (items_or d.mults c.new.result c.new.ensures) in
    rw (c.unwrap_or.ensures, c.unwrap_or-2.ensures, c.unwrap_or-3.ensures, mults, c.unwrap_or-5.ensures) kept
