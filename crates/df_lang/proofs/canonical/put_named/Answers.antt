use Rattle.std.proofs.Common.{◌≡◌, ◌<◌, ◌++◌, ℕ, List, [], Some, length, map, get_or, sym, ap, ◌∙◌, subst, arith}
use Rattle.std.specs.Prelude.{slice_get}
use Rattle.std.specs.Option.{option_map}
use Rattle.std.proofs.lemmas.Option.{slice_get-map, get_or_from_slice_get}
use Rattle.arrayvec.specs.ArrayVec.{ArrayVec}
use Rattle.df_io.specs.Joined.{spaced}
use Rattle.df_group.proofs.SubgroupLaws.{are_subgroups}
use Rattle.df_lang.specs.Problems.{Stated, Named, IsNamed}
use Rattle.df_lang.specs.Stored.{named}
use Rattle.df_lang.specs.Canonical.{subgroup_tokens}
use Rattle.df_lang.proofs.LinesShort.{subgroup_short}
use Rattle.df_lang.proofs.canonical.put_named.Goals as goal

-- the name and the subgroup at a place
named_at : (entries : List (ArrayVec ℕ × List ℕ)) (n : ℕ) (x : ArrayVec ℕ × List ℕ) → Some x ≡ slice_get entries n → get_or (map named entries) n ([], []) ≡ named x
named_at entries n x e = get_or_from_slice_get (map named entries) n (named x) ([], []) (slice_get-map named entries n ∙ ap (option_map named) (sym e))

pub put_subgroup-requires : goal.put_subgroup-requires
put_subgroup-requires c =
    let fs = c.problem.inside.shape in
    let within : c.args.number < length (map named c.problem.inside.names.entries) = omega (arith, c.requires.number, ap (λ (s : Stated). length s.names) c.problem.view_is) in
    let row = named_at c.problem.inside.names.entries c.args.number _ c.in-Some.ensures.entry in
    let is = subst (IsNamed fs) row (c.problem.invariant.names c.args.number ([], []) within) in
    let few = (are_subgroups fs c.problem.invariant.shape).few c.in-Some.subgroup.now is.subgroup in
    let short = subgroup_short fs (named (c.in-Some.name.now, c.in-Some.subgroup.now)) c.problem.invariant.shape is few in
    record {
      subgroup = is.subgroup;
      room = omega (arith, ap length c.requires.empty, short, ap (λ (l : List ℕ). length (spaced (subgroup_tokens fs (l, c.in-Some.subgroup.now)))) c.as_slice.ensures.value);
    }

pub returns-in-Some : goal.returns-in-Some
returns-in-Some c =
    let fs = c.problem.inside.shape in
    let n = c.args.number in
    let row = named_at c.problem.inside.names.entries n _ c.in-Some.ensures.entry in
    c.put_subgroup.ensures
    ∙ ap (λ (l : List ℕ). l ++ spaced (subgroup_tokens fs (c.as_slice.result.now, c.in-Some.subgroup.now))) c.requires.empty
    ∙ ap (λ (l : List ℕ). spaced (subgroup_tokens fs (l, c.in-Some.subgroup.now))) c.as_slice.ensures.value
    ∙ ap (λ (x : Named). spaced (subgroup_tokens fs x)) (sym row)
    ∙ ap (λ (s : Stated). spaced (subgroup_tokens s.group (get_or s.names n ([], [])))) c.problem.view_is
