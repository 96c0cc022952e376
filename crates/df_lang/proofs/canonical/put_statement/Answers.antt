use Rattle.std.proofs.Common.{◌<◌, ◌∷◌, codes, decimal, get_or, length, map, ap, ◌∙◌, subst, arith}
use Rattle.std.proofs.lemmas.List.{length-map}
use Rattle.df_io.specs.Joined.{spaced}
use Rattle.df_lang.specs.declared.canonical.Section.{Section}
use Rattle.df_lang.specs.Problems.{Stated, IsStated, IsNamed, point_count}
use Rattle.df_lang.specs.Canonical.{statements_in, block_tokens, member_tokens, subgroup_tokens}
use Rattle.df_lang.proofs.EachMember.{each_from}
use Rattle.df_lang.proofs.LinesShort.{group_short, number_line_short, mult_short, sizes_short, inside_short, listed_short, member_short}
use Rattle.df_lang.proofs.canonical.put_statement.Goals as goal

pub put_numbers_statement-requires : goal.put_numbers_statement-requires
put_numbers_statement-requires c =
    let short = group_short c.problem.inside.shape c.factors.ensures.shape in
    omega (arith, ap length c.requires.empty, short, ap (λ l. length (spaced (codes "group" ∷ map decimal l))) c.factors.ensures.factors)

pub put_number_statement-requires : goal.put_number_statement-requires
put_number_statement-requires c =
    let short = number_line_short (codes "fixed") c.from.result (omega arith) (omega (arith, c.from.ensures, c.problem.invariant.fixed)) in
    omega (arith, ap length c.requires.empty, short)

pub put_number_statement-requires-in-Lambda : goal.put_number_statement-requires-in-Lambda
put_number_statement-requires-in-Lambda c =
    let short = number_line_short (codes "lambda") c.from-in-Lambda.result (omega arith) (omega (arith, c.from-in-Lambda.ensures, c.problem.invariant.lambda)) in
    omega (arith, ap length c.requires.empty, short)

pub put_number_statement-requires-in-Hole : goal.put_number_statement-requires-in-Hole
put_number_statement-requires-in-Hole c =
    let short = number_line_short (codes "hole") c.from-in-Hole.result (omega arith) (omega (arith, c.from-in-Hole.ensures, c.problem.invariant.hole)) in
    omega (arith, ap length c.requires.empty, short)

pub put_numbers_statement-requires-in-Mult : goal.put_numbers_statement-requires-in-Mult
put_numbers_statement-requires-in-Mult c =
    let short = mult_short c.problem.inside.shape c.problem.inside.mults.items c.problem.invariant.shape c.problem.invariant.mults c.problem.invariant.mults_once in
    omega (arith, ap length c.requires.empty, short, ap (λ l. length (spaced (codes "mult" ∷ map decimal l))) c.as_slice.ensures.value)

pub put_sizes_statement-requires : goal.put_sizes_statement-requires
put_sizes_statement-requires c =
    let short = sizes_short c.problem.inside.sizes.items c.problem.invariant.sizes_rise in
    omega (arith, ap length c.requires.empty, short, ap (λ l. length (spaced (codes "k" ∷ map decimal l))) c.as_slice-in-Sizes.ensures.value)

pub put_inside-requires : goal.put_inside-requires
put_inside-requires c =
    let stated = subst IsStated c.problem.view_is c.problem.invariant in
    let s = c.args.problem.now in
    let is = rw c.in-Some.is at c.problem.invariant.inside in
    let short = inside_short s.group s.names c.in-Some.inside.subgroup c.in-Some.inside.target (each_from (IsNamed s.group) s.names stated.names) is.target in
    omega (arith, ap length c.requires.empty, short)

pub put_member-requires : goal.put_member-requires
unfolding statements_in
put_member-requires c =
    let stated = subst IsStated c.problem.view_is c.problem.invariant in
    let s = c.args.problem.now in
    let m = c.index.result.now in
    let within : c.args.number < length s.family = omega (arith, c.requires.number, ap (λ (x : Section). length (statements_in s x)) c.in-Family.is, length-map s.family (member_tokens s.group)) in
    let short = member_short s.group (point_count s) s.sizes s.family c.args.number m stated.shape stated.points stated.sizes stated.family within (c.index.ensures ∙ ap (λ (t : Stated). get_or t.family c.args.number m) c.problem.view_is) in
    omega (arith, ap length c.requires.empty, short)

pub put_block_statement-requires : goal.put_block_statement-requires
unfolding statements_in
put_block_statement-requires c =
    let stated = subst IsStated c.problem.view_is c.problem.invariant in
    let s = c.args.problem.now in
    let b = c.index-in-Required.result.now in
    let within : c.args.number < length s.required = omega (arith, c.requires.number, ap (λ (x : Section). length (statements_in s x)) c.in-Required.is, length-map s.required (block_tokens s.group (codes "require"))) in
    let short = listed_short s.group (codes "require") (point_count s) s.sizes s.required c.args.number b stated.shape stated.points (omega arith) stated.sizes stated.required within (c.index-in-Required.ensures ∙ ap (λ (t : Stated). get_or t.required c.args.number b) c.problem.view_is) in
    omega (arith, ap length c.requires.empty, short)

pub put_block_statement-requires-in-Forbidden : goal.put_block_statement-requires-in-Forbidden
unfolding statements_in
put_block_statement-requires-in-Forbidden c =
    let stated = subst IsStated c.problem.view_is c.problem.invariant in
    let s = c.args.problem.now in
    let b = c.index-in-Forbidden.result.now in
    let within : c.args.number < length s.forbidden = omega (arith, c.requires.number, ap (λ (x : Section). length (statements_in s x)) c.in-Forbidden.is, length-map s.forbidden (block_tokens s.group (codes "forbid"))) in
    let short = listed_short s.group (codes "forbid") (point_count s) s.sizes s.forbidden c.args.number b stated.shape stated.points (omega arith) stated.sizes stated.forbidden within (c.index-in-Forbidden.ensures ∙ ap (λ (t : Stated). get_or t.forbidden c.args.number b) c.problem.view_is) in
    omega (arith, ap length c.requires.empty, short)

pub put_named-requires : goal.put_named-requires
unfolding statements_in
put_named-requires c =
    let s = c.args.problem.now in
    record {
      number = omega (arith, c.requires.number, ap (λ (x : Section). length (statements_in s x)) c.in-Subgroups.is, length-map s.names (subgroup_tokens s.group));
      empty = c.requires.empty;
    }
