use Rattle.std.proofs.Common.{◌≡◌, ◌+◌, ◌*◌, ◌/◌, ℕ, List, length, map, ap, sym, ◌∙◌, arith, mul_comm, mul-div_cancel, true, refl}
use Rattle.std.proofs.lemmas.List.FromFn.{length-range_with_len}
use Rattle.std.proofs.lemmas.List.{length-map}
use Rattle.df_group.specs.Elements.{order_of}
use Rattle.df_lang.specs.declared.pieces.Kind.{Kind}
use Rattle.df_lang.specs.declared.pieces.Kind.TheVariants as kinds
use Rattle.df_family.specs.Translates.{elements, translate, stabilizer}
use Rattle.df_family.specs.Developments.{translates}
use Rattle.df_family.specs.Tables.{occurs, summand_of}
use Rattle.df_family.specs.Tallies.{number_at}
use Rattle.df_group.proofs.ElementLaws.{is_group}
use Rattle.df_lang.specs.Problems.{point_count}
use Rattle.df_family.proofs.RemainderLaws.{set_below}
use Rattle.df_family.proofs.ShiftLaws.{all_pass, stabilizer_some}
use Rattle.df_family.proofs.CoverLaws.{translates_length}
use Rattle.df_family.proofs.BalanceLaws.{whole_closed}
use Rattle.df_family.proofs.TallyLaws.{summand_small}
use Rattle.df_family.proofs.tally.Tally.count_member.Goals as goal

pub stabilizer-requires : goal.stabilizer-requires
stabilizer-requires c = set_below (point_count c.args.problem.now) c.args.member.now.block c.requires.set

pub add_quotients-requires-clause-divisor : goal.add_quotients-requires-clause-divisor
add_quotients-requires-clause-divisor c =
    let s = c.args.problem.now in
    omega (arith, stabilizer_some s (is_group s.group c.requires.rules.shape) (elements s) (whole_closed s c.requires.rules.shape) c.args.member.now.block c.requires.set, c.stabilizer.ensures.count, c.from-fixing.ensures)

pub add_quotients-requires-clause-own_room : goal.add_quotients-requires-clause-own_room
add_quotients-requires-clause-own_room c = λ row h. omega (arith, c.count_block-in-Short.ensures.exact row h, c.count_block-in-Short.ensures.few row, c.new-own.ensures row)

pub returns-in-Base-clause-exact : goal.returns-in-Base-clause-exact
returns-in-Base-clause-exact c = λ row h.
    c.count_block.ensures.exact row h ∙ ap (λ (k : Kind). number_at c.args.self.now row + summand_of c.args.problem.now row k c.args.member.now.block) (sym c.in-Base.is)

pub returns-in-Base-clause-few : goal.returns-in-Base-clause-few
returns-in-Base-clause-few c = λ row. summand_small c.args.problem.now c.args.member.now.kind c.args.member.now.block row (c.count_block.ensures.few row)

pub returns-in-Short-clause-exact : goal.returns-in-Short-clause-exact
returns-in-Short-clause-exact c = λ row h.
    let s = c.args.problem.now in
    let block = c.args.member.now.block in
    let old = number_at c.args.self.now row in
    let own : number_at c.count_block-in-Short.new.self row ≡ occurs s row block = omega (arith, c.count_block-in-Short.ensures.exact row h, c.new-own.ensures row) in
    let divisor : c.from-fixing.result ≡ stabilizer s block = c.from-fixing.ensures ∙ c.stabilizer.ensures.count in
    c.add_quotients.ensures row h ∙ ap (λ n. old + n / c.from-fixing.result) own ∙ ap (λ n. old + occurs s row block / n) divisor
    ∙ ap (λ (k : Kind). old + summand_of s row k block) (sym c.in-Short.is)

pub returns-in-Short-clause-few : goal.returns-in-Short-clause-few
returns-in-Short-clause-few c = λ row. summand_small c.args.problem.now c.args.member.now.kind c.args.member.now.block row (c.count_block-in-Short.ensures.few row)

pub nonzero_div-result : goal.nonzero_div-result
nonzero_div-result c =
    let s = c.args.problem.now in
    omega (arith, stabilizer_some s (is_group s.group c.requires.rules.shape) (elements s) (whole_closed s c.requires.rules.shape) c.args.member.now.block c.requires.set, c.stabilizer.ensures.count, c.from-fixing.ensures)

pub returns-in-Base-clause-translates : goal.returns-in-Base-clause-translates
returns-in-Base-clause-translates c =
    let s = c.args.problem.now in
    let block = c.args.member.now.block in
    c.from-order.ensures ∙ c.order.ensures.order ∙ sym (length-range_with_len 0 (order_of s.group)) ∙ sym (length-map (elements s) (translate s block))
    ∙ ap (λ (l : List ℕ). length (map (translate s block) l)) (sym (all_pass (λ g. true) (elements s) (λ g. refl)))
    ∙ ap (λ (k : Kind). length (translates s record { kind = k; block = block })) (sym c.in-Base.is)

pub returns-in-Short-clause-translates : goal.returns-in-Short-clause-translates
returns-in-Short-clause-translates c =
    let s = c.args.problem.now in
    let block = c.args.member.now.block in
    let is = is_group s.group c.requires.rules.shape in
    let closed = whole_closed s c.requires.rules.shape in
    let m = stabilizer s block in
    let n = length (translates s record { kind = kinds.Short; block = block }) in
    let all = translates_length s is (elements s) closed block c.requires.set in
    ap (λ x. x / c.from-fixing.result) (c.from-order.ensures ∙ c.order.ensures.order ∙ sym (length-range_with_len 0 (order_of s.group)) ∙ all ∙ mul_comm m n)
    ∙ ap (λ x. n * m / x) (c.from-fixing.ensures ∙ c.stabilizer.ensures.count) ∙ mul-div_cancel n (stabilizer_some s is (elements s) closed block c.requires.set)
    ∙ ap (λ (k : Kind). length (translates s record { kind = k; block = block })) (sym c.in-Short.is)
