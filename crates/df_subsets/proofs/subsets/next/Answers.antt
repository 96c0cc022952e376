use Rattle.std.proofs.Common.{◌≡◌, ◌+◌, ◌-◌, ◌*◌, ◌%◌, ◌^◌, ◌<◌, ap, sym, ◌∙◌, arith, length, slice_get, Some}
use Rattle.std.specs.List.{range_with_len}
use Rattle.std.proofs.lemmas.Nat.{one_shl}
use Rattle.df_lists.specs.Bits.{members, weight}
use Rattle.df_subsets.specs.Subsets.{subsets, rank}
use Rattle.df_sets.proofs.MemberBits.{weight_bound}
use Rattle.df_subsets.proofs.Places.{inside_at}
use Rattle.df_subsets.proofs.NextBlocks.{last_one, next_one, has_gap, joined_bits}
use Rattle.df_subsets.proofs.subsets.next.Goals as goal

pub below_top-top-requires-clause-within : goal.below_top-top-requires-clause-within
below_top-top-requires-clause-within c = let l = weight_bound 0 c.args.v c.args.block.now (omega arith) c.requires.within in omega (arith, l, c.bits.ensures)

pub returns-then-low-eq0-clause-next : goal.returns-then-low-eq0-clause-next
returns-then-low-eq0-clause-next c =
    let v = c.args.v in
    let t = c.below_top-top.result.0 in
    sym (last_one v t c.requires.small c.below_top-top.ensures.run c.args.block.now c.requires.within (omega (arith, c.below_top-top.ensures.split, c.if-low-eq0.true, c.bits.ensures)))

pub overflow_sub-lower : goal.overflow_sub-lower
overflow_sub-lower c = omega (arith, one_shl c.ilog2-moved.result 128 c.ilog2-moved.ensures.bound, c.ilog2-moved.ensures.power_le)

pub overflow_shl-run-2 : goal.overflow_shl-run-2
overflow_shl-run-2 c =
    let gap = has_gap c.args.v c.below_top-top.result.0 c.ilog2-moved.result c.below_top-top.result.1 c.ilog2-moved.ensures.power_le c.below_top-top.ensures.gap in
    omega (arith, gap, c.requires.small)

pub returns : goal.returns
returns c =
    let v = c.args.v in
    let b = c.args.block.now in
    let t = c.below_top-top.result.0 in
    let low = c.below_top-top.result.1 in
    let p = c.ilog2-moved.result in
    let gap = has_gap v t p low c.ilog2-moved.ensures.power_le c.below_top-top.ensures.gap in
    let one = one_shl p 128 c.ilog2-moved.ensures.bound in
    let lower = low - 1 * 2 ^ p % 2 ^ 128 in
    let small : lower < 2 ^ p = omega (arith, one, c.ilog2-moved.ensures.power_le, c.ilog2-moved.ensures.next_power_gt) in
    let whole : 2 ^ p + lower + weight (range_with_len (v - t) t) ≡ weight b = omega (arith, one, c.ilog2-moved.ensures.power_le, c.below_top-top.ensures.split, c.bits.ensures) in
    let is : slice_get (subsets v (length b)) (rank v b + 1) ≡ Some c.from_bits.result =
    next_one v t c.requires.small c.below_top-top.ensures.run p lower gap small b c.requires.within whole
    ∙ ap (λ n. Some (members n)) (sym (joined_bits v t p lower c.requires.small gap small)) ∙ ap Some (sym c.from_bits.ensures) in
    record { next = sym is; block = inside_at v (length b) (rank v b + 1) c.from_bits.result is }
