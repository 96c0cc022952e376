use Rattle.std.proofs.Common.{◌/◌, ◌^◌, cond, ap, sym, ◌∙◌, bit_xor, arith, eq-eqb, ne_eqb, Less, Greater}
use Rattle.std.specs.Int.{w128, trailing_zeros}
use Rattle.std.specs.Ordering.{nat_cmp}
use Rattle.std.specs.Cmp.Lexicographic.{slice_cmp}
use Rattle.std.proofs.lemmas.Nat.Bits.{shr_and_one}
use Rattle.df_lists.specs.Bits.{members}
use Rattle.df_sets.proofs.BitComparisons.{mine, theirs, same_bits, first_apart, same_order}
use Rattle.df_sets.proofs.number_set.NumberSetOrd.cmp.Goals as goal

pub returns-then-apart-eq0 : goal.returns-then-apart-eq0
returns-then-apart-eq0 c =
    sym (ap (λ l. slice_cmp nat_cmp l c.args.other.now) (sym c.self.view_is ∙ ap members (same_bits c.self.inside.bits c.other.inside.bits c.if-apart-eq0.true) ∙ c.other.view_is) ∙ same_order c.args.other.now)

pub overflow_shr-self-inside : goal.overflow_shr-self-inside
overflow_shr-self-inside c = (first_apart c.self.inside.bits c.other.inside.bits (omega (arith, c.if-apart-eq0.false)) c.self.invariant c.other.invariant).0

pub overflow_shr-other-inside : goal.overflow_shr-other-inside
overflow_shr-other-inside c = (first_apart c.self.inside.bits c.other.inside.bits (omega (arith, c.if-apart-eq0.false)) c.self.invariant c.other.invariant).0

pub overflow_shr-self-inside-else-self-first-eq1 : goal.overflow_shr-self-inside-else-self-first-eq1
overflow_shr-self-inside-else-self-first-eq1 c = (first_apart c.self.inside.bits c.other.inside.bits (omega (arith, c.if-apart-eq0.false)) c.self.invariant c.other.invariant).0

pub returns-then-other-first-eq0 : goal.returns-then-other-first-eq0
returns-then-other-first-eq0 c =
    let x = c.self.inside.bits in
    let y = c.other.inside.bits in
    let t = trailing_zeros w128 (bit_xor x y) in
    sym (mine x y c.args.self.now c.args.other.now c.self.view_is c.other.view_is c.self.invariant c.other.invariant (omega (arith, c.if-apart-eq0.false)) (sym (shr_and_one x t) ∙ c.if-self-first-eq1.true)
    ∙ ap (λ e. cond e Greater Less) (eq-eqb (y / 2 ^ t) 0 c.if-other-first-eq0.true))

pub returns-else-other-first-eq0 : goal.returns-else-other-first-eq0
returns-else-other-first-eq0 c =
    let x = c.self.inside.bits in
    let y = c.other.inside.bits in
    let t = trailing_zeros w128 (bit_xor x y) in
    sym (mine x y c.args.self.now c.args.other.now c.self.view_is c.other.view_is c.self.invariant c.other.invariant (omega (arith, c.if-apart-eq0.false)) (sym (shr_and_one x t) ∙ c.if-self-first-eq1.true)
    ∙ ap (λ e. cond e Greater Less) (ne_eqb (y / 2 ^ t) 0 c.if-other-first-eq0.false))

pub returns-then-self-first-eq0 : goal.returns-then-self-first-eq0
returns-then-self-first-eq0 c =
    let x = c.self.inside.bits in
    let y = c.other.inside.bits in
    let t = trailing_zeros w128 (bit_xor x y) in
    sym (theirs x y c.args.self.now c.args.other.now c.self.view_is c.other.view_is c.self.invariant c.other.invariant (omega (arith, c.if-apart-eq0.false)) (λ e. c.if-self-first-eq1.false (shr_and_one x t ∙ e))
    ∙ ap (λ e. cond e Less Greater) (eq-eqb (x / 2 ^ t) 0 c.if-self-first-eq0.true))

pub returns-else-self-first-eq0 : goal.returns-else-self-first-eq0
returns-else-self-first-eq0 c =
    let x = c.self.inside.bits in
    let y = c.other.inside.bits in
    let t = trailing_zeros w128 (bit_xor x y) in
    sym (theirs x y c.args.self.now c.args.other.now c.self.view_is c.other.view_is c.self.invariant c.other.invariant (omega (arith, c.if-apart-eq0.false)) (λ e. c.if-self-first-eq1.false (shr_and_one x t ∙ e))
    ∙ ap (λ e. cond e Less Greater) (ne_eqb (x / 2 ^ t) 0 c.if-self-first-eq0.false))
