use Rattle.std.proofs.Common.{◌∙◌, ◌<◌, ◌/◌, ◌^◌, ap, sym, arith}
use Rattle.std.specs.Int.{bit_at}
use Rattle.std.proofs.lemmas.Nat.Bits.{bit_at_ones, bit_at-trailing_ones}
use Rattle.std.proofs.Math.Nat.{div-le_self}
use mir.Syntax.{w64}
use Rattle.df_system.proofs.BarredSets.{shifted, ones_within}
use Rattle.df_system.proofs.barred.ones_from.Goals as goal

pub returns-then-rest-clause-ones : goal.returns-then-rest-clause-ones
returns-then-rest-clause-ones c = λ k less. sym (shifted c.args.word c.args.bit k) ∙ ap (λ n. bit_at n k) c.if-rest.true ∙ bit_at_ones 64 k less

pub returns-then-rest-clause-within : goal.returns-then-rest-clause-within
returns-then-rest-clause-within c = ones_within c.args.word c.args.bit 64 c.ranges.word.fits c.requires (λ k less. sym (shifted c.args.word c.args.bit k) ∙ ap (λ n. bit_at n k) c.if-rest.true ∙ bit_at_ones 64 k less)

pub returns-else-rest-clause-ones : goal.returns-else-rest-clause-ones
returns-else-rest-clause-ones c =
    let rest = c.args.word / 2 ^ c.args.bit in
    let small : c.args.word < 2 ^ 64 = c.ranges.word.fits in
    let lowest = bit_at-trailing_ones w64 rest (omega (arith, c.if-rest.false, small, div-le_self c.args.word (2 ^ c.args.bit))) in
    λ k less. sym (shifted c.args.word c.args.bit k) ∙ lowest.2 k (omega (arith, less, c.trailing_ones.ensures))

pub returns-else-rest-clause-within : goal.returns-else-rest-clause-within
returns-else-rest-clause-within c =
    let rest = c.args.word / 2 ^ c.args.bit in
    let small : c.args.word < 2 ^ 64 = c.ranges.word.fits in
    let lowest = bit_at-trailing_ones w64 rest (omega (arith, c.if-rest.false, small, div-le_self c.args.word (2 ^ c.args.bit))) in
    ones_within c.args.word c.args.bit c.trailing_ones.result small c.requires (λ k less. sym (shifted c.args.word c.args.bit k) ∙ lowest.2 k (omega (arith, less, c.trailing_ones.ensures)))

pub returns-else-rest-clause-end : goal.returns-else-rest-clause-end
returns-else-rest-clause-end c =
    let rest = c.args.word / 2 ^ c.args.bit in
    let small : c.args.word < 2 ^ 64 = c.ranges.word.fits in
    let lowest = bit_at-trailing_ones w64 rest (omega (arith, c.if-rest.false, small, div-le_self c.args.word (2 ^ c.args.bit))) in
    λ _. sym (shifted c.args.word c.args.bit c.trailing_ones.result) ∙ rw (← c.trailing_ones.ensures) at lowest.1
