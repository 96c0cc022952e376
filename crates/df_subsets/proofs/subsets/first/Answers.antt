use Rattle.std.proofs.Common.{◌≡◌, ap, sym, ◌∙◌, ◌^◌, ◌-◌, ◌/◌, arith, Some}
use Rattle.df_lists.specs.Bits.{members}
use Rattle.std.proofs.lemmas.Nat.Bits.{ones_shr}
use Rattle.df_subsets.specs.Subsets.{points}
use Rattle.df_subsets.proofs.Places.{inside_at}
use Rattle.df_subsets.proofs.NextBlocks.{first_is, first_bits}
use Rattle.df_subsets.proofs.subsets.first.Goals as goal

pub returns : goal.returns
returns c =
    let k = c.args.k in
    let ones : (2 ^ 128 - 1) / 2 ^ (128 - k) ≡ 2 ^ k - 1 = ones_shr 128 (128 - k) (omega arith) ∙ ap (λ n. 2 ^ n - 1) {x = 128 - (128 - k)} {y = k} (omega arith) in
    let is : c.from_bits.result ≡ points k = c.from_bits.ensures ∙ ap members ones ∙ first_bits k (omega arith) in
    let place = first_is c.args.v k c.requires.within ∙ ap Some (sym is) in
    let inside = inside_at c.args.v k 0 c.from_bits.result place in
    record { first = place; points = is; block = inside.0; size = inside.1 }
