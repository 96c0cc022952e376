-- Lines and pieces of lines are short.
use Rattle.std.proofs.Common.{◌≡◌, ℕ, suc, ◌+◌, ◌*◌, ◌<◌, ◌≤◌, ◌^◌, Bool, true, false, List, [], ◌∷◌, ◌++◌, length, drop, get_or, ℤ, pos, negsuc, codes, decimal, ap, arith, length-append}
use Rattle.std.specs.List.{flat_map}
use Rattle.std.specs.Fmt.{signed_decimal}
use Rattle.std.specs.Prelude.{FitsSigned}
use Rattle.std.specs.Int.{w16}
use Rattle.std.proofs.lemmas.Fmt.{length-decimal-le}
use Rattle.std.proofs.lemmas.List.{drop_more}
use Rattle.df_io.specs.Joined.{spaced}
use Rattle.df_io.proofs.NumbersBack.{decimal_short}
use Rattle.df_walk.specs.declared.CutRow.{CutRow}
use Rattle.df_dossier.specs.Entries.{row_tokens}
use Rattle.df_dossier.specs.Tokens.{after_spaces}
use Rattle.df_dossier.specs.Paths.{end_tokens}
use Rattle.df_dossier.proofs.Joins.{cut_text}

-- a number of 32 bits
pub number_short : (n : ℕ) → n < 2 ^ 32 → length (decimal n) ≤ 10
number_short n small = length-decimal-le 10 n (omega arith) (omega (arith, small)) (omega (arith, small))

-- a weight of 16 bits
weight_short : (z : ℤ) → FitsSigned w16 z → length (signed_decimal z) ≤ 6
weight_short (pos n) fits = let short = length-decimal-le 5 n (omega arith) (omega (arith, fits)) (omega (arith, fits)) in omega (arith, short)
weight_short (negsuc n) fits = let short = length-decimal-le 5 (suc n) (omega arith) (omega (arith, fits)) (omega (arith, fits)) in omega (arith, short)

-- a weighted row: its weight, and its row behind a space
pub row_short : (w : CutRow) → FitsSigned w16 w.weight → length (32 ∷ decimal w.row) ≤ 11 → length (after_spaces (row_tokens w)) ≤ 18
row_short w fits row =
    let weight = weight_short w.weight fits in
    omega (arith, weight, row, length-append (32 ∷ signed_decimal w.weight) (after_spaces (decimal w.row ∷ [])), length-append (32 ∷ decimal w.row) [])

-- one row more
pub rows_more : (ws : List CutRow) (i : ℕ) (d : CutRow) → i < length ws → length (after_spaces (row_tokens (get_or ws i d))) ≤ 18
    → length (flat_map (λ w. after_spaces (row_tokens w)) (drop i ws)) ≤ length (flat_map (λ w. after_spaces (row_tokens w)) (drop (i + 1) ws)) + 18
rows_more ws i d h row =
    let next : flat_map (λ w. after_spaces (row_tokens w)) (drop i ws) ≡ after_spaces (row_tokens (get_or ws i d)) ++ flat_map (λ w. after_spaces (row_tokens w)) (drop (i + 1) ws) =
    ap (flat_map (λ w. after_spaces (row_tokens w))) (drop_more ws i d h) in
    omega (arith, row, ap length next, length-append (after_spaces (row_tokens (get_or ws i d))) (flat_map (λ w. after_spaces (row_tokens w)) (drop (i + 1) ws)))

pub cut_short : (ws : List CutRow) → length (flat_map (λ w. after_spaces (row_tokens w)) ws) ≤ 18 * length ws → length ws ≤ 16 → length (spaced (codes "cut" ∷ flat_map row_tokens ws)) ≤ 291
cut_short ws rows few =
    omega (arith, rows, few, ap length (cut_text ws), length-append (codes "cut") (flat_map (λ w. after_spaces (row_tokens w)) ws))

pub end_short : (finished : Bool) (designs nodes : ℕ) → designs < 2 ^ 64 → nodes < 2 ^ 64 → length (spaced (end_tokens finished designs nodes)) ≤ 70
end_short true designs nodes few_designs few_nodes =
    omega (arith, decimal_short designs few_designs, decimal_short nodes few_nodes, length-append (codes "end finished designs " ++ decimal designs) (codes " nodes " ++ decimal nodes), length-append (decimal designs) (codes " nodes " ++ decimal nodes))
end_short false designs nodes few_designs few_nodes =
    omega (arith, decimal_short designs few_designs, decimal_short nodes few_nodes, length-append (decimal designs) (codes " nodes " ++ (decimal nodes ++ codes " next")), length-append (decimal nodes) (codes " next"))
