-- How long the line of a row is.
use Rattle.std.proofs.Common.{ℕ, ◌^◌, ◌<◌, ◌≤◌, ◌++◌, List, length, length-append, codes, arith}
use Rattle.std.specs.Fmt.{decimal}
use Rattle.std.proofs.lemmas.Fmt.{length-decimal-le}

pub line_is_short : (name : List ℕ) (found stated : ℕ) → length name ≤ 63 → found < 2 ^ 64 → stated < 2 ^ 64 → length ((((name ++ codes " found ") ++ decimal found) ++ codes " stated ") ++ decimal stated) ≤ 120
line_is_short name found stated short f s =
    let a = length-decimal-le 20 found (omega arith) (omega arith) f in
    let b = length-decimal-le 20 stated (omega arith) (omega arith) s in
    simp length-append (omega arith)
