-- Printed numbers and words, read as tokens.
use Rattle.std.proofs.Common.{◌≡◌, ℕ, ◌<◌, ◌≤◌, ◌^◌, Bool, true, false, not, ◌&&◌, leb, List, [], ◌∷◌, length, Some, decimal, refl, ap, ◌∙◌, arith, tests}
use Rattle.std.specs.List.{list_all}
use Rattle.df_io.specs.Lines.{is_blank, is_hash}
use Rattle.df_io.specs.Joined.{Lacks, IsToken}
use Rattle.df_io.proofs.Joining.{lacks_onto}
use Rattle.df_io.proofs.NumbersBack.{number_back}
use Rattle.df_dossier.specs.Tokens.{number_within, within, place_of}

pub within_back : (least most n : ℕ) → least ≤ n → n ≤ most → most < 2 ^ 64 → number_within least most (decimal n) ≡ Some n
within_back least most n low high small =
    let above : leb least n ≡ true = grind (arith, tests, low) in
    let below : leb n most ≡ true = grind (arith, tests, high) in
    ap (within least most) (number_back n (omega (arith, high, small))) ∙ rw (above, below) refl

pub place_back : (n : ℕ) → n ≤ 4294967295 → place_of (decimal n) ≡ Some n
place_back n high = within_back 0 4294967295 n (omega arith) high (omega arith)

-- a byte that may stand in a token
abbrev pub is_inked : ℕ → Bool
is_inked b = not (is_blank b) && not (is_hash b)

inked_first : (x y r : Bool) → ((not x && not y) && r) ≡ true → (x ≡ false) × ((y ≡ false) × (r ≡ true))
inked_first false false true is = (refl, (refl, refl))
inked_first false false false is = absurd (cc)
inked_first false true r is = absurd (cc)
inked_first true y r is = absurd (cc)

inked_blank : (bs : List ℕ) → list_all is_inked bs ≡ true → Lacks is_blank bs
inked_blank [] all = λ k d h. absurd (omega (arith, h))
inked_blank (b ∷ bs) all =
    let parts = inked_first (is_blank b) (is_hash b) (list_all is_inked bs) all in
    lacks_onto is_blank b bs parts.0 (inked_blank bs parts.1.1)

inked_hash : (bs : List ℕ) → list_all is_inked bs ≡ true → Lacks is_hash bs
inked_hash [] all = λ k d h. absurd (omega (arith, h))
inked_hash (b ∷ bs) all =
    let parts = inked_first (is_blank b) (is_hash b) (list_all is_inked bs) all in
    lacks_onto is_hash b bs parts.1.0 (inked_hash bs parts.1.1)

-- a word is a token
pub word_token : (bs : List ℕ) → 0 < length bs → list_all is_inked bs ≡ true → IsToken bs
word_token bs some all = record { some = some; filled = inked_blank bs all; plain = inked_hash bs all }
