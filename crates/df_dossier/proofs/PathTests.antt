-- The path of a line, by a test of its columns.
use Rattle.std.proofs.Common.{◌≡◌, ℕ, zero, suc, ◌+◌, ◌<◌, ◌≤◌, Bool, true, false, cond, ◌&&◌, nat_le, nat_lt, List, [], ◌∷◌, length, get_or, Option, Some, None, refl, ap, ◌∙◌, arith, tests, add-one}
use Rattle.df_io.specs.Lines.{tokens_of}
use Rattle.df_walk.specs.Paths.{WrittenPath}
use Rattle.df_dossier.specs.Tokens.{◌>>?◌}
use Rattle.df_dossier.specs.Paths.{path_part, path_read, HasPath}
use Rattle.df_dossier.specs.Dossiers.{are_columns, written, line_path}

-- columns that increase, from `least` on and below the size
record AreColumns (size least : ℕ) (cs : List ℕ) : Type 0 where
  up : (k : ℕ) → suc k < length cs → get_or cs k 0 < get_or cs (suc k) 0
  within : (k d : ℕ) → k < length cs → get_or cs k d < size
  first : 0 < length cs → least ≤ get_or cs 0 0

all_three : (a b c : Bool) → a ≡ true → b ≡ true → c ≡ true → (a && b && c) ≡ true
all_three true true true x y z = refl
all_three false b c x y z = absurd (cc)
all_three true false c x y z = absurd (cc)
all_three true true false x y z = absurd (cc)

each_three : (a b c : Bool) → (a && b && c) ≡ true → (a ≡ true) × ((b ≡ true) × (c ≡ true))
each_three true true true x = (refl, (refl, refl))
each_three false b c x = absurd (cc)
each_three true false c x = absurd (cc)
each_three true true false x = absurd (cc)

tested : (size least : ℕ) (cs : List ℕ) → AreColumns size least cs → are_columns size least cs ≡ true
tested size least [] are = refl
tested size least (c ∷ cs) are =
    let low : least ≤ c = are.first (omega arith) in
    let high : c < size = are.within 0 0 (omega arith) in
    all_three (nat_le least c) (nat_lt c size) (are_columns size (c + 1) cs) (grind (arith, tests, low)) (grind (arith, tests, high)) (tested size (c + 1) cs record {
      up = λ k h. are.up (suc k) (omega (arith, h));
      within = λ k d h. are.within (suc k) d (omega (arith, h));
      first = λ h. let next = are.up 0 (omega (arith, h)) in omega (arith, next);
    })

counted_more : (size least c : ℕ) (cs : List ℕ) → least ≤ c → c < size → AreColumns size (c + 1) cs → AreColumns size least (c ∷ cs)
counted_more size least c cs low high rest = record { up = up; within = within; first = λ h. low } where
  up : (k : ℕ) → suc k < length (c ∷ cs) → get_or (c ∷ cs) k 0 < get_or (c ∷ cs) (suc k) 0
  up zero h = let next = rest.first (omega (arith, h)) in omega (arith, next)
  up (suc k) h = rest.up k (omega (arith, h))

  within : (k d : ℕ) → k < length (c ∷ cs) → get_or (c ∷ cs) k d < size
  within zero d h = high
  within (suc k) d h = rest.within k d (omega (arith, h))

counted : (size least : ℕ) (cs : List ℕ) → are_columns size least cs ≡ true → AreColumns size least cs
counted size least [] is = record { up = λ k h. absurd (omega (arith, h)); within = λ k d h. absurd (omega (arith, h)); first = λ h. absurd (omega (arith, h)) }
counted size least (c ∷ cs) is =
    let parts = each_three (nat_le least c) (nat_lt c size) (are_columns size (c + 1) cs) is in
    let at_least = parts.0 in
    let below = parts.1.0 in
    counted_more size least c cs (grind (arith, tests, at_least)) (grind (arith, tests, below)) (counted size (c + 1) cs parts.1.1)

-- a line with a path
pub path_said : (line : List ℕ) (p : WrittenPath) → HasPath line p → line_path line ≡ Some p
path_said line p has =
    ap (λ o. o >>? written) has.stated
    ∙ ap (λ b. cond b (Some p) None) (tested p.size 0 p.chosen record { up = λ k h. rw add-one at (has.written.increasing k (omega (arith, h))); within = has.written.within; first = λ h. omega arith })

-- a line without one
pub path_none : (line : List ℕ) → ((p : WrittenPath) → HasPath line p → ⊥) → line_path line ≡ None
path_none line lacks = by_read (path_part (tokens_of line) >>? path_read) refl where
  by_test : (p : WrittenPath) (b : Bool) → (path_part (tokens_of line) >>? path_read) ≡ Some p → are_columns p.size 0 p.chosen ≡ b → cond b (Some p) None ≡ None
  by_test p false is test = refl
  by_test p true is test =
      let are = counted p.size 0 p.chosen test in absurd (lacks p record { stated = is; written = record { increasing = λ k h. rw add-one (are.up k (omega (arith, h))); within = are.within } })

  by_read : (o : Option WrittenPath) → (path_part (tokens_of line) >>? path_read) ≡ o → (o >>? written) ≡ None
  by_read None is = refl
  by_read (Some p) is = by_test p (are_columns p.size 0 p.chosen) is refl
