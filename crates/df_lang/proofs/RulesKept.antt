-- What follows where the rules of a line are kept.
use Rattle.std.proofs.Common.{◌≡◌, ℕ, ◌≤◌, ◌&&◌, Bool, true, false, nat_le, List, [], ◌∷◌, Option, Some, None, Result, Ok, Err, ok_or, refl, arith, tests}
use Rattle.df_lang.specs.declared.fault.SourceFault.{SourceFault}
use Rattle.df_lang.specs.Rules.{◌>>=◌, must, allowed, next, end, once, number_of, number_in, one_number}

pub bind_kept : {A B E : Type 0} (r : Result A E) (f : A → Result B E) (y : B) → (r >>= f) ≡ Ok y → (x : A) × (r ≡ Ok x) × (f x ≡ Ok y)
bind_kept (Ok x) f y h = (x, refl, h)
bind_kept (Err e) f y h = absurd cc

pub once_kept : {A : Type 0} (o : Option A) (u : Unit {0}) → once o ≡ Ok u → o ≡ None
once_kept None u h = refl
once_kept (Some x) u h = absurd cc

pub must_kept : {A : Type 0} (b : Bool) (fault : SourceFault) (x y : A) → must b fault x ≡ Ok y → (b ≡ true) × (x ≡ y)
must_kept true fault x y h = (refl, cc)
must_kept false fault x y h = absurd cc

pub allowed_kept : (b : Bool) (fault : SourceFault) (u : Unit {0}) → allowed b fault ≡ Ok u → b ≡ true
allowed_kept true fault u h = refl
allowed_kept false fault u h = absurd cc

pub there : {A : Type 0} (o : Option A) (fault : SourceFault) (x : A) → ok_or o fault ≡ Ok x → o ≡ Some x
there None fault x h = absurd cc
there (Some y) fault x h = cc

pub next_kept : {A : Type 0} (tokens : List (List ℕ)) (f : List ℕ → List (List ℕ) → Result A SourceFault) (y : A) → next tokens f ≡ Ok y
    → (token : List ℕ) × (rest : List (List ℕ)) × (f token rest ≡ Ok y)
next_kept [] f y h = absurd cc
next_kept (token ∷ rest) f y h = (token, rest, h)

pub end_kept : {A : Type 0} (tokens : List (List ℕ)) (x y : A) → end tokens x ≡ Ok y → x ≡ y
end_kept [] x y h = cc
end_kept (token ∷ tokens) x y h = absurd cc

both : (low high n : ℕ) → (nat_le low n && nat_le n high) ≡ true → (low ≤ n) × (n ≤ high)
both low high n h = (grind (arith, tests), grind (arith, tests))

pub number_kept : (low high : ℕ) (fault : SourceFault) (token : List ℕ) (n : ℕ) → number_in low high fault token ≡ Ok n → (low ≤ n) × (n ≤ high)
number_kept low high fault token n h =
    let m = bind_kept (number_of token) (λ n. must (nat_le low n && nat_le n high) fault n) n h in
    let is = must_kept (nat_le low m.0 && nat_le m.0 high) fault m.0 n m.2 in
    let range = both low high m.0 is.0 in
    (omega (arith, range.0, is.1), omega (arith, range.1, is.1))

pub one_number_kept : (low high : ℕ) (fault : SourceFault) (tokens : List (List ℕ)) (n : ℕ) → one_number low high fault tokens ≡ Ok n → (low ≤ n) × (n ≤ high)
unfolding one_number
one_number_kept low high fault tokens n h =
    let first = next_kept tokens (λ token rest. number_in low high fault token >>= λ n. end rest n) n h in
    let read = bind_kept (number_in low high fault first.0) (λ n. end first.1 n) n first.2 in
    let range = number_kept low high fault first.0 read.0 read.1 in
    let is = end_kept first.1 read.0 n read.2 in
    (omega (arith, range.0, is), omega (arith, range.1, is))
