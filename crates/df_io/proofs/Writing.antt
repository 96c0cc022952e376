-- Laws of texts that are written one after the other, for the crates above.
use Rattle.std.proofs.Common.{◌≡◌, ℕ, zero, suc, ◌+◌, ◌<◌, ◌≤◌, List, [], ◌∷◌, ◌++◌, length, take, drop, get_or, Ok, Err, Result, refl, sym, subst, ap, ◌∙◌, arith, append-nil, append_assoc, length-append}
use Rattle.std.specs.declared.option.Option.{Option}
use Rattle.std.specs.Result.{IsErr}
use Rattle.std.specs.List.{flat_map, range_with_len}
use Rattle.std.specs.Io.KnownBytes.{Appends}
use Rattle.std.proofs.KnownBytes.{Appends-nil, Appends-trans}
use Rattle.std.proofs.lemmas.List.{take_all}
use Rattle.std.proofs.lemmas.List.FromFn.{length-range_with_len, get_or-range_with_len}
use Rattle.df_io.specs.Causes.{AppendsPrefix}
use Rattle.df_io.specs.Writing.{Writes}
use Rattle.df_io.specs.declared.bytes.WriteFault.{WriteFault}

-- nothing was written: the empty text
pub writes_nothing : {K : Type 0} {w : K → Option (List ℕ)} {f : K → ℕ} {a : K} → Writes w f a a [] (Ok tt)
writes_nothing {w = w} {a = a} = record { all = Appends-nil (w a); prefix = tt; fault = tt; later = omega arith }

prefix_in : (a b c : Option (List ℕ)) (done line rest : List ℕ) → Appends a b done → AppendsPrefix b c line → AppendsPrefix a c (done ++ (line ++ rest))
prefix_in a b c done line rest before prefix =
    let front = prefix.0 in
    let back = prefix.1 in (
      done ++ front,
      back ++ rest,
      ap (λ l. done ++ (l ++ rest)) prefix.2 ∙ ap (λ l. done ++ l) (append_assoc front back rest) ∙ sym (append_assoc done front (back ++ rest)),
      omega (arith, length-append back rest, prefix.3),
      Appends-trans a b c done front before prefix.4,
    )

-- a text is what it equals
pub writes_as : {K : Type 0} {w : K → Option (List ℕ)} {f : K → ℕ} {a b : K} {s t : List ℕ} {r : Result (Unit {0}) WriteFault} → s ≡ t → Writes w f a b s r → Writes w f a b t r
writes_as {w = w} {f = f} {a = a} {b = b} {r = r} is written = subst (λ l. Writes w f a b l r) is written

-- a text that was written whole, and then a text: the answer is the second's
pub writes_then : {K : Type 0} {w : K → Option (List ℕ)} {f : K → ℕ} {a b c : K} {s t : List ℕ} {r : Result (Unit {0}) WriteFault} → Writes w f a b s (Ok tt) → Writes w f b c t r → Writes w f a c (s ++ t) r
writes_then {s = s} {t = t} {r = Ok y} first second = record {
  all = Appends-trans _ _ _ s t first.all second.all;
  prefix = tt;
  fault = tt;
  later = omega (arith, first.later, second.later);
}
writes_then {w = w} {a = a} {c = c} {s = s} {t = t} {r = Err e} first second = record {
  all = tt;
  prefix = subst (λ l. AppendsPrefix (w a) (w c) (s ++ l)) (append-nil t) (prefix_in _ _ _ s t [] first.all second.prefix);
  fault = omega (arith, first.later, second.fault);
  later = omega (arith, first.later, second.later);
}

-- a text that was stopped stops every text that begins with it
pub writes_stopped : {K : Type 0} {w : K → Option (List ℕ)} {f : K → ℕ} {a b : K} {s : List ℕ} {e : WriteFault} {r : Result (Unit {0}) WriteFault} (t : List ℕ) → Writes w f a b s (Err e) → IsErr r → Writes w f a b (s ++ t) r
writes_stopped {r = Ok x} t stopped err = absurd (cc)
writes_stopped {w = w} {a = a} {s = s} {r = Err d} t stopped err = record {
  all = tt;
  prefix = prefix_in _ _ _ [] s t (Appends-nil (w a)) stopped.prefix;
  fault = stopped.fault;
  later = stopped.later;
}

-- and so does a text that was stopped after one that was written whole
pub writes_stopped_then : {K : Type 0} {w : K → Option (List ℕ)} {f : K → ℕ} {a b c : K} {s t : List ℕ} {e : WriteFault} {r : Result (Unit {0}) WriteFault} (u : List ℕ) → Writes w f a b s (Ok tt) → Writes w f b c t (Err e) → IsErr r → Writes w f a c (s ++ (t ++ u)) r
writes_stopped_then {w = w} {f = f} {a = a} {c = c} {s = s} {t = t} {r = r} u before stopped err =
    subst (λ l. Writes w f a c l r) (append_assoc s t u) (writes_stopped u (writes_then before stopped) err)

-- the lines up to one more
lines_more : {X : Type 0} (line : X → List ℕ) (xs : List X) (n : ℕ) (d : X) → n < length xs → flat_map line (take (n + 1) xs) ≡ flat_map line (take n xs) ++ line (get_or xs n d)
lines_more line [] n d h = absurd (omega arith)
lines_more line (x ∷ xs) zero d h = append-nil (line x)
lines_more line (x ∷ xs) (suc n) d h =
    let e : suc n + 1 ≡ suc (n + 1) = omega arith in
    ap (λ m. flat_map line (take m (x ∷ xs))) e ∙ ap (λ l. line x ++ l) (lines_more line xs n d (omega arith)) ∙ sym (append_assoc (line x) (flat_map line (take n xs)) (line (get_or xs n d)))

-- all lines: those up to one, and those after it
lines_cut : {X : Type 0} (line : X → List ℕ) (xs : List X) (n : ℕ) → flat_map line xs ≡ flat_map line (take n xs) ++ flat_map line (drop n xs)
lines_cut line [] zero = refl
lines_cut line [] (suc n) = refl
lines_cut line (x ∷ xs) zero = refl
lines_cut line (x ∷ xs) (suc n) = ap (λ l. line x ++ l) (lines_cut line xs n) ∙ sym (append_assoc (line x) (flat_map line (take n xs)) (flat_map line (drop n xs)))

-- of a text of lines, one line more
pub writes_line : {K X : Type 0} {w : K → Option (List ℕ)} {f : K → ℕ} {a b c : K} {piece : List ℕ} {r : Result (Unit {0}) WriteFault} (line : X → List ℕ) (xs : List X) (n : ℕ) (d : X)
    → Writes w f a b (flat_map line (take n xs)) (Ok tt) → Writes w f b c piece r → piece ≡ line (get_or xs n d) → n < length xs → Writes w f a c (flat_map line (take (n + 1) xs)) r
writes_line {w = w} {f = f} {a = a} {b = b} {c = c} {r = r} line xs n d before now is h =
    subst (λ l. Writes w f a c l r) (sym (lines_more line xs n d h)) (writes_then before (subst (λ l. Writes w f b c l r) is now))

-- a line that was stopped stops the text of all lines
pub writes_line_stopped : {K X : Type 0} {w : K → Option (List ℕ)} {f : K → ℕ} {a b c : K} {piece : List ℕ} {e : WriteFault} {r : Result (Unit {0}) WriteFault} (line : X → List ℕ) (xs : List X) (n : ℕ) (d : X)
    → Writes w f a b (flat_map line (take n xs)) (Ok tt) → Writes w f b c piece (Err e) → piece ≡ line (get_or xs n d) → n < length xs → IsErr r → Writes w f a c (flat_map line xs) r
writes_line_stopped {w = w} {f = f} {a = a} {c = c} {r = r} line xs n d before now is h err =
    subst (λ l. Writes w f a c l r) (sym (lines_cut line xs (n + 1))) (writes_stopped _ (writes_line line xs n d before now is h) err)

-- all lines
pub writes_lines : {K X : Type 0} {w : K → Option (List ℕ)} {f : K → ℕ} {a b : K} {r : Result (Unit {0}) WriteFault} (line : X → List ℕ) (xs : List X) (n : ℕ)
    → Writes w f a b (flat_map line (take n xs)) r → length xs ≤ n → Writes w f a b (flat_map line xs) r
writes_lines {w = w} {f = f} {a = a} {b = b} {r = r} line xs n all h = subst (λ l. Writes w f a b (flat_map line l) r) (take_all n xs h) all

-- the same of lines that are numbered from 0
number_at : (n k : ℕ) → k < n → get_or (range_with_len 0 n) k 0 ≡ k
number_at n k h = omega (arith, get_or-range_with_len 0 n k 0 h)

pub writes_number : {K : Type 0} {w : K → Option (List ℕ)} {f : K → ℕ} {a b c : K} {piece : List ℕ} {r : Result (Unit {0}) WriteFault} (line : ℕ → List ℕ) (n k : ℕ)
    → Writes w f a b (flat_map line (take k (range_with_len 0 n))) (Ok tt) → Writes w f b c piece r → piece ≡ line k → k < n → Writes w f a c (flat_map line (take (k + 1) (range_with_len 0 n))) r
writes_number line n k before now is h =
    writes_line line (range_with_len 0 n) k 0 before now (is ∙ ap line (sym (number_at n k h))) (omega (arith, length-range_with_len 0 n))

pub writes_number_stopped : {K : Type 0} {w : K → Option (List ℕ)} {f : K → ℕ} {a b c : K} {piece : List ℕ} {e : WriteFault} {r : Result (Unit {0}) WriteFault} (line : ℕ → List ℕ) (n k : ℕ)
    → Writes w f a b (flat_map line (take k (range_with_len 0 n))) (Ok tt) → Writes w f b c piece (Err e) → piece ≡ line k → k < n → IsErr r → Writes w f a c (flat_map line (range_with_len 0 n)) r
writes_number_stopped line n k before now is h err =
    writes_line_stopped line (range_with_len 0 n) k 0 before now (is ∙ ap line (sym (number_at n k h))) (omega (arith, length-range_with_len 0 n)) err

pub writes_numbers : {K : Type 0} {w : K → Option (List ℕ)} {f : K → ℕ} {a b : K} {r : Result (Unit {0}) WriteFault} (line : ℕ → List ℕ) (n k : ℕ)
    → Writes w f a b (flat_map line (take k (range_with_len 0 n))) r → n ≤ k → Writes w f a b (flat_map line (range_with_len 0 n)) r
writes_numbers line n k all h = writes_lines line (range_with_len 0 n) k all (omega (arith, length-range_with_len 0 n))
