-- The tokens of a text, the first and the rest.
use Rattle.std.proofs.Common.{◌≡◌, ℕ, ◌+◌, ◌-◌, ◌<◌, ◌≤◌, Bool, true, false, cond, List, [], ◌∷◌, length, take, drop, filter, refl, sym, ap, ◌∙◌, arith, tests}
use Rattle.std.specs.List.{slice_split, slice_range, onto_first}
use Rattle.std.proofs.lemmas.List.Splits.{slice_split-cons_yes}
use Rattle.std.proofs.lemmas.List.{drop-drop, drop_all, length-drop, length-take}
use Rattle.df_io.specs.Lines.{tokens_in, is_blank, is_filled, blank_len, token_len}
use Rattle.df_io.proofs.LinesOf.{take_front, drop_front}

skip_cons : (b : ℕ) (bs : List ℕ) (v : Bool) → is_blank b ≡ v → tokens_in bs ≡ tokens_in (drop (blank_len bs) bs) → tokens_in (b ∷ bs) ≡ tokens_in (drop (blank_len (b ∷ bs)) (b ∷ bs))
skip_cons b bs true e ih = rw (slice_split-cons_yes is_blank b bs e, e, drop_front (blank_len bs) b bs) ih
skip_cons b bs false e ih =
    let none : blank_len (b ∷ bs) ≡ 0 = rw e refl in
    ap (λ n. tokens_in (drop n (b ∷ bs))) (sym none)

skip : (xs : List ℕ) → tokens_in xs ≡ tokens_in (drop (blank_len xs) xs)
skip [] = refl
skip (b ∷ bs) = skip_cons b bs (is_blank b) refl (skip bs)

-- the first piece, and the others
abbrev SplitsFirst : List ℕ → Type 0
SplitsFirst xs = (rest : List (List ℕ)) × (slice_split is_blank xs ≡ take (token_len xs) xs ∷ rest) × (filter is_filled rest ≡ tokens_in (drop (token_len xs) xs))

first_split-cons : (b : ℕ) (bs : List ℕ) (v : Bool) → is_blank b ≡ v → SplitsFirst bs → SplitsFirst (b ∷ bs)
first_split-cons b bs true e p =
    let none : token_len (b ∷ bs) ≡ 0 = rw e refl in
    let whole = slice_split-cons_yes is_blank b bs e in
    (slice_split is_blank bs, whole ∙ ap (λ n. take n (b ∷ bs) ∷ slice_split is_blank bs) (sym none), sym (ap (filter is_filled) whole) ∙ ap (λ n. tokens_in (drop n (b ∷ bs))) (sym none))
first_split-cons b bs false e p = (p.0, rw (e, take_front (token_len bs) b bs) (ap (onto_first b) p.1), rw (e, drop_front (token_len bs) b bs) p.2)

first_split : (xs : List ℕ) → SplitsFirst xs
first_split [] = ([], refl, refl)
first_split (b ∷ bs) = first_split-cons b bs (is_blank b) refl (first_split bs)

first_in : (xs : List ℕ) → 0 < length (take (token_len xs) xs) → tokens_in xs ≡ take (token_len xs) xs ∷ tokens_in (drop (token_len xs) xs)
first_in xs h =
    let p = first_split xs in
    let token = take (token_len xs) xs in
    let kept : is_filled token ≡ true = grind (arith, tests) in
    let first : filter is_filled (token ∷ p.0) ≡ token ∷ filter is_filled p.0 = rw kept refl in
    ap (filter is_filled) p.1 ∙ first ∙ ap (λ l. token ∷ l) p.2

filled_cons : (b : ℕ) (bs : List ℕ) (v : Bool) → is_blank b ≡ v → (blank_len bs < length bs → 0 < token_len (drop (blank_len bs) bs)) → blank_len (b ∷ bs) < length (b ∷ bs) → 0 < token_len (drop (blank_len (b ∷ bs)) (b ∷ bs))
filled_cons b bs true e ih h =
    let more : blank_len (b ∷ bs) ≡ blank_len bs + 1 = rw e refl in
    rw (more, drop_front (blank_len bs) b bs) (ih (omega arith))
filled_cons b bs false e ih h =
    let none : blank_len (b ∷ bs) ≡ 0 = rw e refl in
    let some : token_len (b ∷ bs) ≡ token_len bs + 1 = rw e refl in
    rw none (rw some (omega arith))

filled : (xs : List ℕ) → blank_len xs < length xs → 0 < token_len (drop (blank_len xs) xs)
filled [] h = absurd (omega arith)
filled (b ∷ bs) h = filled_cons b bs (is_blank b) refl (filled bs) h

pub no_token : (text : List ℕ) (at start : ℕ) → start ≡ at + blank_len (drop at text) → start ≡ length text → tokens_in (drop at text) ≡ []
no_token text at start is end =
    skip (drop at text) ∙ ap tokens_in (drop-drop (blank_len (drop at text)) at text ∙ ap (λ n. drop n text) (sym is) ∙ drop_all start text (omega arith))

token_fits : (xs : List ℕ) → token_len xs ≤ length xs
token_fits [] = omega arith
token_fits (b ∷ bs) = let ih = token_fits bs in elim (is_blank b) as (λ v. cond v 0 (token_len bs + 1) ≤ length (b ∷ bs)) [ true ↦ omega arith | false ↦ omega arith ]

module _ (text : List ℕ) (at start end : ℕ) (is : start ≡ at + blank_len (drop at text)) (some : start < length text) (ends : end ≡ start + token_len (drop start text)) where
  after : drop (blank_len (drop at text)) (drop at text) ≡ drop start text
  after = drop-drop (blank_len (drop at text)) at text ∙ ap (λ n. drop n text) (sym is)

  pub longer : start < end
  longer =
      let f : 0 < token_len (drop start text) = rw (← after) (filled (drop at text) (omega (arith, length-drop at text))) in
      omega arith

  pub first_token : tokens_in (drop at text) ≡ slice_range text start end ∷ tokens_in (drop end text)
  first_token =
      let len : token_len (drop start text) ≡ end - start = omega arith in
      let fits = token_fits (drop start text) in
      let long : 0 < length (take (token_len (drop start text)) (drop start text)) = omega (arith, length-take (token_len (drop start text)) (drop start text), longer) in
      skip (drop at text) ∙ ap tokens_in after ∙ first_in (drop start text) long
      ∙ ap (λ n. take n (drop start text) ∷ tokens_in (drop (token_len (drop start text)) (drop start text))) len
      ∙ ap (λ l. slice_range text start end ∷ tokens_in l) (drop-drop (token_len (drop start text)) start text ∙ ap (λ n. drop n text) (sym ends))
