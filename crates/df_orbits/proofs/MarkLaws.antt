-- One more mark among the bits of words.
use Rattle.std.proofs.Common.{◌≡◌, ℕ, ◌+◌, ◌*◌, ◌^◌, ◌/◌, ◌%◌, ◌<◌, Bool, true, false, ◌||◌, List, [], ◌∷◌, length, get_or, set, get_or-set_same, get_or-set_other, eq-eqb, ne_eqb, refl, sym, ap, ap₂, ◌∙◌, arith, eqb, ⊎_elim, bit_or}
use Rattle.std.proofs.Math.Nat.{div-add-mod'}
use Rattle.std.proofs.lemmas.Bool.{cases_eq, or_right}
use Rattle.std.proofs.lemmas.Nat.Bits.{bit_at_set_same, bit_at_set_other}
use Rattle.std.proofs.lemmas.List.Folds.{list_any-append}
use Rattle.std.specs.List.{list_any, range_with_len}
use Rattle.std.specs.Int.{bit_at, w64}
use Rattle.df_lists.proofs.RangeLaws.{range_more}
use Rattle.df_orbits.specs.MarkedPlaces.{is_marked}

or_none : (b : Bool) → b ≡ (b || false)
or_none true = refl
or_none false = refl

module _ (words : List ℕ) (w p : ℕ) (within : p / 64 < length words) (read : w ≡ get_or words (p / 64) 0) where
  abbrev put : List ℕ
  put = set words (p / 64) (bit_or w (1 * 2 ^ (p % 64) % 2 ^ 64))

  low : p % 64 < 64
  low = omega arith

  here : (other : ℕ) → other / 64 ≡ p / 64 → is_marked put other ≡ eqb (bit_at (bit_or w (1 * 2 ^ (p % 64) % 2 ^ 64)) (other % 64)) 1
  here other e = ap (λ n. eqb (bit_at n (other % 64)) 1) (ap (λ k. get_or put k 0) e ∙ get_or-set_same words (p / 64) (bit_or w (1 * 2 ^ (p % 64) % 2 ^ 64)) 0 within)

  pub mark_put : (other : ℕ) → is_marked put other ≡ (is_marked words other || eqb p other)
  mark_put other = ⊎_elim (λ e. same e) (λ ne. other_place ne) (cases_eq p other)
    where
      same : p ≡ other → is_marked put other ≡ (is_marked words other || eqb p other)
      same e =
          here other (ap (λ k. k / 64) (sym e)) ∙ ap (λ k. eqb (bit_at (bit_or w (1 * 2 ^ (p % 64) % 2 ^ 64)) (k % 64)) 1) (sym e) ∙ ap (λ k. eqb k 1) (bit_at_set_same w64 w (p % 64) low)
          ∙ sym (or_right (is_marked words other) (eqb p other) (eq-eqb p other e))

      other_place : (p ≡ other → ⊥) → is_marked put other ≡ (is_marked words other || eqb p other)
      other_place ne =
          ⊎_elim (λ e. one_word e) (λ d. ap (λ n. eqb (bit_at n (other % 64)) 1) (get_or-set_other words (p / 64) (other / 64) (bit_or w (1 * 2 ^ (p % 64) % 2 ^ 64)) 0 d)) (cases_eq (other / 64) (p / 64))
          ∙ or_none (is_marked words other) ∙ ap (λ b. is_marked words other || b) (sym (ne_eqb p other ne))
        where
          one_word : other / 64 ≡ p / 64 → is_marked put other ≡ is_marked words other
          one_word e =
              let apart : other % 64 ≡ p % 64 → ⊥ = λ f. ne (sym (div-add-mod' p 64) ∙ ap₂ (λ a b. a * 64 + b) (sym e) (sym f) ∙ div-add-mod' other 64) in
              here other e ∙ ap (λ n. eqb n 1) (bit_at_set_other w64 w (p % 64) low (other % 64) apart ∙ ap (λ n. bit_at n (other % 64)) (read ∙ ap (λ k. get_or words k 0) (sym e)))

-- a test over one more number
pub any_more : (t : ℕ → Bool) (n : ℕ) → list_any t (range_with_len 0 (n + 1)) ≡ (list_any t (range_with_len 0 n) || t n)
any_more t n = ap (list_any t) (range_more n) ∙ list_any-append t (range_with_len 0 n) (n ∷ []) ∙ ap (λ b. list_any t (range_with_len 0 n) || b) (sym (or_none (t n)))
