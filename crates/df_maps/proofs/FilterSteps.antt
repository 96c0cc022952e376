-- What a loop over numbers picks, one number more.
use Rattle.std.proofs.Common.{◌≡◌, ℕ, ◌+◌, ◌≤◌, Bool, true, false, cond, ◌++◌, List, [], ◌∷◌, filter, length, sym, ap, ◌∙◌, append-nil, arith, length-append}
use Rattle.std.specs.List.{range_with_len}
use Rattle.df_lists.proofs.RangeLaws.{filter_more}

pub picked : (t : ℕ → Bool) (n : ℕ) (old new : List ℕ) → t n ≡ true → old ≡ filter t (range_with_len 0 n) → new ≡ old ++ n ∷ [] → new ≡ filter t (range_with_len 0 (n + 1))
picked t n old new e is put = put ∙ ap (λ l. l ++ n ∷ []) is ∙ sym (filter_more t n ∙ ap (λ b. filter t (range_with_len 0 n) ++ cond b (n ∷ []) []) e)

pub passed : (t : ℕ → Bool) (n : ℕ) (old : List ℕ) → t n ≡ false → old ≡ filter t (range_with_len 0 n) → old ≡ filter t (range_with_len 0 (n + 1))
passed t n old e is = is ∙ sym (filter_more t n ∙ ap (λ b. filter t (range_with_len 0 n) ++ cond b (n ∷ []) []) e ∙ append-nil (filter t (range_with_len 0 n)))

pub longer : (old new : List ℕ) (n k : ℕ) → new ≡ old ++ n ∷ [] → length old ≤ k → length new ≤ k + 1
longer old new n k put fits = omega (arith, ap length put, length-append old (n ∷ []))
