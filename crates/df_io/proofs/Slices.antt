-- A slice of a text without its first bytes.
use Rattle.std.proofs.Common.{◌≡◌, ℕ, ◌+◌, ◌-◌, ◌≤◌, List, length, take, drop, refl, sym, ap, ◌∙◌, arith, length-take}
use Rattle.std.proofs.lemmas.List.{drop-take, drop-drop}
use Rattle.std.specs.List.{slice_range}

pub slice_rest : (xs : List ℕ) (start end count : ℕ) → count ≤ length (slice_range xs start end) → slice_range xs (start + count) end ≡ drop count (slice_range xs start end)
slice_rest xs start end count fits =
    let most = length-take (end - start) (drop start xs) in
    let size : end - start ≡ count + (end - (start + count)) = omega (arith, fits, most) in
    ap (λ l. take (end - (start + count)) l) (sym (drop-drop count start xs))
    ∙ sym (drop-take count (end - (start + count)) (drop start xs))
    ∙ ap (λ n. drop count (take n (drop start xs))) (sym size)
