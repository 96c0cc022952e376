-- Texts joined in pieces.
use Rattle.std.proofs.Common.{◌≡◌, ℕ, ◌+◌, ◌<◌, ◌≤◌, List, [], ◌∷◌, ◌++◌, length, get_or, drop, codes, refl, sym, ap, ◌∙◌, arith, append_assoc, append-nil, length-append}
use Rattle.std.specs.List.{flat_map}
use Rattle.std.proofs.lemmas.List.{drop_more}
use Rattle.df_walk.specs.declared.CutRow.{CutRow}
use Rattle.df_io.specs.Joined.{spaced}
use Rattle.df_dossier.specs.Entries.{row_tokens}
use Rattle.df_dossier.specs.Tokens.{after_spaces}

pub five : (a b c d e : List ℕ) → a ++ b ++ c ++ d ++ e ≡ a ++ (b ++ (c ++ (d ++ e)))
five a b c d e = append_assoc (a ++ b ++ c) d e ∙ append_assoc (a ++ b) c (d ++ e) ∙ append_assoc a b (c ++ (d ++ e))

-- joined texts are the first one, and the others each after a space
pub join_after : (text : List ℕ) (texts : List (List ℕ)) → spaced (text ∷ texts) ≡ text ++ after_spaces texts
join_after text [] = sym (append-nil text)
join_after text (next ∷ texts) = ap (λ l. text ++ 32 ∷ l) (join_after next texts)

pub after_both : (xs ys : List (List ℕ)) → after_spaces (xs ++ ys) ≡ after_spaces xs ++ after_spaces ys
after_both [] ys = refl
after_both (x ∷ xs) ys = ap (λ l. 32 ∷ (x ++ l)) (after_both xs ys) ∙ sym (append_assoc (32 ∷ x) (after_spaces xs) (after_spaces ys))

rows_after : (ws : List CutRow) → after_spaces (flat_map row_tokens ws) ≡ flat_map (λ w. after_spaces (row_tokens w)) ws
rows_after [] = refl
rows_after (w ∷ ws) = after_both (row_tokens w) (flat_map row_tokens ws) ∙ ap (λ l. after_spaces (row_tokens w) ++ l) (rows_after ws)

-- the line of a cut: its word, and each row's tokens after spaces
pub cut_text : (ws : List CutRow) → spaced (codes "cut" ∷ flat_map row_tokens ws) ≡ codes "cut" ++ flat_map (λ w. after_spaces (row_tokens w)) ws
cut_text ws = join_after (codes "cut") (flat_map row_tokens ws) ∙ ap (λ l. codes "cut" ++ l) (rows_after ws)

-- there is room for the next row
pub room_next : (f : CutRow → List ℕ) (xs : List CutRow) (i : ℕ) (d : CutRow) (written start : List ℕ) → i < length xs → written ++ flat_map f (drop i xs) ≡ start ++ flat_map f xs
    → length start + length (flat_map f xs) ≤ 1024 → length written + length (f (get_or xs i d)) ≤ 1024
room_next f xs i d written start h e fits =
    let next : flat_map f (drop i xs) ≡ f (get_or xs i d) ++ flat_map f (drop (i + 1) xs) = ap (flat_map f) (drop_more xs i d h) in
    omega (arith, fits, ap length e, length-append written (flat_map f (drop i xs)), length-append start (flat_map f xs), ap length next, length-append (f (get_or xs i d)) (flat_map f (drop (i + 1) xs)))
