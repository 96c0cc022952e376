-- Texts in a row, each after a byte.
use Rattle.std.proofs.Common.{◌≡◌, ℕ, ◌+◌, ◌-◌, ◌<◌, ◌≤◌, List, [], ◌∷◌, ◌++◌, length, map, get_or, take, drop, sym, ap, ◌∙◌, arith, append-nil, append_assoc, length-append}
use Rattle.std.specs.List.{join_with_byte}
use Rattle.std.proofs.lemmas.List.{drop_more, take_rest}
use Rattle.df_lang.specs.Separated.{each_after}

-- joined texts are the first one, and the others after the byte
pub join_after : (c : ℕ) (text : List ℕ) (texts : List (List ℕ)) → join_with_byte c (text ∷ texts) ≡ text ++ each_after c texts
join_after c text [] = sym (append-nil text)
join_after c text (next ∷ texts) = ap (λ l. text ++ c ∷ l) (join_after c next texts)

-- the same for the texts of some numbers, taken from their list
pub join_first : (c : ℕ) (f : ℕ → List ℕ) (xs : List ℕ) (d : ℕ) → 0 < length xs → join_with_byte c (map f xs) ≡ f (get_or xs 0 d) ++ each_after c (map f (take (length xs - 1) (drop 1 xs)))
join_first c f [] d h = absurd (omega arith)
join_first c f (x ∷ xs) d h = join_after c (f x) (map f xs) ∙ ap (λ l. f x ++ each_after c (map f l)) (sym (take_rest (x ∷ xs) 1))

-- what the texts from one place on are, and that there is room for the next one
module _ (c : ℕ) (f : ℕ → List ℕ) (xs : List ℕ) (i d : ℕ) (h : i < length xs) where
  next_after : each_after c (map f (drop i xs)) ≡ c ∷ (f (get_or xs i d) ++ each_after c (map f (drop (i + 1) xs)))
  next_after = ap (λ l. each_after c (map f l)) (drop_more xs i d h)

  pub room_next : (written start : List ℕ) → written ++ each_after c (map f (drop i xs)) ≡ start ++ each_after c (map f xs) → length start + length (each_after c (map f xs)) ≤ 1024
      → length written + 1 + length (f (get_or xs i d)) ≤ 1024
  room_next written start e fits =
      omega (arith, fits, ap length e, length-append written (each_after c (map f (drop i xs))), length-append start (each_after c (map f xs)), ap length next_after, length-append (f (get_or xs i d)) (each_after c (map f (drop (i + 1) xs))))

-- a keyword and texts after it: room for the texts, and the whole
module _ (start keyword : List ℕ) (texts : List (List ℕ)) where
  pub room_after : (put : List ℕ) → put ≡ start ++ keyword → length start + length (join_with_byte 32 (keyword ∷ texts)) ≤ 1024 → length put + length (each_after 32 texts) ≤ 1024
  room_after put is fits = omega (arith, fits, ap length is, length-append start keyword, ap length (join_after 32 keyword texts), length-append keyword (each_after 32 texts))

  pub whole_after : (put end : List ℕ) → put ≡ start ++ keyword → end ≡ put ++ each_after 32 texts → end ≡ start ++ join_with_byte 32 (keyword ∷ texts)
  whole_after put end is more = more ∙ ap (λ l. l ++ each_after 32 texts) is ∙ append_assoc start keyword (each_after 32 texts) ∙ ap (λ l. start ++ l) (sym (join_after 32 keyword texts))
