-- Texts in a row with a byte between each and the next, as they are printed: the first one, and each other after that byte.
use Rattle.std.specs.Prelude.{ℕ, List, ◌∷◌}
use Rattle.std.specs.List.{flat_map}

-- texts, each after a byte
abbrev pub each_after : ℕ → List (List ℕ) → List ℕ
each_after c texts = flat_map (λ text. c ∷ text) texts
