-- The rows of pairs, and the rows of needed orbits after them.
use Rattle.std.proofs.Common.{◌≡◌, ℕ, ◌+◌, ◌-◌, ◌<◌, ◌≤◌, ◌++◌, map, List, [], length, get_or, ◌∙◌, ap₂, arith, length-append}
use Rattle.std.proofs.lemmas.List.{length-map, get_or_append_left, get_or-append_right, get_or-map}
use Rattle.df_lang.specs.Problems.{Stated}
use Rattle.df_kramer_mesner.specs.OrbitSystems.{pairs_of, needed_of, pair_target, orbit_cover, needed_entry}
use Rattle.df_kramer_mesner.specs.Laws.{AreRows}

-- two lists of numbers, each made from a list of blocks, one after the other
module _ {X : Type 0} (f g : X → ℕ) (xs ys : List X) where
  both_long : length (map f xs ++ map g ys) ≡ length xs + length ys
  both_long = length-append (map f xs) (map g ys) ∙ ap₂ (λ m n. m + n) (length-map xs f) (length-map ys g)

  in_first : (row : ℕ) (d : X) → row < length xs → get_or (map f xs ++ map g ys) row 0 ≡ f (get_or xs row d)
  in_first row d h = get_or_append_left (map f xs) (map g ys) 0 row (omega (arith, h, length-map xs f)) ∙ get_or-map f xs row d 0 h

  in_second : (row : ℕ) (d : X) → length xs ≤ row → row < length xs + length ys → get_or (map f xs ++ map g ys) row 0 ≡ g (get_or ys (row - length xs) d)
  in_second row d h k = get_or-append_right (map f xs) (map g ys) (length xs) row 0 (length-map xs f) h ∙ get_or-map g ys (row - length xs) d 0 (omega (arith, h, k))

pub are_rows : (s : Stated) (b : List ℕ) → AreRows s b
are_rows s b = record {
  entries = both_long (orbit_cover s b) (needed_entry b) (pairs_of s) (needed_of s);
  targets = both_long (pair_target s) (λ needed. 1) (pairs_of s) (needed_of s);
  pair = λ row h. in_first (orbit_cover s b) (needed_entry b) (pairs_of s) (needed_of s) row [] h;
  needed = λ row h k. in_second (orbit_cover s b) (needed_entry b) (pairs_of s) (needed_of s) row [] h k;
  pair_target = λ row h. in_first (pair_target s) (λ needed. 1) (pairs_of s) (needed_of s) row [] h;
  needed_target = λ row h k. in_second (pair_target s) (λ needed. 1) (pairs_of s) (needed_of s) row [] h k;
}
