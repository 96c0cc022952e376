-- Columns that are made one after another.
use Rattle.std.proofs.Common.{◌≡◌, ◌⊎◌, ℕ, suc, ◌+◌, ◌-◌, ◌<◌, ◌≤◌, List, [], ◌∷◌, ◌++◌, length, get_or, take, drop, refl, sym, ap, ap₂, ◌∙◌, arith, inl, inr, length-append}
use Rattle.std.specs.Prelude.{slice_range}
use Rattle.std.specs.List.Sorted.{IsNonDecreasing}
use Rattle.std.proofs.lemmas.Bool.{cases_lt}
use Rattle.std.proofs.lemmas.List.{take-append-le, drop-append-le, get_or_append_left, get_or_push, length-drop, length-take-le, take_all, get_or_default}
use Rattle.std.proofs.Math.Seq.{drop-append_seam}
use Rattle.df_walk.specs.declared.Cell.{Cell}
use Rattle.df_system.specs.Storage.{AreStarts, AreMade, parts_from, columns_of, cell_count}

-- a part of the front of a longer list
slice_front : {X : Type 0} (xs ys : List X) (a b : ℕ) → a ≤ b → b ≤ length xs → slice_range (xs ++ ys) a b ≡ slice_range xs a b
slice_front xs ys a b h l =
    ap (take (b - a)) (drop-append-le a xs ys (omega arith)) ∙ take-append-le (b - a) (drop a xs) ys (omega (arith, length-drop a xs))

-- and its back
slice_back : {X : Type 0} (xs ys : List X) → slice_range (xs ++ ys) (length xs) (length (xs ++ ys)) ≡ ys
slice_back xs ys =
    ap (take (length (xs ++ ys) - length xs)) (drop-append_seam xs ys) ∙ take_all (length (xs ++ ys) - length xs) ys (omega (arith, length-append xs ys))

-- the starts from one of them on don't fall, and end with n
abbrev Ends : ℕ → List ℕ → ℕ → Type 0
Ends start [] n = start ≡ n
Ends start (end ∷ ends) n = (start ≤ end) × (end ≤ n) × Ends end ends n

ends_from : (start : ℕ) (ends : List ℕ) (n : ℕ) → IsNonDecreasing (start ∷ ends) → get_or (start ∷ ends) (length ends) 0 ≡ n → Ends start ends n
ends_from start [] n rise last = last
ends_from start (end ∷ ends) n rise last = (
  rise 0 1 0 (omega arith) (omega arith),
  (let e = rise 1 (suc (length ends)) 0 (omega arith) (omega arith) in omega (arith, e, last)),
  ends_from end ends n (λ i j d l m. rise (suc i) (suc j) d (omega arith) (omega arith)) last,
)

ends_of : (start : ℕ) (ends : List ℕ) (n : ℕ) → AreStarts (start ∷ ends) n → Ends start ends n
ends_of start ends n s =
    let last : length (start ∷ ends) - 1 ≡ length ends = omega arith in
    ends_from start ends n s.rise (ap (λ k. get_or (start ∷ ends) k 0) (sym last) ∙ s.end)

parts_more : (start : ℕ) (ends : List ℕ) (cells new : List Cell) → Ends start ends (length cells) → parts_from start (ends ++ length (cells ++ new) ∷ []) (cells ++ new) ≡ parts_from start ends cells ++ new ∷ []
parts_more start [] cells new h = ap (λ l. l ∷ []) (ap (λ a. slice_range (cells ++ new) a (length (cells ++ new))) h ∙ slice_back cells new)
parts_more start (end ∷ ends) cells new h = ap₂ (λ x l. x ∷ l) (slice_front cells new start end h.0 h.1) (parts_more end ends cells new h.2)

-- one column more
pub columns_more : (starts : List ℕ) (cells new : List Cell) → AreStarts starts (length cells) → columns_of (starts ++ length (cells ++ new) ∷ []) (cells ++ new) ≡ columns_of starts cells ++ new ∷ []
columns_more [] cells new s = absurd (omega (arith, s.some))
columns_more (start ∷ ends) cells new s = parts_more start ends cells new (ends_of start ends (length cells) s)

-- numbers that don't fall, with a last one that is no less
starts_more : (starts : List ℕ) (n m : ℕ) → AreStarts starts n → n ≤ m → AreStarts (starts ++ m ∷ []) m
starts_more starts n m s h =
    record {
      some = omega (arith, length-append starts (m ∷ []));
      begin = get_or_append_left starts (m ∷ []) 0 0 s.some ∙ s.begin;
      rise = λ i j d low high. go i j d low high;
      end = let e : length (starts ++ m ∷ []) - 1 ≡ length starts = omega (arith, length-append starts (m ∷ [])) in ap (λ k. get_or (starts ++ m ∷ []) k 0) e ∙ get_or_push starts m 0 (length starts) refl;
    }
  where
    below : (i d : ℕ) → i < length starts → get_or starts i d ≤ n
    below i d l = omega (arith, s.rise i (length starts - 1) d (omega arith) (omega arith), get_or_default starts (length starts - 1) d 0 (omega (arith, s.some)), s.end)

    go : (i j d : ℕ) → i ≤ j → j < length (starts ++ m ∷ []) → get_or (starts ++ m ∷ []) i d ≤ get_or (starts ++ m ∷ []) j d
    go i j d low high =
        elim (cases_lt j (length starts)) [
          | inl inside ↦ omega (arith, s.rise i j d low inside, get_or_append_left starts (m ∷ []) d i (omega arith), get_or_append_left starts (m ∷ []) d j inside)
          | inr at_end ↦ ends (cases_lt i (length starts)) at_end
        ]
      where
        ends : (i < length starts) ⊎ (length starts ≤ i) → length starts ≤ j → get_or (starts ++ m ∷ []) i d ≤ get_or (starts ++ m ∷ []) j d
        ends (inl inside) at_end =
            omega (arith, get_or_append_left starts (m ∷ []) d i inside, below i d inside, get_or_push starts m d j (omega (arith, length-append starts (m ∷ []))), h)
        ends (inr outside) at_end =
            omega (arith, get_or_push starts m d j (omega (arith, length-append starts (m ∷ []))), get_or_push starts m d i (omega (arith, length-append starts (m ∷ []))))

-- no column yet
pub made_none : AreMade (0 ∷ []) []
made_none = record { starts_are = record { some = omega arith; begin = refl; rise = λ i j d low high. let e : i ≡ j = omega arith in rw e (omega arith); end = refl }; few_cells = omega arith }

pub made_more : (starts : List ℕ) (cells new : List Cell) → AreMade starts cells → length cells + length new ≤ 16777216 → AreMade (starts ++ length (cells ++ new) ∷ []) (cells ++ new)
made_more starts cells new made few =
    let long = length-append cells new in
    record { starts_are = starts_more starts (length cells) (length (cells ++ new)) made.starts_are (omega arith); few_cells = omega arith }

parts_cells : (start : ℕ) (ends : List ℕ) (cells : List Cell) → Ends start ends (length cells) → start + cell_count (parts_from start ends cells) ≡ length cells
parts_cells start [] cells h = omega (arith, h)
parts_cells start (end ∷ ends) cells h =
    let here : length (slice_range cells start end) ≡ end - start = length-take-le (end - start) (drop start cells) (omega (arith, length-drop start cells, h.1)) in
    omega (arith, here, h.0, parts_cells end ends cells h.2)

-- the columns have all cells
pub cells_counted : (starts : List ℕ) (cells : List Cell) → AreStarts starts (length cells) → cell_count (columns_of starts cells) ≡ length cells
cells_counted [] cells s = absurd (omega (arith, s.some))
cells_counted (start ∷ ends) cells s =
    let first : start ≡ 0 = s.begin in
    omega (arith, parts_cells start ends cells (ends_of start ends (length cells) s))

-- a column was pushed
pub record IsPushed (starts : List ℕ) (cells new : List Cell) (starts_now : List ℕ) (cells_now : List Cell) : Type 0 where
  pub made : AreMade starts_now cells_now
  pub columns : columns_of starts_now cells_now ≡ columns_of starts cells ++ new ∷ []

pub pushed : (starts : List ℕ) (cells new : List Cell) (end : ℕ) (starts_now : List ℕ) (cells_now : List Cell) → AreMade starts cells → cell_count (columns_of starts cells) + length new ≤ 16777216 → cells_now ≡ cells ++ new → end ≡ length cells_now → starts_now ≡ starts ++ end ∷ [] → IsPushed starts cells new starts_now cells_now
pushed starts cells new end starts_now cells_now made few cells_are end_is starts_are =
    let last : starts_now ≡ starts ++ length (cells ++ new) ∷ [] = starts_are ∙ ap (λ m. starts ++ m ∷ []) (end_is ∙ ap length cells_are) in
    rw (last, cells_are) (record { made = made_more starts cells new made (omega (arith, cells_counted starts cells made.starts_are)); columns = columns_more starts cells new made.starts_are })
