-- Sets of columns as bits of words: one column more, one row more, one level more.
use Rattle.std.proofs.Common.{◌≡◌, ◌≢◌, ℕ, zero, suc, ◌+◌, ◌-◌, ◌*◌, ◌/◌, ◌%◌, ◌^◌, ◌<◌, ◌≤◌, Bool, true, false, max, List, [], ◌∷◌, length, get_or, set, drop, refl, sym, ap, ◌∙◌, arith, inl, inr, get_or-set_same, get_or-set_other}
use Rattle.std.specs.Prelude.{replicate, ◌⊎◌, ◌||◌, ◌==◌}
use Rattle.std.specs.List.{list_any}
use Rattle.std.specs.Int.{bit_at}
use Rattle.std.specs.Int.RustNames.{bit_or}
use Rattle.std.proofs.lemmas.Grind.{get_or_default_zero}
use Rattle.std.proofs.lemmas.Bool.{cases_eq, cases_lt, eqb-true, eq-eqb, ne_eqb, or_cases}
use Rattle.std.proofs.lemmas.List.{get_or_past}
use Rattle.std.proofs.lemmas.Nat.{div-mul-add, div-add-mod', pow-add, mul-le}
use Rattle.std.proofs.lemmas.Nat.Bits.{bit_at_set_same, bit_at_set_other, bit_at_or, bit_at-lt, bit_at_above, bit_at-zero}
use Rattle.std.proofs.Math.Nat.{div-div-eq-div-mul}
use mir.Syntax.{w64}
use Rattle.df_walk.specs.declared.Cell.{Cell}
use Rattle.df_walk.specs.Systems.{System, AreCells, entries, entry, entry_of, cells}
use Rattle.df_walk.proofs.EntryLaws.{entry_is, length-entries}
use Rattle.df_system.specs.BarredColumns.{IsBarredBy, bars_row, with_row}
use Rattle.df_system.specs.BarredWords.{HasBit, HasColumn, SetsArePositive, AreRowSets, IsLevelSet, AreLevelSets}
use Rattle.df_system.proofs.SortedCells.{blank, entry_in_order}

-- one bit more
module _ (words : List ℕ) (place bit v : ℕ) (inside : place < length words) (small : bit < 64) (read : v ≡ get_or words place 0) where
  with_bit : List ℕ
  with_bit = set words place (bit_or v (1 * 2 ^ bit % 2 ^ 64))

  pub bit_has : HasBit (set words place (bit_or v (1 * 2 ^ bit % 2 ^ 64))) place bit
  bit_has = ap (λ x. bit_at x bit) (get_or-set_same words place (bit_or v (1 * 2 ^ bit % 2 ^ 64)) 0 inside) ∙ bit_at_set_same w64 v bit small

  elsewhere : (p b : ℕ) → p ≢ place → bit_at (get_or (set words place (bit_or v (1 * 2 ^ bit % 2 ^ 64))) p 0) b ≡ bit_at (get_or words p 0) b
  elsewhere p b other = ap (λ x. bit_at x b) (get_or-set_other words place p (bit_or v (1 * 2 ^ bit % 2 ^ 64)) 0 other)

  beside : (b : ℕ) → b ≢ bit → bit_at (get_or (set words place (bit_or v (1 * 2 ^ bit % 2 ^ 64))) place 0) b ≡ bit_at (get_or words place 0) b
  beside b other = ap (λ x. bit_at x b) (get_or-set_same words place (bit_or v (1 * 2 ^ bit % 2 ^ 64)) 0 inside) ∙ bit_at_set_other w64 v bit small b other ∙ ap (λ x. bit_at x b) read

  pub bit_keeps : (p b : ℕ) → HasBit words p b → HasBit (set words place (bit_or v (1 * 2 ^ bit % 2 ^ 64))) p b
  bit_keeps p b on = elim (cases_eq p place) [
    | inl same ↦ elim (cases_eq b bit) [
      | inl here ↦ rw (same, here) bit_has
      | inr other ↦ rw same (beside b other ∙ ap (λ k. bit_at (get_or words k 0) b) (sym same) ∙ on)
    ]
    | inr other ↦ elsewhere p b other ∙ on
  ]

  pub bit_only : (p b : ℕ) → HasBit (set words place (bit_or v (1 * 2 ^ bit % 2 ^ 64))) p b → HasBit words p b ⊎ ((p ≡ place) × (b ≡ bit))
  bit_only p b on = elim (cases_eq p place) [
    | inl same ↦ elim (cases_eq b bit) [
      | inl here ↦ inr (same, here)
      | inr other ↦ inl (ap (λ k. bit_at (get_or words k 0) b) same ∙ sym (beside b other) ∙ ap (λ k. bit_at (get_or (set words place (bit_or v (1 * 2 ^ bit % 2 ^ 64))) k 0) b) (sym same) ∙ on)
    ]
    | inr other ↦ inl (sym (elsewhere p b other) ∙ on)
  ]

-- the word of a column
pub word_low : (column words : ℕ) → column < words * 64 → column / 64 < words
word_low column words h = omega (arith, div-add-mod' column 64)

-- the word of a row is there
pub place_inside : (row rows words word : ℕ) → row < rows → word < words → row * words + word < rows * words
place_inside row rows words word h low = let m = mul-le (row + 1) words rows words (omega arith) (omega arith) in omega arith

-- a place tells its row
place_row : (r row words w word : ℕ) → w < words → word < words → r * words + w ≡ row * words + word → r ≡ row
place_row r row words w word low low' e = sym (div-mul-add r words w low) ∙ ap (λ p. p / words) e ∙ div-mul-add row words word low'

-- and its word
place_word : (r row words w word : ℕ) → r ≡ row → r * words + w ≡ row * words + word → w ≡ word
place_word r row words w word same e = let m : r * words ≡ row * words = ap (λ k. k * words) same in omega arith

-- the bit of a column is set in a row where it has a positive entry
pub sets_more : (s : System) (words : ℕ) (sets : List ℕ) (row column place v : ℕ) → SetsArePositive s words sets → place ≡ row * words + column / 64 → column < words * 64 → place < length sets → v ≡ get_or sets place v → 0 < entry s row column → SetsArePositive s words (set sets place (bit_or v (1 * 2 ^ (column % 64) % 2 ^ 64)))
sets_more s words sets row column place v positive place_is low inside read some r c within less on =
    elim (bit_only sets place (column % 64) v inside (omega arith) (read ∙ get_or_default_zero sets place v inside) (r * words + c / 64) (c % 64) on) [
      | inl was ↦ positive r c within less was
      | inr here ↦ there here.0 here.1
    ]
  where
    there : r * words + c / 64 ≡ place → c % 64 ≡ column % 64 → 0 < entry s r c
    there at bit =
        let same = place_row r row words (c / 64) (column / 64) (word_low c words less) (word_low column words low) (at ∙ place_is) in
        let word = place_word r row words (c / 64) (column / 64) same (at ∙ place_is) in
        let is : c ≡ column = omega (arith, div-add-mod' c 64, div-add-mod' column 64) in
        rw (same, is) some

pub cell_positive : (s : System) {rows : ℕ} (column : ℕ) (cs : List Cell) (k : ℕ) → cs ≡ cells s column → AreCells rows cs → k < length cs → 0 < entry s (get_or cs k blank).row column
cell_positive s {rows} column cs k is ok inside =
    let row = (get_or cs k blank).row in
    let e : entry s row column ≡ entry_of cs row = entry_is s row column ∙ ap (λ c. entry_of c row) (sym is) in
    omega (arith, e, entry_in_order cs row k ok.increasing inside refl, ok.positive k blank inside)

-- a positive entry has a cell
pub cell_of : (column : List Cell) (row : ℕ) → 0 < entry_of column row → (k : ℕ) × (k < length column) × ((get_or column k blank).row ≡ row)
cell_of [] row h = absurd (omega arith)
cell_of (cell ∷ column) row h = elim (cases_eq cell.row row) [
  | inl same ↦ (zero, omega arith, same)
  | inr other ↦ let later : 1 ≤ 0 + entry_of column row = rw (ne_eqb cell.row row other) at h in let r = cell_of column row (omega (arith, later)) in (suc r.0, omega (arith, r.1), r.2)
]

-- an entry past the columns is 0
pub entry_past : (s : System) (row column : ℕ) → 0 < entry s row column → column < length s.columns
entry_past s row column some = elim (cases_lt column (length s.columns)) [
  | inl less ↦ less
  | inr more ↦ absurd (omega (arith, some, get_or_past (entries s row) column 0 (omega (arith, length-entries s row))))
]

-- no bit is set
pub none_set : (n place bit : ℕ) → HasBit (replicate n zero) place bit → ⊥
none_set n place bit on = let z = ap (λ x. bit_at x bit) (none n place) ∙ bit_at-zero bit in absurd (omega (arith, z, on))
  where
    none : (n place : ℕ) → get_or (replicate n zero) place 0 ≡ zero
    none zero place = refl
    none (suc n) zero = refl
    none (suc n) (suc place) = none n place

-- a row more bars what the others bar
pub bars_more : (q row : ℕ) (rows : List ℕ) (lower : List (List ℕ)) → bars_row ((row ∷ rows) ∷ lower) q ≡ ((q == row) || bars_row (rows ∷ lower) q)
bars_more q row rows lower = elim (q == row) as (λ b. ((b || list_any (λ r. q == r) rows) || bars_row lower q) ≡ (b || (list_any (λ r. q == r) rows || bars_row lower q))) [
  | true ↦ refl
  | false ↦ refl
]

-- a level's set joined with a row's
module _ (s : System) (words start row : ℕ) (sets old new rows : List ℕ) (lower : List (List ℕ)) (held : AreRowSets s words sets) (within : row < length s.targets) (joined : (k : ℕ) → k < words → get_or new (start + k) 0 ≡ bit_or (get_or old (start + k) 0) (get_or sets (row * words + k) 0)) where
  bit_is : (column : ℕ) → column < words * 64 → bit_at (get_or new (start + column / 64) 0) (column % 64) ≡ max (bit_at (get_or old (start + column / 64) 0) (column % 64)) (bit_at (get_or sets (row * words + column / 64) 0) (column % 64))
  bit_is column less = ap (λ x. bit_at x (column % 64)) (joined (column / 64) (word_low column words less)) ∙ bit_at_or (get_or old (start + column / 64) 0) (get_or sets (row * words + column / 64) 0) (column % 64)

  by_row : (column : ℕ) → 0 < entry s row column → IsBarredBy s ((row ∷ rows) ∷ lower) column
  by_row column some = record { row = row; within = within; barred = bars_more row row rows lower ∙ ap (λ b. b || bars_row (rows ∷ lower) row) (eq-eqb row row refl); positive = some }

  still : (column : ℕ) → IsBarredBy s (rows ∷ lower) column → IsBarredBy s ((row ∷ rows) ∷ lower) column
  still column h = record { row = h.row; within = h.within; barred = bars_more h.row row rows lower ∙ ap (λ b. (h.row == row) || b) h.barred ∙ any_true (h.row == row); positive = h.positive }
    where
      any_true : (b : Bool) → (b || true) ≡ true
      any_true true = refl
      any_true false = refl

  pub level_joined : IsLevelSet s words old start (rows ∷ lower) → IsLevelSet s words new start ((row ∷ rows) ∷ lower)
  level_joined h = record { sound = sound; whole = whole }
    where
      sound : (column : ℕ) → column < words * 64 → HasColumn new start column → IsBarredBy s ((row ∷ rows) ∷ lower) column
      sound column less on = go (bit_at (get_or old (start + column / 64) 0) (column % 64)) refl
        where
          go : (b : ℕ) → bit_at (get_or old (start + column / 64) 0) (column % 64) ≡ b → IsBarredBy s ((row ∷ rows) ∷ lower) column
          go zero is = by_row column (held.positive row column within less (omega (arith, is, on, bit_is column less)))
          go (suc b) is = still column (h.sound column less (omega (arith, is, bit_at-lt (get_or old (start + column / 64) 0) (column % 64))))

      whole : (column : ℕ) → column < words * 64 → IsBarredBy s ((row ∷ rows) ∷ lower) column → HasColumn new start column
      whole column less b =
          elim (or_cases (b.row == row) (bars_row (rows ∷ lower) b.row) (sym (bars_more b.row row rows lower) ∙ b.barred)) [
            | inl same ↦ here (eqb-true b.row row same)
            | inr before ↦ let on = h.whole column less (record { row = b.row; within = b.within; barred = before; positive = b.positive }) in omega (arith, on, bit_is column less, bit_at-lt (get_or sets (row * words + column / 64) 0) (column % 64))
          ]
        where
          here : b.row ≡ row → HasColumn new start column
          here same = let on = held.whole row column within less (rw same at b.positive) in omega (arith, on, bit_is column less, bit_at-lt (get_or old (start + column / 64) 0) (column % 64))

-- a set that is copied, where the levels bar the same
pub level_copied : (s : System) (words from to : ℕ) (old new : List ℕ) (levels : List (List ℕ)) → ((k : ℕ) → k < words → get_or new (to + k) 0 ≡ get_or old (from + k) 0) → IsLevelSet s words old from levels → IsLevelSet s words new to levels
level_copied s words from to old new levels same h =
    record {
      sound = λ column less on. h.sound column less (sym (at column less) ∙ on);
      whole = λ column less b. at column less ∙ h.whole column less b;
    }
  where
    at : (column : ℕ) → column < words * 64 → bit_at (get_or new (to + column / 64) 0) (column % 64) ≡ bit_at (get_or old (from + column / 64) 0) (column % 64)
    at column less = ap (λ x. bit_at x (column % 64)) (same (column / 64) (word_low column words less))

-- a level that bars no row itself
level_begun : (s : System) (words start : ℕ) (barred : List ℕ) (levels : List (List ℕ)) → IsLevelSet s words barred start levels → IsLevelSet s words barred start ([] ∷ levels)
level_begun s words start barred levels h =
    record {
      sound = λ column less on. let b = h.sound column less on in record { row = b.row; within = b.within; barred = b.barred; positive = b.positive };
      whole = λ column less b. h.whole column less (record { row = b.row; within = b.within; barred = b.barred; positive = b.positive });
    }

-- levels below a place that is written
pub levels_below : (s : System) (words kept : ℕ) (old new : List ℕ) (levels : List (List ℕ)) → ((place : ℕ) → place < length levels * words → get_or new place 0 ≡ get_or old place 0) → AreLevelSets s words kept old levels → AreLevelSets s words kept new levels
levels_below s words kept old new [] same h = tt
levels_below s words kept old new (rows ∷ lower) same h =
    (λ low. level_copied s words (length lower * words) (length lower * words) old new (rows ∷ lower) (λ k less. same (length lower * words + k) (place_inside (length lower) (suc (length lower)) words k (omega arith) less)) (h.0 low), levels_below s words kept old new lower (λ place less. same place (omega (arith, less, mul-le (length lower) words (suc (length lower)) words (omega arith) (omega arith)))) h.1)

-- the last level has a row more
pub levels_bar : (s : System) (words kept top row : ℕ) (sets old new : List ℕ) (levels : List (List ℕ)) → length levels ≡ top + 1 → row < length s.targets → (0 < kept → AreRowSets s words sets) → ((place : ℕ) → place < top * words → get_or new place 0 ≡ get_or old place 0) → (top < kept → (k : ℕ) → k < words → get_or new (top * words + k) 0 ≡ bit_or (get_or old (top * words + k) 0) (get_or sets (row * words + k) 0)) → AreLevelSets s words kept old levels → AreLevelSets s words kept new (with_row row levels)
levels_bar s words kept top row sets old new [] depth within held same joined h = tt
levels_bar s words kept top row sets old new (rows ∷ lower) depth within held same joined h =
    let is : top ≡ length lower = omega arith in
    let same' : (place : ℕ) → place < length lower * words → get_or new place 0 ≡ get_or old place 0 = rw is at same in
    let joined' : length lower < kept → (k : ℕ) → k < words → get_or new (length lower * words + k) 0 ≡ bit_or (get_or old (length lower * words + k) 0) (get_or sets (row * words + k) 0) = rw is at joined in
    (λ low. level_joined s words (length lower * words) row sets old new rows lower (held (omega arith)) within (joined' low) (h.0 low), levels_below s words kept old new lower same' h.1)

-- a new level
pub levels_push : (s : System) (words kept level : ℕ) (old new : List ℕ) (levels : List (List ℕ)) → length levels ≡ level → 0 < level → ((place : ℕ) → place < level * words → get_or new place 0 ≡ get_or old place 0) → (level < kept → (k : ℕ) → k < words → get_or new (level * words + k) 0 ≡ get_or old ((level - 1) * words + k) 0) → AreLevelSets s words kept old levels → AreLevelSets s words kept new ([] ∷ levels)
levels_push s words kept level old new [] depth some same copied h = absurd (omega arith)
levels_push s words kept level old new (rows ∷ lower) depth some same copied h =
    let is : level ≡ suc (length lower) = omega arith in
    let same' : (place : ℕ) → place < suc (length lower) * words → get_or new place 0 ≡ get_or old place 0 = rw is at same in
    let copied' : suc (length lower) < kept → (k : ℕ) → k < words → get_or new (suc (length lower) * words + k) 0 ≡ get_or old (length lower * words + k) 0 = let e : suc (length lower) - 1 ≡ length lower = omega arith in rw (is, e) at copied in
    (λ low. level_begun s words (suc (length lower) * words) new (rows ∷ lower) (level_copied s words (length lower * words) (suc (length lower) * words) old new (rows ∷ lower) (copied' low) (h.0 (omega arith))), levels_below s words kept old new (rows ∷ lower) same' h)

-- the last level goes
pub levels_pop : (s : System) (words kept : ℕ) (barred : List ℕ) (levels : List (List ℕ)) → AreLevelSets s words kept barred levels → AreLevelSets s words kept barred (drop 1 levels)
levels_pop s words kept barred [] h = tt
levels_pop s words kept barred (rows ∷ lower) h = h.1

-- the set of the last level
pub level_last : (s : System) (words kept top : ℕ) (barred : List ℕ) (levels : List (List ℕ)) → length levels ≡ top + 1 → top < kept → AreLevelSets s words kept barred levels → IsLevelSet s words barred (top * words) levels
level_last s words kept top barred [] depth low h = absurd (omega arith)
level_last s words kept top barred (rows ∷ lower) depth low h =
    let is : top ≡ length lower = omega arith in
    rw is (h.0 (omega arith))

-- at the start nothing is barred
pub levels_none : (s : System) (words kept n : ℕ) (barred : List ℕ) → barred ≡ replicate n zero → AreLevelSets s words kept barred ([] ∷ [])
levels_none s words kept n barred is = (
  λ low. record {
    sound = λ column less on. absurd (none_set n (0 * words + column / 64) (column % 64) (ap (λ l. bit_at (get_or l (0 * words + column / 64) 0) (column % 64)) (sym is) ∙ on));
    whole = λ column less b. absurd (let e = b.barred in cc);
  },
  tt,
)

-- columns that share a word
same_word : (column k : ℕ) → column % 64 + k < 64 → (column + k) / 64 ≡ column / 64
same_word column k h = omega (arith, div-add-mod' column 64, div-add-mod' (column + k) 64)

same_bit : (column k : ℕ) → column % 64 + k < 64 → (column + k) % 64 ≡ column % 64 + k
same_bit column k h = omega (arith, same_word column k h, div-add-mod' column 64, div-add-mod' (column + k) 64)

-- a word without its lowest bits
pub shifted : (w j k : ℕ) → bit_at (w / 2 ^ j) k ≡ bit_at w (j + k)
shifted w j k = ap (λ n. n % 2) (div-div-eq-div-mul w (2 ^ j) (2 ^ k) ∙ ap (λ n. w / n) (sym (pow-add 2 j k)))

-- ones from a bit on end with the word
pub ones_within : (w j n : ℕ) → w < 2 ^ 64 → j < 64 → ((k : ℕ) → k < n → bit_at w (j + k) ≡ 1) → j + n ≤ 64
ones_within w j n small low ones = elim (cases_lt 64 (j + n)) [
  | inl more ↦ absurd (omega (arith, ones (64 - j) (omega (arith, more)), bit_at_above w 64 (j + (64 - j)) small (omega arith)))
  | inr most ↦ most
]

-- the columns of ones are barred
pub run_barred : (s : System) (words : ℕ) (barred : List ℕ) (start : ℕ) (levels : List (List ℕ)) (column n w : ℕ) → IsLevelSet s words barred start levels → column < words * 64 → w ≡ get_or barred (start + column / 64) 0 → column % 64 + n ≤ 64 → ((k : ℕ) → k < n → bit_at w (column % 64 + k) ≡ 1) → (k : ℕ) → k < n → IsBarredBy s levels (column + k)
run_barred s words barred start levels column n w h less read most ones k low =
    let within : column % 64 + k < 64 = omega arith in
    let on : bit_at (get_or barred (start + column / 64) 0) (column % 64 + k) ≡ 1 = ap (λ x. bit_at x (column % 64 + k)) (sym read) ∙ ones k low in
    h.sound (column + k) (omega (arith, word_low column words less, div-add-mod' column 64)) (rw (same_word column k within, same_bit column k within) on)

-- the column of a nought isn't
pub run_end : (s : System) (words : ℕ) (barred : List ℕ) (start : ℕ) (levels : List (List ℕ)) (column n w : ℕ) → IsLevelSet s words barred start levels → column < words * 64 → w ≡ get_or barred (start + column / 64) 0 → bit_at w (column % 64 + n) ≡ 0 → column % 64 + n < 64 → IsBarredBy s levels (column + n) → ⊥
run_end s words barred start levels column n w h less read nought within b =
    let on = h.whole (column + n) (omega (arith, word_low column words less, div-add-mod' column 64)) b in
    let here : bit_at (get_or barred (start + column / 64) 0) (column % 64 + n) ≡ 1 = rw (same_word column n within, same_bit column n within) at on in
    let none : bit_at (get_or barred (start + column / 64) 0) (column % 64 + n) ≡ 0 = ap (λ x. bit_at x (column % 64 + n)) (sym read) ∙ nought in
    absurd (omega (arith, here, none))

-- the words hold all columns
pub wide : (columns words : ℕ) → words ≡ columns / 64 + 1 → columns ≤ words * 64
wide columns words is = omega (arith, is, div-add-mod' columns 64)

-- barred columns are columns of the system
pub run_inside : (s : System) (levels : List (List ℕ)) (column n : ℕ) → column < length s.columns → ((k : ℕ) → k < n → IsBarredBy s levels (column + k)) → column + n ≤ length s.columns
run_inside s levels column zero less barred = omega arith
run_inside s levels column (suc n) less barred =
    let b = barred n (omega arith) in
    omega (arith, entry_past s b.row (column + n) b.positive)
