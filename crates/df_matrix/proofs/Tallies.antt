-- How often each row is listed, where the rows stand in order.
use Rattle.std.proofs.Common.{◌≡◌, ℕ, ◌+◌, ◌<◌, ◌≤◌, ◌++◌, List, [], ◌∷◌, All, length, get_or, take, refl, sym, ap, ◌∙◌, subst, arith, eqb, cond, Bool, true, false, length-append}
use Rattle.std.specs.List.Sorted.{IsNonDecreasing}
use Rattle.std.proofs.lemmas.List.{take_more, take_all}
use Rattle.std.proofs.lemmas.List.Elements.{All-push}
use Rattle.df_lists.specs.Membership.{count}
use Rattle.df_lists.specs.Totals.{one}
use Rattle.df_lists.proofs.MemberLaws.{count-append}
use Rattle.df_walk.specs.declared.Cell.{Cell}
use Rattle.df_walk.specs.Systems.{AreCells, entry_of}
use Rattle.df_walk.proofs.EntryLaws.{entry_of-append}
use Rattle.df_matrix.proofs.RowLists.{count_one}
use Rattle.df_matrix.proofs.RisingCells.{cells_none, cells_push}

-- the first i rows are told: the cells have those that end before, and the row at i was listed c times
pub record IsTelling (rows : List ℕ) (i c : ℕ) (told : List Cell) : Type 0 where
  pub cells : (n : ℕ) → All (λ row. row < n) rows → AreCells n told
  pub below : i < length rows → All (λ cell. cell.row < get_or rows i 0) told
  pub tally : (row : ℕ) → entry_of told row + cond (eqb (get_or rows i 0) row) c 0 ≡ count (λ r. eqb r row) (take i rows)
  pub listed : c ≤ i
  pub ended : length rows ≤ i → c ≡ 0
  pub small : All (λ cell. cell.value ≤ 120) told
  pub few : length told ≤ i

no_count : (b : Bool) → ◌≡◌ {A = ℕ} (cond b 0 0) 0
no_count true = refl
no_count false = refl

pub telling_none : (rows : List ℕ) → IsTelling rows 0 0 []
telling_none rows = record {
  cells = λ n all. cells_none n;
  below = λ h k d l. absurd (omega arith);
  tally = λ row. let e = no_count (eqb (get_or rows 0 0) row) in omega (arith, e);
  listed = omega arith;
  ended = λ h. refl;
  small = λ k d l. absurd (omega arith);
  few = omega arith;
}

count_more : (rows : List ℕ) (i row : ℕ) → i < length rows → count (λ r. eqb r row) (take (i + 1) rows) ≡ count (λ r. eqb r row) (take i rows) + one (eqb (get_or rows i 0) row)
count_more rows i row h = ap (count (λ r. eqb r row)) (take_more rows i 0 h) ∙ count-append (λ r. eqb r row) (take i rows) (get_or rows i 0 ∷ []) ∙ ap (λ n. count (λ r. eqb r row) (take i rows) + n) (count_one (λ r. eqb r row) (get_or rows i 0))

add_one : (e n c : ℕ) (b : Bool) → e + cond b c 0 ≡ n → e + cond b (c + 1) 0 ≡ n + one b
add_one e n c true h = omega (arith, h)
add_one e n c false h = omega (arith, h)

-- the row at i is listed at i + 1 too
pub telling_goes : (rows : List ℕ) (i c : ℕ) (cells : List Cell) → IsTelling rows i c cells → i + 1 < length rows → get_or rows (i + 1) 0 ≡ get_or rows i 0 → IsTelling rows (i + 1) (c + 1) cells
telling_goes rows i c cells T h same = record {
  cells = T.cells;
  below = λ l. subst (λ r. All (λ cell. cell.row < r) cells) (sym same) (T.below (omega (arith, h)));
  tally = λ row. ap (λ r. entry_of cells row + cond (eqb r row) (c + 1) 0) same ∙ add_one (entry_of cells row) (count (λ r. eqb r row) (take i rows)) c (eqb (get_or rows i 0) row) (T.tally row) ∙ sym (count_more rows i row (omega (arith, h)));
  listed = omega (arith, T.listed);
  ended = λ l. absurd (omega (arith, l, h));
  small = T.small;
  few = omega (arith, T.few);
}

-- the row at i is listed for the last time
pub telling_ends : (rows : List ℕ) (i c : ℕ) (cells : List Cell) → IsNonDecreasing rows → length rows ≤ 120 → IsTelling rows i c cells → i < length rows → (i + 1 < length rows → get_or rows (i + 1) 0 ≡ get_or rows i 0 → ⊥) → IsTelling rows (i + 1) 0 (cells ++ record { row = get_or rows i 0; value = c + 1 } ∷ [])
telling_ends rows i c cells sorted few T h differs = record {
  cells = λ n all. cells_push n r (c + 1) cells (T.cells n all) (T.below h) (all i 0 h) (omega arith);
  below = λ l. All-push (λ cell. cell.row < get_or rows (i + 1) 0) cells cell (λ k d m. let e = T.below h k d m in omega (arith, e, rises l)) (rises l);
  tally = λ row. told row (eqb r row) refl;
  listed = omega arith;
  ended = λ l. refl;
  small = All-push (λ cell. cell.value ≤ 120) cells cell T.small (omega (arith, T.listed, h, few));
  few = omega (arith, T.few, length-append cells (cell ∷ []));
}
  where
    r : ℕ
    r = get_or rows i 0

    cell : Cell
    cell = record { row = get_or rows i 0; value = c + 1 }

    rises : i + 1 < length rows → get_or rows i 0 < get_or rows (i + 1) 0
    rises l = let e = sorted i (i + 1) 0 (omega arith) l in let ne = differs l in omega (arith, e, ne)

    told : (row : ℕ) (b : Bool) → eqb (get_or rows i 0) row ≡ b → entry_of (cells ++ record { row = get_or rows i 0; value = c + 1 } ∷ []) row + cond (eqb (get_or rows (i + 1) 0) row) 0 0 ≡ count (λ r. eqb r row) (take (i + 1) rows)
    told row b e =
        let parts = entry_of-append cells (record { row = get_or rows i 0; value = c + 1 } ∷ []) row in
        let more = count_more rows i row h in
        let now = add_one (entry_of cells row) (count (λ r. eqb r row) (take i rows)) c (eqb (get_or rows i 0) row) (T.tally row) in
        omega (arith, parts, more, now, no_count (eqb (get_or rows (i + 1) 0) row))

-- all rows are told
pub record IsTally (rows : List ℕ) (told : List Cell) : Type 0 where
  pub cells : (n : ℕ) → All (λ row. row < n) rows → AreCells n told
  pub tally : (row : ℕ) → entry_of told row ≡ count (λ r. eqb r row) rows
  pub small : All (λ cell. cell.value ≤ 120) told

pub telling_all : (rows : List ℕ) (i c : ℕ) (cells : List Cell) → IsTelling rows i c cells → length rows ≤ i → IsTally rows cells
telling_all rows i c cells T h = record {
  cells = T.cells;
  tally = λ row. let e = ap (λ n. cond (eqb (get_or rows i 0) row) n 0) (T.ended h) ∙ no_count (eqb (get_or rows i 0) row) in omega (arith, T.tally row, e, ap (count (λ r. eqb r row)) (take_all i rows h));
  small = T.small;
}
