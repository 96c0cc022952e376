-- Marks on listed blocks, one listed thing after another.
use Rattle.std.proofs.Common.{◌≡◌, ℕ, ◌+◌, ◌<◌, Bool, true, false, ◌||◌, map, replicate, take, set, List, [], ◌∷◌, length, get_or, refl, sym, ap, ◌∙◌, arith, ⊎_elim, eqb, eq-eqb}
use Rattle.std.specs.List.{list_any}
use Rattle.std.proofs.lemmas.Bool.{cases_eq, ne_eqb}
use Rattle.std.proofs.lemmas.List.{length-map, length-set, get_or-map, get_or-set_same, get_or-set_other, same_lists}
use Rattle.df_lists.proofs.TestLaws.{any_take_more}

-- no mark yet
pub marks_none : {X Y : Type 0} (test : X → Y → Bool) (xs : List X) (n : ℕ) → n ≡ length xs → replicate n false ≡ map (λ x. list_any (λ y. test x y) []) xs
marks_none test [] n e = ap (λ n. replicate n false) e
marks_none test (x ∷ xs) n e = ap (λ n. replicate n false) e ∙ ap (λ l. false ∷ l) (marks_none test xs (length xs) refl)

-- the block number r, and it alone, has the next of the things
pub marks_more : {X Y : Type 0} (test : X → Y → Bool) (xs : List X) (ys : List Y) (k r : ℕ) (e : X) (d y : Y) (marks : List Bool) → marks ≡ map (λ x. list_any (test x) (take k ys)) xs → k < length ys → y ≡ get_or ys k d → r < length xs
    → ((i : ℕ) → i < length xs → test (get_or xs i e) y ≡ eqb i r) → set marks r true ≡ map (λ x. list_any (test x) (take (k + 1) ys)) xs
marks_more test xs ys k r e d y marks is h at within own =
    same_lists (set marks r true) (map (λ x. list_any (test x) (take (k + 1) ys)) xs) long (λ i b l. place i b (omega (arith, l, length-set marks r true, ap length is, length-map xs (λ x. list_any (test x) (take k ys)))))
  where
    long : length (set marks r true) ≡ length (map (λ x. list_any (test x) (take (k + 1) ys)) xs)
    long = length-set marks r true ∙ ap length is ∙ length-map xs (λ x. list_any (test x) (take k ys)) ∙ sym (length-map xs (λ x. list_any (test x) (take (k + 1) ys)))

    before : (i : ℕ) (b : Bool) → i < length xs → get_or marks i b ≡ list_any (test (get_or xs i e)) (take k ys)
    before i b l = ap (λ m. get_or m i b) is ∙ get_or-map (λ x. list_any (test x) (take k ys)) xs i e b l

    after : (i : ℕ) (b : Bool) → i < length xs → get_or (map (λ x. list_any (test x) (take (k + 1) ys)) xs) i b ≡ (list_any (test (get_or xs i e)) (take k ys) || eqb i r)
    after i b l = get_or-map (λ x. list_any (test x) (take (k + 1) ys)) xs i e b l ∙ any_take_more (test (get_or xs i e)) ys k d h ∙ ap (λ t. list_any (test (get_or xs i e)) (take k ys) || t) (ap (test (get_or xs i e)) (sym at) ∙ own i l)

    or_true : (b : Bool) → true ≡ (b || true)
    or_true true = refl
    or_true false = refl

    or_false : (b : Bool) → b ≡ (b || false)
    or_false true = refl
    or_false false = refl

    place : (i : ℕ) (b : Bool) → i < length xs → get_or (set marks r true) i b ≡ get_or (map (λ x. list_any (test x) (take (k + 1) ys)) xs) i b
    place i b l = ⊎_elim
        (λ same. ap (λ j. get_or (set marks r true) j b) same ∙ get_or-set_same marks r true b (omega (arith, within, ap length is, length-map xs (λ x. list_any (test x) (take k ys)))) ∙ or_true (list_any (test (get_or xs i e)) (take k ys)) ∙ ap (λ t. list_any (test (get_or xs i e)) (take k ys) || t) (sym (eq-eqb i r same)) ∙ sym (after i b l))
        (λ other. get_or-set_other marks r i true b other ∙ before i b l ∙ or_false (list_any (test (get_or xs i e)) (take k ys)) ∙ ap (λ t. list_any (test (get_or xs i e)) (take k ys) || t) (sym (ne_eqb i r other)) ∙ sym (after i b l))
        (cases_eq i r)
