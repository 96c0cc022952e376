-- The pairs of two lists, by their numbers.
use Rattle.std.proofs.Common.{◌≡◌, ℕ, suc, zero, ◌+◌, ◌*◌, ◌/◌, ◌%◌, ◌<◌, ◌≤◌, ◌++◌, map, List, [], ◌∷◌, length, get_or, refl, sym, ap, ap₂, ◌∙◌, subst, inl, inr, arith, ⊎_elim, length-append, mod-eq_of_lt, suc-mul, mul-le-mul_right}
use Rattle.std.proofs.lemmas.Bool.{cases_lt}
use Rattle.std.proofs.Math.Nat.{add-mod_right, div-add-mod'}
use Rattle.std.proofs.lemmas.Nat.{div-mul-add}
use Rattle.std.proofs.lemmas.List.{length-map, map-append}
use Rattle.std.specs.List.{range_with_len, flat_map}
use Rattle.df_lists.specs.Membership.{In}
use Rattle.df_lists.proofs.MemberLaws.{In-append_left, In-append_right, In-append_cases, In-map, In-map_gives, In-range_gives}
use Rattle.df_lists.proofs.TestLaws.{map_agree}

abbrev pub pairs : List ℕ → List ℕ → List (ℕ × ℕ)
pairs ms hs = flat_map (λ m. map (λ h. (m, h)) hs) ms

pub In-pairs : (ms hs : List ℕ) (m h : ℕ) → In ms m → In hs h → In (pairs ms hs) (m, h)
In-pairs [] hs m h i j = absurd i
In-pairs (l ∷ ms) hs m h (inl e) j = In-append_left (map (λ k. (l, k)) hs) (pairs ms hs) (m, h) (subst (λ (w : ℕ). In {X = ℕ × ℕ} (map (λ k. (l, k)) hs) (w, h)) e (In-map (λ k. (l, k)) hs h j))
In-pairs (l ∷ ms) hs m h (inr i) j = In-append_right (map (λ k. (l, k)) hs) (pairs ms hs) (m, h) (In-pairs ms hs m h i j)

pub In-pairs_gives : (ms hs : List ℕ) (g : ℕ × ℕ) → In (pairs ms hs) g → In ms g.0 × In hs g.1
In-pairs_gives [] hs g i = absurd i
In-pairs_gives (l ∷ ms) hs g i =
    ⊎_elim (λ j. let r = In-map_gives (λ k. (l, k)) hs g j in (inl (ap (λ (w : ℕ × ℕ). w.0) r.2), subst (In hs) (ap (λ (w : ℕ × ℕ). w.1) r.2) r.1))
    (λ j. let r = In-pairs_gives ms hs g j in (inr r.0, r.1))
    (In-append_cases (map (λ k. (l, k)) hs) (pairs ms hs) g i)

pub length-pairs : (ms hs : List ℕ) → length (pairs ms hs) ≡ length ms * length hs
length-pairs [] hs = omega arith
length-pairs (l ∷ ms) hs = length-append (map (λ k. (l, k)) hs) (pairs ms hs) ∙ ap₂ (λ a b. a + b) (length-map hs (λ k. (l, k))) (length-pairs ms hs) ∙ sym (suc-mul' (length ms) (length hs))
  where
    suc-mul' : (a b : ℕ) → suc a * b ≡ b + a * b
    suc-mul' a b = let e = suc-mul a b in omega (arith, e)

range_later : {X : Type 0} (f : ℕ → X) (a b n : ℕ) → map f (range_with_len (a + b) n) ≡ map (λ i. f (i + b)) (range_with_len a n)
range_later f a b zero = refl
range_later f a b (suc n) =
    let e : a + b + 1 ≡ a + 1 + b = omega arith in
    ap (λ l. f (a + b) ∷ l) (ap (λ k. map f (range_with_len k n)) e ∙ range_later f (a + 1) b n)

range_split : (a m n : ℕ) → range_with_len a (m + n) ≡ range_with_len a m ++ range_with_len (a + m) n
range_split a zero n = let e : 0 + n ≡ n = omega arith in let f : a + 0 ≡ a = omega arith in rw (e, f) refl
range_split a (suc m) n =
    let e : suc m + n ≡ suc (m + n) = omega arith in
    let f : a + suc m ≡ a + 1 + m = omega arith in
    rw (e, f) (ap (λ l. a ∷ l) (range_split (a + 1) m n))

by_places : {X : Type 0} (g : ℕ → X) (hs : List ℕ) → map g hs ≡ map (λ i. g (get_or hs i 0)) (range_with_len 0 (length hs))
by_places g [] = refl
by_places g (h ∷ hs) = ap (λ l. g h ∷ l) (by_places g hs ∙ sym (range_later (λ i. g (get_or (h ∷ hs) i 0)) 0 1 (length hs) ∙ map_agree (λ i. g (get_or (h ∷ hs) (i + 1) 0)) (λ i. g (get_or hs i 0)) (range_with_len 0 (length hs)) (λ i j. let e : i + 1 ≡ suc i = omega arith in ap (λ k. g (get_or (h ∷ hs) k 0)) e)))

-- the row of a place
pub row_below : (i w n : ℕ) → 0 < w → i < n * w → i / w < n
row_below i w n some h = ⊎_elim (λ l. l) (λ l. absurd (let a = div-add-mod' i w in let b : n * w ≤ i / w * w = mul-le-mul_right w l in omega (arith, h, a, b))) (cases_lt (i / w) n)

-- number i of the pairs
abbrev pub pair_number : List ℕ → List ℕ → ℕ → ℕ × ℕ
pair_number ms hs i = (get_or ms (i / length hs) 0, get_or hs (i % length hs) 0)

module _ (hs : List ℕ) (some : 0 < length hs) where
  first_row : (l : ℕ) (ms : List ℕ) → map (λ k. (l, k)) hs ≡ map (pair_number (l ∷ ms) hs) (range_with_len 0 (length hs))
  first_row l ms =
      by_places (λ k. (l, k)) hs ∙ map_agree (λ i. (l, get_or hs i 0)) (pair_number (l ∷ ms) hs) (range_with_len 0 (length hs)) (λ i j. sym (here i (In-range_gives 0 (length hs) i j).1))
    where
      here : (i : ℕ) → i < 0 + length hs → pair_number (l ∷ ms) hs i ≡ (l, get_or hs i 0)
      here i h =
          let low : i < length hs = omega arith in
          let start : i ≡ 0 * length hs + i = omega arith in
          let d : i / length hs ≡ 0 = ap (λ n. n / length hs) start ∙ div-mul-add 0 (length hs) i low in
          let m : i % length hs ≡ i = mod-eq_of_lt low in
          ap₂ (λ a b. (get_or (l ∷ ms) a 0, get_or hs b 0)) d m

  later_rows : (l : ℕ) (ms : List ℕ) (n : ℕ) → map (pair_number (l ∷ ms) hs) (range_with_len (0 + length hs) n) ≡ map (pair_number ms hs) (range_with_len 0 n)
  later_rows l ms n = range_later (pair_number (l ∷ ms) hs) 0 (length hs) n ∙ map_agree (λ i. pair_number (l ∷ ms) hs (i + length hs)) (pair_number ms hs) (range_with_len 0 n) (λ i j. here i)
    where
      here : (i : ℕ) → pair_number (l ∷ ms) hs (i + length hs) ≡ pair_number ms hs i
      here i =
          let w = length hs in
          let low : i % w < w = omega (arith, some) in
          let whole : i ≡ i / w * w + i % w = sym (div-add-mod' i w) in
          let up : i + w ≡ suc (i / w) * w + i % w = (let e = suc-mul (i / w) w in omega (arith, e, whole)) in
          let d : (i + w) / w ≡ suc (i / w) = ap (λ n. n / w) up ∙ div-mul-add (suc (i / w)) w (i % w) low in
          ap₂ (λ a b. (get_or (l ∷ ms) a 0, get_or hs b 0)) d (add-mod_right i w)

  pub pairs_numbered : (ms : List ℕ) → pairs ms hs ≡ map (pair_number ms hs) (range_with_len 0 (length ms * length hs))
  pairs_numbered [] = let e : 0 * length hs ≡ 0 = omega arith in rw e refl
  pairs_numbered (l ∷ ms) =
      let e : suc (length ms) * length hs ≡ length hs + length ms * length hs = (let f = suc-mul (length ms) (length hs) in omega (arith, f)) in
      ap₂ (λ a b. a ++ b) (first_row l ms) (pairs_numbered ms ∙ sym (later_rows l ms (length ms * length hs)))
      ∙ sym (ap (λ n. map (pair_number (l ∷ ms) hs) (range_with_len 0 n)) e ∙ ap (map (pair_number (l ∷ ms) hs)) (range_split 0 (length hs) (length ms * length hs)) ∙ map-append (pair_number (l ∷ ms) hs) (range_with_len 0 (length hs)) (range_with_len (0 + length hs) (length ms * length hs)))
