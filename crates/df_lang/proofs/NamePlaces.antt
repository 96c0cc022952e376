-- Where a name stands in the table of names.
use Rattle.std.proofs.Common.{◌≡◌, ◌==◌, ℕ, ◌+◌, ◌<◌, ◌≤◌, Bool, true, false, cond, not, ◌&&◌, ltb, suc, List, [], ◌∷◌, ◌++◌, map, length, All, Some, None, position, refl, sym, ap, ◌∙◌, arith, tests, bytes_eq, if◌then◌else◌, nat_lt, ◌^◌, ◌-◌, ◌⊎◌, inl, inr, subst, zero, get_or, slice_get, Result, Ok, Err, OnOk, OnErr}
use Rattle.std.proofs.lemmas.List.{length_push}
use Rattle.std.proofs.lemmas.List.Elements.{All-push}
use Rattle.std.proofs.Math.Bool.{and-false}
use Rattle.std.specs.List.{position_or_len}
use Rattle.std.specs.Map.{keys_of}
use Rattle.indexmap.specs.IndexMap.{insert_entry}
use Rattle.arrayvec.specs.ArrayVec.{ArrayVec}
use Rattle.df_lang.specs.Problems.{Named}
use Rattle.df_lang.specs.Stored.{named}
use Rattle.df_lang.specs.Values.{place_of}

pub differ_in_length : (a b : List ℕ) → length b < length a → bytes_eq a b ≡ false
differ_in_length [] b h = absurd (omega arith)
differ_in_length (x ∷ xs) [] h = refl
differ_in_length (x ∷ xs) (y ∷ ys) h = ap (λ v. (x == y) && v) (differ_in_length xs ys (omega arith)) ∙ and-false (x == y)

none_so_far : (token : List ℕ) (names : List Named) → 16 < length token → All (λ (n : Named). length n.0 ≤ 16) names → position_or_len (λ (n : Named). bytes_eq token n.0) names ≡ length names
none_so_far token [] long short = refl
none_so_far token (n ∷ ns) long short =
    let here = differ_in_length token n.0 (omega (arith, short 0 n (omega arith))) in
    let ih = none_so_far token ns long (λ k d h. short (suc k) d (omega (arith, h))) in
    rw here (omega (arith, ih))

-- no name is as long as this token
pub place_too_long : (token : List ℕ) (names : List Named) → 16 < length token → All (λ (n : Named). length n.0 ≤ 16) names → place_of names token ≡ None
place_too_long token names long short =
    let end = none_so_far token names long short in
    let past : ltb (position_or_len (λ (n : Named). bytes_eq token n.0) names) (length names) ≡ false = grind (arith, tests, end) in
    rw past refl

module _ (token : List ℕ) where
  same_place : (es : List (ArrayVec ℕ × List ℕ)) → position_or_len (λ (n : Named). bytes_eq token n.0) (map named es) ≡ position_or_len (λ (k : ArrayVec ℕ). bytes_eq token k.items) (keys_of es)
  same_place [] = refl
  same_place (e ∷ es) = ap (λ m. cond (not (bytes_eq token e.0.items)) (1 + m) 0) (same_place es)

  same_length : (es : List (ArrayVec ℕ × List ℕ)) → length (map named es) ≡ length (keys_of es)
  same_length [] = refl
  same_length (e ∷ es) = ap suc (same_length es)

  -- a key of the table is found at the place of its name
  pub place_of_key : (es : List (ArrayVec ℕ × List ℕ)) → position (λ (k : ArrayVec ℕ). bytes_eq token k.items) (keys_of es) ≡ place_of (map named es) token
  place_of_key es =
      ap (λ m. cond (nat_lt m (length (keys_of es))) (Some m) None) (sym (same_place es))
      ∙ ap (λ l. cond (nat_lt (position_or_len (λ (n : Named). bytes_eq token n.0) (map named es)) l) (Some (position_or_len (λ (n : Named). bytes_eq token n.0) (map named es))) None) (sym (same_length es))

-- an entry whose key is not in the table goes last
insert_last : (es : List (ArrayVec ℕ × List ℕ)) (k : ArrayVec ℕ) (v : List ℕ) → length (keys_of es) ≤ position_or_len (λ (x : ArrayVec ℕ). bytes_eq k.items x.items) (keys_of es)
    → insert_entry (λ (x y : ArrayVec ℕ). bytes_eq x.items y.items) es k v ≡ es ++ (k, v) ∷ []
insert_last [] k v absent = refl
insert_last (e ∷ es) k v absent = by (bytes_eq k.items e.0.items) (λ h. insert_last es k v h) absent where
  by : (b : Bool) → (length (keys_of es) ≤ position_or_len (λ (x : ArrayVec ℕ). bytes_eq k.items x.items) (keys_of es) → insert_entry (λ (x y : ArrayVec ℕ). bytes_eq x.items y.items) es k v ≡ es ++ (k, v) ∷ [])
      → length (keys_of (e ∷ es)) ≤ cond (not b) (1 + position_or_len (λ (x : ArrayVec ℕ). bytes_eq k.items x.items) (keys_of es)) 0
      → (if b then (e.0, v) ∷ es else e ∷ insert_entry (λ (x y : ArrayVec ℕ). bytes_eq x.items y.items) es k v) ≡ e ∷ (es ++ (k, v) ∷ [])
  by true ih h = absurd (omega arith)
  by false ih h = ap (λ l. e ∷ l) (ih (omega arith))

pub insert_new : (es : List (ArrayVec ℕ × List ℕ)) (k : ArrayVec ℕ) (v : List ℕ) → place_of (map named es) k.items ≡ None
    → insert_entry (λ (x y : ArrayVec ℕ). bytes_eq x.items y.items) es k v ≡ es ++ (k, v) ∷ []
insert_new es k v none =
    let absent = place_of_key k.items es ∙ none in
    insert_last es k v (grind (arith, tests))

pub named_push : (es : List (ArrayVec ℕ × List ℕ)) (e : ArrayVec ℕ × List ℕ) → map named (es ++ e ∷ []) ≡ map named es ++ named e ∷ []
named_push [] e = refl
named_push (d ∷ es) e = ap (λ l. named d ∷ l) (named_push es e)

-- the table after an entry is put in, or after there was no room for it
abbrev pub Grown : List (ArrayVec ℕ × List ℕ) → List (ArrayVec ℕ × List ℕ) → ArrayVec ℕ × List ℕ → Type 0
Grown old new e = (new ≡ old ++ e ∷ []) ⊎ (new ≡ old)

pub grown : {A E : Type 0} (r : Result A E) (old new : List (ArrayVec ℕ × List ℕ)) (k : ArrayVec ℕ) (v : List ℕ) → OnOk r (new ≡ insert_entry (λ (x y : ArrayVec ℕ). bytes_eq x.items y.items) old k v) → OnErr r (new ≡ old)
    → place_of (map named old) k.items ≡ None → Grown old new (k, v)
grown (Ok x) old new k v put kept none = inl (put ∙ insert_new old k v none)
grown (Err e) old new k v put kept none = inr kept

pub few_grown : (old new : List (ArrayVec ℕ × List ℕ)) (e : ArrayVec ℕ × List ℕ) → Grown old new e → length old < 2 ^ 32 - 1 → length new < 2 ^ 32
few_grown old new e (inl more) few = omega (arith, ap length more, length_push old e)
few_grown old new e (inr same) few = omega (arith, ap length same)

pub short_grown : (old new : List (ArrayVec ℕ × List ℕ)) (e : ArrayVec ℕ × List ℕ) → Grown old new e → All (λ (n : Named). length n.0 ≤ 16) (map named old) → length e.0.items ≤ 16 → All (λ (n : Named). length n.0 ≤ 16) (map named new)
short_grown old new e (inl more) short here =
    subst (λ l. All (λ (n : Named). length n.0 ≤ 16) l) (sym (ap (map named) more ∙ named_push old e)) (All-push (λ (n : Named). length n.0 ≤ 16) (map named old) (named e) short here)
short_grown old new e (inr same) short here = subst (λ l. All (λ (n : Named). length n.0 ≤ 16) (map named l)) (sym same) short

-- the entry at a place
pub entry_at : (es : List (ArrayVec ℕ × List ℕ)) (i : ℕ) (k : ArrayVec ℕ) (v : List ℕ) → Some (k, v) ≡ slice_get es i → (i < length (map named es)) × ((get_or (map named es) i ([], [])).1 ≡ v)
entry_at [] i k v h = absurd cc
entry_at (e ∷ es) zero k v h = (omega arith, cc)
entry_at (e ∷ es) (suc i) k v h = let ih = entry_at es i k v h in (omega (arith, ih.0), ih.1)
