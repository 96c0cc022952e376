-- The table of names, entry by entry.
use Rattle.std.proofs.Common.{◌≡◌, ◌<◌, ◌+◌, ℕ, List, [], ◌∷◌, ◌++◌, length, map, take, get_or, zero, suc, slice_get, Some, None, All, refl, sym, ap, ◌∙◌, arith}
use Rattle.std.specs.List.{AllPairs}
use Rattle.std.proofs.lemmas.List.{get_or-take, length-take-le, take_more}
use Rattle.std.proofs.lemmas.Option.{get_or_from_slice_get, slice_get-map}
use Rattle.std.specs.Option.{option_map}
use Rattle.arrayvec.specs.ArrayVec.{ArrayVec}
use Rattle.indexmap.specs.IndexMap.{insert_entry}
use Rattle.std.specs.Prelude.{bytes_eq}
use Rattle.df_lang.specs.Problems.{Named, DifferInName}
use Rattle.df_lang.specs.Stored.{named}
use Rattle.df_lang.specs.Values.{place_of}
use Rattle.df_lang.proofs.EachMember.{each_from}
use Rattle.df_lang.proofs.NamesBack.{no_place}
use Rattle.df_lang.proofs.NamePlaces.{insert_new, named_push}

-- what stands at a place doesn't depend on the default
unlike : (xs : List Named) (j : ℕ) (a b : Named) → j < length xs → get_or xs j a ≡ get_or xs j b
unlike [] j a b h = absurd (omega arith)
unlike (x ∷ xs) zero a b h = refl
unlike (x ∷ xs) (suc j) a b h = unlike xs j a b (omega arith)

-- no name before a place is that at the place
none_before : (ms : List Named) (i : ℕ) (d : Named) → i < length ms → AllPairs DifferInName ms → place_of (take i ms) (get_or ms i d).0 ≡ None
none_before ms i d within apart = no_place (get_or ms i d).0 (take i ms) (each_from (λ (n : Named). n.0 ≡ (get_or ms i d).0 → ⊥) (take i ms) differ)
  where
    long : length (take i ms) ≡ i
    long = length-take-le i ms (omega arith)

    differ : All (λ (n : Named). n.0 ≡ (get_or ms i d).0 → ⊥) (take i ms)
    differ k e h =
        let below : k < i = omega (arith, long) in
        λ same. apart k i e below within (ap (λ (n : Named). n.0) (sym (get_or-take i ms k e below)) ∙ same ∙ ap (λ (n : Named). n.0) (unlike ms i d e within))

-- the table with one entry more
pub copied_more : (es copy : List (ArrayVec ℕ × List ℕ)) (i : ℕ) (k key : ArrayVec ℕ) (v : List ℕ) → slice_get es i ≡ Some (k, v) → key.items ≡ k.items → AllPairs DifferInName (map named es) → i < length (map named es)
    → map named copy ≡ take i (map named es) → map named (insert_entry (λ (x y : ArrayVec ℕ). bytes_eq x.items y.items) copy key v) ≡ take (i + 1) (map named es)
copied_more es copy i k key v at same apart within first =
    let here : slice_get (map named es) i ≡ Some (k.items, v) = slice_get-map named es i ∙ ap (option_map named) at in
    let d : Named = ([], []) in
    let is : get_or (map named es) i d ≡ (k.items, v) = get_or_from_slice_get (map named es) i (k.items, v) d here in
    let none : place_of (map named copy) key.items ≡ None = ap (λ ms. place_of ms key.items) first ∙ ap (place_of (take i (map named es))) (same ∙ sym (ap (λ (n : Named). n.0) is)) ∙ none_before (map named es) i d within apart in
    ap (map named) (insert_new copy key v none)
    ∙ named_push copy (key, v)
    ∙ ap (λ (ms : List Named). ms ++ (key.items, v) ∷ []) first
    ∙ ap (λ (n : List ℕ). take i (map named es) ++ (n, v) ∷ []) same
    ∙ ap (λ (n : Named). take i (map named es) ++ n ∷ []) (sym is)
    ∙ sym (take_more (map named es) i d within)
