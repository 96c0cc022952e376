-- Blocks and names that a line may have keep the rules.
use Rattle.std.proofs.Common.{◌≡◌, ◌≢◌, ℕ, ◌+◌, ◌-◌, ◌<◌, ◌≤◌, ◌&&◌, ◌||◌, not, Bool, true, false, ltb, nat_le, nat_lt, List, [], ◌∷◌, length, take, drop, get_or, Option, Some, None, Ok, is_some, option_map, ok_or, bytes_eq, codes, refl, sym, ap, ◌∙◌, arith, tests, subst, true≢false, if◌then◌else◌}
use Rattle.std.specs.Option.{option_or}
use Rattle.std.specs.Cmp.{nat_eq_equiv}
use Rattle.std.specs.List.{slice_split, position_or_len}
use Rattle.std.proofs.lemmas.List.Sums.{fails_before_first}
use Rattle.df_lists.specs.NumberSets.{has_member, with_member, Rises}
use Rattle.df_group.specs.Elements.{order_of, number, IsElement}
use Rattle.df_group.specs.Subgroups.{generated}
use Rattle.df_group.proofs.ElementLaws.{number_within}
use Rattle.df_lists.proofs.RisingLists.{Rises-more}
use Rattle.df_lang.specs.declared.fault.SourceFault.TheVariants.{BadWord, BadElement, UnknownName, NameTaken, PointTwice, BlockSize, TargetRange}
use Rattle.df_lang.specs.declared.pieces.Which.{Which}
use Rattle.df_lang.specs.declared.pieces.Which.TheVariants as which
use Rattle.df_lang.specs.declared.pieces.Inside.{Inside}
use Rattle.df_lang.specs.Names.{is_name, is_reserved}
use Rattle.df_lang.specs.Problems.{Named, IsNamed, IsSubgroupName, IsInside, IsBlock}
use Rattle.df_lang.specs.Rules.{◌>>=◌, ◌>>?◌, must, allowed, next, end, value_of}
use Rattle.df_lang.specs.Values.{is_comma, residues_of, element_of, fixed_point, point_of, points_from, place_of, is_taken, name_of, elements_from, subgroup_of, which_of, shift_of, target_of, inside_of}
use Rattle.df_lang.proofs.RulesKept.{bind_kept, must_kept, allowed_kept, there, next_kept, end_kept, number_kept}

found : {A B : Type 0} (o : Option A) (f : A → Option B) (y : B) → (o >>? f) ≡ Some y → (x : A) × (o ≡ Some x) × (f x ≡ Some y)
found None f y h = absurd cc
found (Some x) f y h = (x, refl, h)

mapped : {A B : Type 0} (o : Option A) (f : A → B) (y : B) → option_map f o ≡ Some y → (x : A) × (o ≡ Some x) × (f x ≡ y)
mapped None f y h = absurd cc
mapped (Some x) f y h = (x, refl, cc)

-- elements
below_factor : (f : ℕ) (fs : List ℕ) (r : ℕ) (o : Option (List ℕ)) (rs : List ℕ) (b : Bool) → ltb r f ≡ b → ((ss : List ℕ) → o ≡ Some ss → IsElement fs ss)
    → (if b then option_map (λ ss. r ∷ ss) o else None) ≡ Some rs → IsElement (f ∷ fs) rs
below_factor f fs r o rs true low ih h =
    let m = mapped o (λ ss. r ∷ ss) rs h in
    subst (IsElement (f ∷ fs)) m.2 (grind (arith, tests), ih m.0 m.1)
below_factor f fs r o rs false low ih h = absurd cc

residues_kept : (fs : List ℕ) (pieces : List (List ℕ)) (rs : List ℕ) → residues_of fs pieces ≡ Some rs → IsElement fs rs
unfolding residues_of
residues_kept [] [] rs h = cc
residues_kept [] (piece ∷ pieces) rs h = absurd cc
residues_kept (f ∷ fs) [] rs h = absurd cc
residues_kept (f ∷ fs) (piece ∷ pieces) rs h =
    let r = found (value_of piece) (λ r. if nat_lt r f then option_map (λ ss. r ∷ ss) (residues_of fs pieces) else None) rs h in
    below_factor f fs r.0 (residues_of fs pieces) rs (nat_lt r.0 f) refl (residues_kept fs pieces) r.2

pub element_kept : (fs token : List ℕ) (e : ℕ) → element_of fs token ≡ Some e → e < order_of fs
unfolding element_of
element_kept fs token e h =
    let rs = mapped (residues_of fs (slice_split is_comma token)) (number fs) e h in
    subst (λ n. n < order_of fs) rs.2 (number_within fs rs.0 (residues_kept fs (slice_split is_comma token) rs.0 rs.1))

fixed_in : (fs : List ℕ) (fixed n p : ℕ) (b : Bool) → (nat_le 1 n && nat_le n fixed) ≡ b → (if b then Some (order_of fs + (n - 1)) else None) ≡ Some p → p < order_of fs + fixed
fixed_in fs fixed n p true range h =
    let high : n ≤ fixed = grind (arith, tests) in
    let low : 1 ≤ n = grind (arith, tests) in
    let is : order_of fs + (n - 1) ≡ p = cc in
    omega arith
fixed_in fs fixed n p false range h = absurd cc

fixed_kept : (fs : List ℕ) (fixed : ℕ) (token : List ℕ) (p : ℕ) → fixed_point fs fixed token ≡ Some p → p < order_of fs + fixed
unfolding fixed_point
fixed_kept fs fixed token p h = by (bytes_eq (take 3 token) (codes "inf")) h where
  by : (b : Bool) → (if b then (value_of (drop 3 token) >>? λ n. if nat_le 1 n && nat_le n fixed then Some (order_of fs + (n - 1)) else None) else None) ≡ Some p → p < order_of fs + fixed
  by true h =
      let n = found (value_of (drop 3 token)) (λ n. if nat_le 1 n && nat_le n fixed then Some (order_of fs + (n - 1)) else None) p h in
      fixed_in fs fixed n.0 p (nat_le 1 n.0 && nat_le n.0 fixed) refl n.2
  by false h = absurd cc

pub point_kept : (fs : List ℕ) (fixed : ℕ) (token : List ℕ) (p : ℕ) → point_of fs fixed token ≡ Some p → p < order_of fs + fixed
point_kept fs fixed token p h = by (element_of fs token) refl h where
  by : (o : Option ℕ) → element_of fs token ≡ o → option_or o (fixed_point fs fixed token) ≡ Some p → p < order_of fs + fixed
  by None is h = fixed_kept fs fixed token p h
  by (Some e) is h = let low = element_kept fs token e is in let same : e ≡ p = cc in omega arith

-- blocks
pub points_kept : (fs : List ℕ) (fixed : ℕ) (sizes points : List ℕ) (tokens : List (List ℕ)) (block : List ℕ) → Rises 0 (order_of fs + fixed) points → points_from fs fixed sizes points tokens ≡ Ok block
    → IsBlock (order_of fs + fixed) sizes block
unfolding points_from
points_kept fs fixed sizes points [] block rise h =
    let is = must_kept (has_member sizes (length points)) BlockSize points block h in
    subst (IsBlock (order_of fs + fixed) sizes) is.1 record { set = rise; size = is.0 }
points_kept fs fixed sizes points (token ∷ tokens) block rise h =
    let p = bind_kept (ok_or (point_of fs fixed token) BadElement) (λ p. must (not (has_member points p)) PointTwice (with_member p points) >>= λ more. points_from fs fixed sizes more tokens) block h in
    let low = point_kept fs fixed token p.0 (there (point_of fs fixed token) BadElement p.0 p.1) in
    let more = bind_kept (must (not (has_member points p.0)) PointTwice (with_member p.0 points)) (λ more. points_from fs fixed sizes more tokens) block p.2 in
    let is = must_kept (not (has_member points p.0)) PointTwice (with_member p.0 points) more.0 more.1 in
    points_kept fs fixed sizes (with_member p.0 points) tokens block (Rises-more 0 (order_of fs + fixed) p.0 points (omega arith) low rise)
    (ap (λ l. points_from fs fixed sizes l tokens) is.1 ∙ more.2)

-- names
same_bytes : (text : List ℕ) → bytes_eq text text ≡ true
same_bytes [] = refl
same_bytes (b ∷ bs) = ap (λ v. v && bytes_eq bs bs) (nat_eq_equiv.refl b) ∙ same_bytes bs

placed : (names : List Named) (token : List ℕ) (i : ℕ) → place_of names token ≡ Some i → i < length names
placed names token i h =
    let low : position_or_len (λ (n : Named). bytes_eq token n.0) names < length names = grind (arith, tests) in
    let is : position_or_len (λ (n : Named). bytes_eq token n.0) names ≡ i = grind (arith, tests) in
    omega (arith, low, is)

pub not_placed : (names : List Named) (token : List ℕ) → place_of names token ≡ None → (k : ℕ) (d : Named) → k < length names → (get_or names k d).0 ≢ token
not_placed names token h k d l same =
    let past : length names ≤ position_or_len (λ (n : Named). bytes_eq token n.0) names = grind (arith, tests) in
    let fails = fails_before_first (λ (n : Named). bytes_eq token n.0) names k d (omega arith) in
    true≢false (sym (same_bytes token) ∙ ap (λ t. bytes_eq token t) (sym same) ∙ fails)

not_taken : (b : Bool) (o : Option ℕ) → not (b || is_some o) ≡ true → (b ≡ false) × (o ≡ None)
not_taken true o h = absurd cc
not_taken false (Some i) h = absurd cc
not_taken false None h = (refl, refl)

-- a new name: of the form of names, not reserved, and not among those above
pub name_kept : (names : List Named) (token name : List ℕ) → name_of names token ≡ Ok name → (is_name name ≡ true) × (is_reserved name ≡ false) × (place_of names name ≡ None)
unfolding name_of
name_kept names token name h =
    let form = bind_kept (allowed (is_name token) BadWord) (λ _. must (not (is_taken names token)) NameTaken token) name h in
    let new = must_kept (not (is_taken names token)) NameTaken token name form.2 in
    let free = not_taken (is_reserved token) (place_of names token) new.0 in
    subst (λ t. (is_name t ≡ true) × (is_reserved t ≡ false) × (place_of names t ≡ None)) new.1 (allowed_kept (is_name token) BadWord form.0 form.1, free.0, free.1)

pub subgroup_kept : (fs : List ℕ) (names : List Named) (tokens : List (List ℕ)) (named : Named) → subgroup_of fs names tokens ≡ Ok named → IsNamed fs named × (place_of names named.0 ≡ None)
unfolding subgroup_of
subgroup_kept fs names tokens named h =
    let first = next_kept tokens (λ first rest. name_of names first >>= λ name. elements_from fs [] rest >>= λ elements. Ok (name, generated fs elements)) named h in
    let name = bind_kept (name_of names first.0) (λ name. elements_from fs [] first.1 >>= λ elements. Ok (name, generated fs elements)) named first.2 in
    let es = bind_kept (elements_from fs [] first.1) (λ elements. Ok (name.0, generated fs elements)) named name.2 in
    let new = name_kept names first.0 name.0 name.1 in
    let is : (name.0, generated fs es.0) ≡ named = cc in
    subst (λ (n : Named). IsNamed fs n × (place_of names n.0 ≡ None)) is (record { name = new.0; free = new.1; subgroup = (es.0, refl) }, new.2)

-- a subgroup name
which_of_place : (names : List Named) (o : Option ℕ) (w : Which) → ((i : ℕ) → o ≡ Some i → i < length names) → ok_or (option_map which.Named o) UnknownName ≡ Ok w → IsSubgroupName names w
which_of_place names None w low h = absurd cc
which_of_place names (Some i) w low h = let is : which.Named i ≡ w = cc in subst (IsSubgroupName names) is (low i refl)

pub which_kept : (names : List Named) (token : List ℕ) (w : Which) → which_of names token ≡ Ok w → IsSubgroupName names w
unfolding which_of
which_kept names token w h = by (bytes_eq token (codes "all")) (bytes_eq token (codes "none")) h where
  by : (u v : Bool) → (if u then Ok which.All else (if v then Ok which.Trivial else ok_or (option_map which.Named (place_of names token)) UnknownName)) ≡ Ok w → IsSubgroupName names w
  by true v h = let is : which.All ≡ w = cc in subst (IsSubgroupName names) is tt
  by false true h = let is : which.Trivial ≡ w = cc in subst (IsSubgroupName names) is tt
  by false false h = which_of_place names (place_of names token) w (placed names token) h

pub shift_kept : (names : List Named) (tokens : List (List ℕ)) (w : Which) → shift_of names tokens ≡ Ok w → IsSubgroupName names w
unfolding shift_of
shift_kept names tokens w h =
    let first = next_kept tokens (λ first rest. which_of names first >>= λ w. end rest w) w h in
    let read = bind_kept (which_of names first.0) (λ w. end first.1 w) w first.2 in
    subst (IsSubgroupName names) (end_kept first.1 read.0 w read.2) (which_kept names first.0 read.0 read.1)

pub inside_kept : (names : List Named) (tokens : List (List ℕ)) (i : Inside) → inside_of names tokens ≡ Ok i → IsInside names i
unfolding inside_of
inside_kept names tokens i h =
    let first = next_kept tokens (λ first rest. which_of names first >>= λ w. next rest (λ second rest. target_of second >>= λ n. end rest record { subgroup = w; target = n })) i h in
    let w = bind_kept (which_of names first.0) (λ w. next first.1 (λ second rest. target_of second >>= λ n. end rest record { subgroup = w; target = n })) i first.2 in
    let second = next_kept first.1 (λ second rest. target_of second >>= λ n. end rest record { subgroup = w.0; target = n }) i w.2 in
    let n = bind_kept (target_of second.0) (λ n. end second.1 record { subgroup = w.0; target = n }) i second.2 in
    subst (IsInside names) (end_kept second.1 record { subgroup = w.0; target = n.0 } i n.2) record { subgroup = which_kept names first.0 w.0 w.1; target = (number_kept 0 2000000 TargetRange second.0 n.0 n.1).1 }
