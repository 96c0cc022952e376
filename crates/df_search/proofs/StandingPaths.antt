-- A path that is held, of which the yes columns alone are taken.
use Rattle.std.proofs.Common.{◌≡◌, ℕ, zero, suc, ◌+◌, ◌-◌, ◌<◌, ◌≤◌, Bool, true, false, List, [], ◌∷◌, ◌++◌, length, set, take, Some, None, refl, sym, ap, ◌∙◌, arith, length-append}
use Rattle.std.specs.Prelude.{replicate}
use Rattle.std.proofs.lemmas.List.{append_assoc, append-nil, set_at, length-replicate}
use Rattle.std.proofs.Math.Seq.{take-append_seam}
use Rattle.df_walk.specs.Remains.{after_first, turned}
use Rattle.df_walk.proofs.PaddedPaths.{turned_yes}
use Rattle.df_search.specs.HeldPaths.{IsTrail, StandsAt}

-- as many no's and as many more
pub replicate_add : {X : Type 0} (m n : ℕ) (x : X) → replicate (m + n) x ≡ replicate m x ++ replicate n x
replicate_add zero n x = ap (λ k. replicate k x) (let e : 0 + n ≡ n = omega arith in e)
replicate_add (suc m) n x = ap (λ k. replicate k x) (let e : suc m + n ≡ suc (m + n) = omega arith in e) ∙ ap (λ l. x ∷ l) (replicate_add m n x)

pub length-nos : (p : List Bool) (k : ℕ) → length (p ++ replicate k false) ≡ length p + k
length-nos p k = length-append p (replicate k false) ∙ ap (λ n. length p + n) (length-replicate k false)

length-yes_nos : (p : List Bool) (m : ℕ) → length ((p ++ true ∷ []) ++ replicate m false) ≡ length p + 1 + m
length-yes_nos p m = length-nos (p ++ true ∷ []) m ∙ omega (arith, length-append p (true ∷ []))

-- the yes columns of a path with further no's
pub trail_nos : (t : List ℕ) (q : List Bool) (m : ℕ) → IsTrail t q → IsTrail t (q ++ replicate m false)
trail_nos [] q m h = ap (λ l. l ++ replicate m false) h ∙ sym (replicate_add (length q) m false) ∙ ap (λ n. replicate n false) (sym (length-nos q m))
trail_nos (c ∷ t) q m h =
    (h.0, h.1 + m, ap (λ l. l ++ replicate m false) h.2 ∙ append_assoc (h.0 ++ true ∷ []) (replicate h.1 false) (replicate m false) ∙ ap (λ l. (h.0 ++ true ∷ []) ++ l) (sym (replicate_add h.1 m false)), h.3, h.4)

-- the path grows by a yes
pub StandsAt-push : {n : ℕ} {t : List ℕ} {values q : List Bool} → StandsAt n t values q → length q < n → StandsAt n (length q ∷ t) (set values (length q) true) (q ++ true ∷ [])
StandsAt-push {n} {t} {values} {q} at short =
    let more = length-append q (true ∷ []) in
    let left : n - length q ≡ suc (n - length (q ++ true ∷ [])) = omega arith in
    record {
      within = omega arith;
      values_are = ap (λ v. set v (length q) true) (at.values_are ∙ ap (λ k. q ++ replicate k false) left) ∙ set_at q false (replicate (n - length (q ++ true ∷ [])) false) true (length q) refl ∙ sym (append_assoc q (true ∷ []) (replicate (n - length (q ++ true ∷ [])) false));
      trail = (q, 0, sym (append-nil (q ++ true ∷ [])), refl, at.trail);
    }

-- and by no's
pub StandsAt-nos : {n : ℕ} {t : List ℕ} {values q : List Bool} (m : ℕ) → StandsAt n t values q → length q + m ≤ n → StandsAt n t values (q ++ replicate m false)
StandsAt-nos {n} {t} {values} {q} m at short =
    let long = length-nos q m in
    let left : n - length q ≡ m + (n - length (q ++ replicate m false)) = omega arith in
    record {
      within = omega arith;
      values_are = at.values_are ∙ ap (λ k. q ++ replicate k false) left ∙ ap (λ l. q ++ l) (replicate_add m (n - length (q ++ replicate m false)) false) ∙ sym (append_assoc q (replicate m false) (replicate (n - length (q ++ replicate m false)) false));
      trail = trail_nos t q m at.trail;
    }

-- the path with its last yes taken back, and what was there
pub record Popped (n column : ℕ) (earlier : List ℕ) (values q : List Bool) : Type 0 where
  pub before : List Bool
  pub nos : ℕ
  pub path_is : q ≡ (before ++ true ∷ []) ++ replicate nos false
  pub long : length before ≡ column
  pub at : StandsAt n earlier (set values column false) before

pub StandsAt-pop : {n : ℕ} {values q : List Bool} (column : ℕ) (earlier : List ℕ) → StandsAt n (column ∷ earlier) values q → Popped n column earlier values q
StandsAt-pop {n} {values} {q} column earlier at =
    let t = at.trail in
    let p = t.0 in
    let m = t.1 in
    let long : length q ≡ length p + 1 + m = ap length t.2 ∙ length-yes_nos p m in
    let inner : n - length p ≡ suc (m + (n - length q)) = omega (arith, at.within) in
    let ones : values ≡ p ++ true ∷ replicate (m + (n - length q)) false = at.values_are ∙ ap (λ l. l ++ replicate (n - length q) false) t.2 ∙ append_assoc (p ++ true ∷ []) (replicate m false) (replicate (n - length q) false) ∙ ap (λ l. (p ++ true ∷ []) ++ l) (sym (replicate_add m (n - length q) false)) ∙ append_assoc p (true ∷ []) (replicate (m + (n - length q)) false) in
    record {
      before = p;
      nos = m;
      path_is = t.2;
      long = t.3;
      at = record {
        within = omega (arith, at.within);
        values_are = ap (λ k. set values k false) (sym t.3) ∙ ap (λ v. set v (length p) false) ones ∙ set_at p true (replicate (m + (n - length q)) false) false (length p) refl ∙ ap (λ k. p ++ replicate k false) (sym inner);
        trail = t.4;
      };
    }

turned-nos : (q : List Bool) (m : ℕ) → turned (q ++ replicate m false) ≡ turned q
turned-nos [] zero = refl
turned-nos [] (suc m) = ap (after_first false) (turned-nos [] m)
turned-nos (b ∷ q) m = ap (after_first b) (turned-nos q m)

-- the path with its last yes turned to no
pub record Turned (n column : ℕ) (earlier : List ℕ) (values q : List Bool) : Type 0 where
  pub before : List Bool
  pub long : length before ≡ column
  pub shorter : length before + 1 ≤ length q
  pub turned_is : turned q ≡ Some (before ++ false ∷ [])
  pub at : StandsAt n earlier (set values column false) (before ++ false ∷ [])

pub StandsAt-turn : {n : ℕ} {values q : List Bool} (column : ℕ) (earlier : List ℕ) → StandsAt n (column ∷ earlier) values q → Turned n column earlier values q
StandsAt-turn {n} {values} {q} column earlier at =
    let back = StandsAt-pop column earlier at in
    let long : length q ≡ length back.before + 1 + back.nos = ap length back.path_is ∙ length-yes_nos back.before back.nos in
    record {
      before = back.before;
      long = back.long;
      shorter = omega arith;
      turned_is = ap turned back.path_is ∙ turned-nos (back.before ++ true ∷ []) back.nos ∙ turned_yes back.before;
      at = StandsAt-nos 1 back.at (omega (arith, at.within));
    }

-- without a yes it goes back to the empty path
pub StandsAt-none : {n : ℕ} {values q : List Bool} → StandsAt n [] values q → StandsAt n [] values [] × (turned q ≡ None)
StandsAt-none {n} {values} {q} at =
    let left : n ≡ length q + (n - length q) = omega (arith, at.within) in (
      record {
        within = omega arith;
        values_are = at.values_are ∙ ap (λ l. l ++ replicate (n - length q) false) at.trail ∙ sym (replicate_add (length q) (n - length q) false) ∙ ap (λ k. replicate k false) (let e : length q + (n - length q) ≡ n - 0 = omega arith in e);
        trail = refl;
      },
      ap turned at.trail ∙ turned-nos [] (length q),
    )

-- the empty path
pub StandsAt-empty : (n : ℕ) → StandsAt n [] (replicate n false) []
StandsAt-empty n = record { within = omega arith; values_are = ap (λ k. replicate k false) (let e : n ≡ n - 0 = omega arith in e); trail = refl }

-- the path is in front
pub StandsAt-take : {n : ℕ} {t : List ℕ} {values q : List Bool} → StandsAt n t values q → take (length q) values ≡ q
StandsAt-take {n} {t} {values} {q} at = ap (take (length q)) at.values_are ∙ take-append_seam q (replicate (n - length q) false)

pub front_is : {n : ℕ} {t : List ℕ} {values q : List Bool} (count : ℕ) → StandsAt n t values q → count ≡ length q → take count values ≡ q
front_is {n} {t} {values} {q} count at is = ap (λ k. take k values) is ∙ StandsAt-take at

-- there is a value for each column
pub StandsAt-values : {n : ℕ} {t : List ℕ} {values q : List Bool} → StandsAt n t values q → length values ≡ n
StandsAt-values {n} {t} {values} {q} at =
    let all : length values ≡ length q + length (replicate (n - length q) false) = ap length at.values_are ∙ length-append q (replicate (n - length q) false) in
    omega (arith, length-replicate (n - length q) false, at.within)
