-- The branches that stand, as the last decision is taken back or another is made.
use Rattle.std.proofs.Common.{◌≡◌, ℕ, suc, zero, ◌+◌, ◌-◌, ◌<◌, ◌≤◌, Bool, true, false, List, [], ◌∷◌, ◌++◌, length, get_or, set, take, length-set, Option, Some, None, slice_get, refl, sym, ap, subst, ◌∙◌, arith}
use Rattle.std.specs.Prelude.{reverse, IsNone}
use Rattle.std.proofs.lemmas.List.{take_more, take_more_set, reverse-append, set-set}
use Rattle.df_walk.specs.Assignments.{Decisions}
use Rattle.df_runs.specs.Waiting.{Standing, waiting, wanted}
use Rattle.df_runs.specs.Statements.{WantedIsKept}
use Rattle.df_system.specs.Trails.{Assigned}
use Rattle.df_check.specs.Stages.{standings, branches, AreFlagged}

flags_less : (flags : List Bool) (k : ℕ) (b : Bool) → 0 < k → k ≤ length flags → get_or flags (k - 1) false ≡ b → reverse (take k flags) ≡ b ∷ reverse (take (k - 1) flags)
flags_less flags k b h l is =
    let e : k ≡ (k - 1) + 1 = omega arith in
    ap (λ m. reverse (take m flags)) e ∙ ap reverse (take_more flags (k - 1) false (omega arith)) ∙ reverse-append (take (k - 1) flags) (get_or flags (k - 1) false ∷ []) ∙ ap (λ x. x ∷ reverse (take (k - 1) flags)) is

flags_more : (flags : List Bool) (k : ℕ) (b : Bool) → k < length flags → reverse (take (k + 1) (set flags k b)) ≡ b ∷ reverse (take k flags)
flags_more flags k b h = ap reverse (take_more_set flags k b h) ∙ reverse-append (take k flags) (b ∷ [])

-- the last decision, taken back
less : (a b : Assigned) (flags : List Bool) (k c : ℕ) (flag : Bool) → 0 < k → k ≤ length flags → get_or flags (k - 1) false ≡ flag → a.trail ≡ c ∷ b.trail → branches a flags k ≡ record { column = c; no_to_come = flag } ∷ branches b flags (k - 1)
less a b flags k c flag some within is trail = rw (trail, flags_less flags k flag some within is)

-- one decision more
more : (a d : Assigned) (flags : List Bool) (k c : ℕ) (flag : Bool) → k < length flags → d.trail ≡ c ∷ a.trail → branches d (set flags k flag) (k + 1) ≡ record { column = c; no_to_come = flag } ∷ branches a flags k
more a d flags k c flag within trail = rw (trail, flags_more flags k flag within)

-- a branch whose no has come is taken back
pub undone : (a b : Assigned) (flags : List Bool) (k c : ℕ) → 0 < k → k ≤ length flags → get_or flags (k - 1) false ≡ false → a.trail ≡ c ∷ b.trail → b.decisions ≡ set a.decisions c None → waiting a.decisions (branches a flags k) ≡ waiting b.decisions (branches b flags (k - 1))
undone a b flags k c some within is trail decisions = rw (less a b flags k c false some within is trail, decisions)

-- the no of a branch comes
pub turned : (a b d : Assigned) (flags : List Bool) (k c : ℕ) → 0 < k → k ≤ length flags → get_or flags (k - 1) false ≡ true → a.trail ≡ c ∷ b.trail → b.decisions ≡ set a.decisions c None → d ≡ record b { decisions = set b.decisions c (Some false); trail = c ∷ b.trail } → wanted d.decisions (branches d (set flags (k - 1) false) (k - 1 + 1)) ≡ waiting a.decisions (branches a flags k)
turned a b d flags k c some within is trail decisions left =
    let e : branches d (set flags (k - 1) false) (k - 1 + 1) ≡ record { column = c; no_to_come = false } ∷ branches b flags (k - 1) = more b d flags (k - 1) c false (omega arith) (ap (λ v. v.trail) left) in
    rw (less a b flags k c true some within is trail, e, left, decisions, set-set a.decisions c None (Some false), set-set a.decisions c (Some false) None)

-- a branch is taken up
pub taken : WantedIsKept → (a d : Assigned) (flags : List Bool) (k c : ℕ) → k < length flags → slice_get a.decisions c ≡ Some None → d ≡ record a { decisions = set a.decisions c (Some true); trail = c ∷ a.trail } → wanted d.decisions (branches d (set flags k true) (k + 1)) ≡ set a.decisions c (Some true) ∷ set a.decisions c (Some false) ∷ waiting a.decisions (branches a flags k)
taken moves a d flags k c within free is =
    let e : branches d (set flags k true) (k + 1) ≡ record { column = c; no_to_come = true } ∷ branches a flags k = more a d flags k c true within (ap (λ v. v.trail) is) in
    rw (e, is) ((moves a.decisions c (branches a flags k)).take free)

-- without flags nothing waits
no_flags : (columns : List ℕ) → standings columns [] ≡ []
no_flags [] = refl
no_flags (c ∷ columns) = refl

pub none_waits : (a : Assigned) (flags : List Bool) (k : ℕ) → k ≤ 0 → waiting a.decisions (branches a flags k) ≡ []
none_waits a flags k end = let z : k ≡ 0 = omega arith in rw (z, no_flags a.trail)

-- the flags belong to the decisions after each move
pub flagged_less : (a b : Assigned) (flags : List Bool) (k c : ℕ) → 0 < k → AreFlagged a flags k → a.trail ≡ c ∷ b.trail → b.decisions ≡ set a.decisions c None → b.system ≡ a.system → AreFlagged b flags (k - 1)
flagged_less a b flags k c some f trail decisions system = record {
  long = f.long ∙ ap (λ s. length s.columns) (sym system);
  counted = let l : length a.trail ≡ suc (length b.trail) = ap length trail in omega (arith, f.counted);
  within = omega (arith, f.within);
  width = ap length decisions ∙ length-set a.decisions c None ∙ f.width ∙ ap (λ s. length s.columns) (sym system);
}

pub flagged_more : (a d : Assigned) (flags : List Bool) (k c : ℕ) (flag b : Bool) → k < length flags → AreFlagged a flags k → d ≡ record a { decisions = set a.decisions c (Some b); trail = c ∷ a.trail } → AreFlagged d (set flags k flag) (k + 1)
flagged_more a d flags k c flag b room f is = record {
  long = length-set flags k flag ∙ f.long ∙ ap (λ v. length v.system.columns) (sym is);
  counted = let l : length d.trail ≡ suc (length a.trail) = ap (λ v. length v.trail) is in omega (arith, f.counted);
  within = omega (arith, length-set flags k flag);
  width = ap (λ v. length v.decisions) is ∙ length-set a.decisions c (Some b) ∙ f.width ∙ ap (λ v. length v.system.columns) (sym is);
}

-- a decided place is there
pub inside : (ds : Decisions) (c : ℕ) (d : Option Bool) → slice_get ds c ≡ Some d → c < length ds
inside [] c d h = absurd (let e = h in cc)
inside (e ∷ ds) zero d h = omega arith
inside (e ∷ ds) (suc c) d h = let more = inside ds c d h in omega arith

pub same_decision : (ds : Decisions) (c : ℕ) (a b : Option Bool) → slice_get ds c ≡ Some a → slice_get ds c ≡ Some b → a ≡ b
same_decision ds c a b h k = let e : Some a ≡ Some b = sym h ∙ k in cc

-- where a column is undecided there is room for a decision
pub room : (ds : Decisions) (column : ℕ) (d : Option Bool) → slice_get ds column ≡ Some d → slice_get ds column ≡ Some None → (trail columns : ℕ) → (IsNone d → trail < columns) → (count flags : ℕ) → trail ≡ count → flags ≡ columns → count < flags
room ds column d h free trail columns less count flags counted long =
    let none : None ≡ d = same_decision ds column None d free h in
    let at = subst (λ o. IsNone o → trail < columns) (sym none) less refl in
    omega arith
