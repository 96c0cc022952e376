-- What the items of a log do to what is held, and what its end does.
use Rattle.std.proofs.Common.{◌≡◌, ℕ, ◌+◌, ◌≤◌, Bool, true, false, List, [], ◌∷◌, ◌++◌, length, Option, Some, None, inl, inr, refl, sym, ap, ◌∙◌, arith}
use Rattle.std.proofs.lemmas.Bool.{true≢false}
use Rattle.df_walk.specs.Paths.{WrittenPath}
use Rattle.df_lang.specs.Problems.{Stated}
use Rattle.df_kramer_mesner.specs.OrbitSystems.{orbit_system}
use Rattle.df_dossier.specs.Tokens.{◌>>?◌}
use Rattle.df_check.specs.declared.LogFault.{LogFault}
use Rattle.df_check.specs.declared.LogFault.TheVariants.{OpenAtEnd}
use Rattle.df_check.specs.Entries.{unless}
use Rattle.df_check.specs.Checkers.{Wants, Failed, fault_at, after_entry, after_leaf, then_wants, counted, last_count, is_closed}
use Rattle.df_check.specs.Lines.{Line, leaves_of}
use Rattle.df_check.specs.DesignLines.{design_fault, after_design_lines}
use Rattle.df_check.specs.Judging.{Running}
use Rattle.df_check.proofs.VerdictLines.{passed, given, ended}

abbrev pub Items : Type 0
Items = List (Line (List (List ℕ)))

-- how many designs were given, with those of items
abbrev pub count_on : ℕ → Items → ℕ
count_on n [] = n
count_on n (inl e ∷ items) = count_on n items
count_on n (inr blocks ∷ items) = count_on (counted None n) items

pub count_joined : (items more : Items) (n : ℕ) → count_on n (items ++ more) ≡ count_on (count_on n items) more
count_joined [] more n = refl
count_joined (inl e ∷ items) more n = count_joined items more n
count_joined (inr blocks ∷ items) more n = count_joined items more (counted None n)

-- the count doesn't stay at its last value
pub leaves_counted : (items : Items) (n : ℕ) → n + length items ≤ last_count → count_on n items ≡ n + length (leaves_of items)
leaves_counted [] n few = omega arith
leaves_counted (inl e ∷ items) n few = leaves_counted items n (omega (arith, few))
leaves_counted (inr blocks ∷ items) n few =
    let more : counted None n ≡ n + 1 = omega (arith, few) in
    let later = leaves_counted items (n + 1) (omega (arith, few)) in
    ap (λ m. count_on m items) more ∙ later ∙ omega arith

pub wants_joined : (p : Stated) (items more : Items) (w : Wants) → after_design_lines p w (items ++ more) ≡ after_design_lines p (after_design_lines p w items) more
wants_joined p [] more w = refl
wants_joined p (inl e ∷ items) more w = wants_joined p items more (then_wants (fault_at (orbit_system p) w e) (after_entry w e))
wants_joined p (inr blocks ∷ items) more w = wants_joined p items more (then_wants (design_fault p w blocks) (after_leaf w))

never_closed : (p : Stated) (items : Items) → is_closed (after_design_lines p Failed items) ≡ true → ⊥
never_closed p [] h = true≢false (sym h)
never_closed p (inl e ∷ items) h = never_closed p items h
never_closed p (inr blocks ∷ items) h = never_closed p items h

-- what is held after items that break no rule
abbrev pub moved : Running → Items → Running
moved r items = record r { wants = after_design_lines r.problem r.wants items; designs = count_on r.designs items }

abbrev moved_by : Running → Option LogFault → Wants → ℕ → Items → Running
moved_by r f w n items = record r { wants = after_design_lines r.problem (then_wants f w) items; designs = count_on n items }

pub given_moves : (items : Items) (r after : Running) → given r items ≡ Some after → after ≡ moved r items
given_moves [] r after h = cc
given_moves (inl e ∷ items) r after h = by_fault (fault_at (orbit_system r.problem) r.wants e) refl h (given_moves items (record r { wants = after_entry r.wants e }) after) where
  by_fault : (f : Option LogFault) → fault_at (orbit_system r.problem) r.wants e ≡ f → (passed f (record r { wants = after_entry r.wants e }) >>? λ now. given now items) ≡ Some after
      → (given (record r { wants = after_entry r.wants e }) items ≡ Some after → after ≡ moved (record r { wants = after_entry r.wants e }) items) → after ≡ moved r (inl e ∷ items)
  by_fault None is g later = later g ∙ sym (ap (λ f. moved_by r f (after_entry r.wants e) r.designs items) is)
  by_fault (Some f) is g later = absurd (cc)
given_moves (inr blocks ∷ items) r after h = by_fault (design_fault r.problem r.wants blocks) refl h (given_moves items (record r { wants = after_leaf r.wants; designs = counted None r.designs }) after) where
  by_fault : (f : Option LogFault) → design_fault r.problem r.wants blocks ≡ f → (passed f (record r { wants = after_leaf r.wants; designs = counted None r.designs }) >>? λ now. given now items) ≡ Some after
      → (given (record r { wants = after_leaf r.wants; designs = counted None r.designs }) items ≡ Some after → after ≡ moved (record r { wants = after_leaf r.wants; designs = counted None r.designs }) items) → after ≡ moved r (inr blocks ∷ items)
  by_fault None is g later = later g ∙ sym (ap (λ f. moved_by r f (after_leaf r.wants) (counted None r.designs) items) is)
  by_fault (Some f) is g later = absurd (cc)

-- items that others close break no rule
pub closed_given : (items more : Items) (r : Running) → is_closed (after_design_lines r.problem r.wants (items ++ more)) ≡ true → given r items ≡ Some (moved r items)
closed_given [] more r h = refl
closed_given (inl e ∷ items) more r h = by_fault (fault_at (orbit_system r.problem) r.wants e) refl h (closed_given items more (record r { wants = after_entry r.wants e })) where
  by_fault : (f : Option LogFault) → fault_at (orbit_system r.problem) r.wants e ≡ f → is_closed (after_design_lines r.problem (then_wants f (after_entry r.wants e)) (items ++ more)) ≡ true
      → (is_closed (after_design_lines r.problem (after_entry r.wants e) (items ++ more)) ≡ true → given (record r { wants = after_entry r.wants e }) items ≡ Some (moved (record r { wants = after_entry r.wants e }) items))
      → (passed (fault_at (orbit_system r.problem) r.wants e) (record r { wants = after_entry r.wants e }) >>? λ now. given now items) ≡ Some (moved r (inl e ∷ items))
  by_fault None is g later =
      ap (λ f. passed f (record r { wants = after_entry r.wants e }) >>? λ now. given now items) is
      ∙ later g ∙ sym (ap (λ f. Some (moved_by r f (after_entry r.wants e) r.designs items)) is)
  by_fault (Some f) is g later = absurd (never_closed r.problem (items ++ more) g)
closed_given (inr blocks ∷ items) more r h = by_fault (design_fault r.problem r.wants blocks) refl h (closed_given items more (record r { wants = after_leaf r.wants; designs = counted None r.designs })) where
  by_fault : (f : Option LogFault) → design_fault r.problem r.wants blocks ≡ f → is_closed (after_design_lines r.problem (then_wants f (after_leaf r.wants)) (items ++ more)) ≡ true
      → (is_closed (after_design_lines r.problem (after_leaf r.wants) (items ++ more)) ≡ true
      → given (record r { wants = after_leaf r.wants; designs = counted None r.designs }) items ≡ Some (moved (record r { wants = after_leaf r.wants; designs = counted None r.designs }) items))
      → (passed (design_fault r.problem r.wants blocks) (record r { wants = after_leaf r.wants; designs = counted None r.designs }) >>? λ now. given now items) ≡ Some (moved r (inr blocks ∷ items))
  by_fault None is g later =
      ap (λ f. passed f (record r { wants = after_leaf r.wants; designs = counted None r.designs }) >>? λ now. given now items) is
      ∙ later g ∙ sym (ap (λ f. Some (moved_by r f (after_leaf r.wants) (counted None r.designs) items)) is)
  by_fault (Some f) is g later = absurd (never_closed r.problem (items ++ more) g)

-- what is held after the end line of this number
abbrev pub last_by : ℕ → ℕ → Option WrittenPath → ℕ
last_by last number None = last
last_by last number (Some p) = number

abbrev pub stopped_at : Running → ℕ → Option WrittenPath → Running
stopped_at r number next = record r { place = next; last = last_by r.last number next }

-- a log that is finished is closed
abbrev pub ClosedWhereFinished : Option WrittenPath → Wants → Type 0
ClosedWhereFinished None w = is_closed w ≡ true
ClosedWhereFinished (Some p) w = Unit {0}

pub ended_stops : (r : Running) (number : ℕ) (next : Option WrittenPath) (after : Running) → ended r number next ≡ Some after → ClosedWhereFinished next r.wants × (after ≡ stopped_at r number next)
ended_stops r number None after h = by_closed (is_closed r.wants) h where
  by_closed : (b : Bool) → passed (unless b OpenAtEnd) (record r { place = None }) ≡ Some after → (b ≡ true) × (after ≡ stopped_at r number None)
  by_closed true g = (refl, cc)
  by_closed false g = absurd (cc)
ended_stops r number (Some p) after h = (tt, cc)

pub stops_ended : (r : Running) (number : ℕ) (next : Option WrittenPath) → ClosedWhereFinished next r.wants → ended r number next ≡ Some (stopped_at r number next)
stops_ended r number None closed = ap (λ b. passed (unless b OpenAtEnd) (record r { place = None })) closed
stops_ended r number (Some p) closed = refl
