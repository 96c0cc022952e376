-- Lines whose leaves are told in another way than by their columns: they close a checker exactly where lines of columns do.
use Rattle.std.proofs.Common.{◌≡◌, ℕ, true, List, [], ◌∷◌, map, Option, Some, None, refl, sym, ap, ap₂, ◌∙◌, subst, inl, inr}
use Rattle.std.specs.Prelude.{nat_eq}
use Rattle.std.proofs.lemmas.Bool.{true≢false}
use Rattle.df_lists.proofs.SetLaws.{numbers_equal}
use Rattle.df_walk.specs.declared.Entry.TheVariants.{Branch, Over, Under, Settled, Residue, Cut}
use Rattle.df_walk.specs.Systems.{System}
use Rattle.df_walk.specs.Assignments.{Decisions}
use Rattle.df_walk.specs.Solutions.{yes_columns}
use Rattle.df_walk.specs.Logs.{Proves}
use Rattle.df_check.specs.Leaves.{difference_fault}
use Rattle.df_check.specs.Checkers.{Wants, Logs, Leaf, Failed, begun, undecided, fault_at, after_entry, then_wants, columns_differ, is_closed}
use Rattle.df_check.specs.Lines.{Line, entries_of, leaves_of, AreInOrder, after_lines_by, after_lines}
use Rattle.df_check.proofs.LeafLists.{same_lists, no_difference}
use Rattle.df_check.specs.Laws.{LinesCloseProofs}

-- a line with its leaf told so
abbrev pub told_by : {X : Type 0} → (List ℕ → X) → Line (List ℕ) → Line X
told_by tell (inl e) = inl e
told_by tell (inr columns) = inr (tell columns)

pub entries_told : {X : Type 0} (tell : List ℕ → X) (lines : List (Line (List ℕ))) → entries_of (map (told_by tell) lines) ≡ entries_of lines
entries_told tell [] = refl
entries_told tell (inl e ∷ lines) = ap (λ es. e ∷ es) (entries_told tell lines)
entries_told tell (inr columns ∷ lines) = entries_told tell lines

pub leaves_told : {X : Type 0} (tell : List ℕ → X) (lines : List (Line (List ℕ))) → leaves_of (map (told_by tell) lines) ≡ map tell (leaves_of lines)
leaves_told tell [] = refl
leaves_told tell (inl e ∷ lines) = leaves_told tell lines
leaves_told tell (inr columns ∷ lines) = ap (λ xs. tell columns ∷ xs) (leaves_told tell lines)

order_told : {X : Type 0} (tell : List ℕ → X) (lines : List (Line (List ℕ))) → AreInOrder lines → AreInOrder (map (told_by tell) lines)
order_told tell [] h = tt
order_told tell (inl (Branch column) ∷ lines) h = order_told tell lines h
order_told tell (inl (Over row) ∷ lines) h = order_told tell lines h
order_told tell (inl (Under row) ∷ lines) h = order_told tell lines h
order_told tell (inl Settled ∷ []) h = h
order_told tell (inl Settled ∷ inl e ∷ lines) h = h
order_told tell (inl Settled ∷ inr columns ∷ lines) h = order_told tell lines h
order_told tell (inl (Residue row m) ∷ lines) h = order_told tell lines h
order_told tell (inl (Cut ws) ∷ lines) h = order_told tell lines h
order_told tell (inr columns ∷ lines) h = h

order_untold : {X : Type 0} (tell : List ℕ → X) (lines : List (Line (List ℕ))) → AreInOrder (map (told_by tell) lines) → AreInOrder lines
order_untold tell [] h = tt
order_untold tell (inl (Branch column) ∷ lines) h = order_untold tell lines h
order_untold tell (inl (Over row) ∷ lines) h = order_untold tell lines h
order_untold tell (inl (Under row) ∷ lines) h = order_untold tell lines h
order_untold tell (inl Settled ∷ []) h = h
order_untold tell (inl Settled ∷ inl e ∷ lines) h = h
order_untold tell (inl Settled ∷ inr columns ∷ lines) h = order_untold tell lines h
order_untold tell (inl (Residue row m) ∷ lines) h = order_untold tell lines h
order_untold tell (inl (Cut ws) ∷ lines) h = order_untold tell lines h
order_untold tell (inr columns ∷ lines) h = h

-- lines whose leaves are those of a list
abbrev with_leaves : {X : Type 0} → List (Line X) → List (List ℕ) → List (Line (List ℕ))
with_leaves [] L = []
with_leaves (inl e ∷ lines) L = inl e ∷ with_leaves lines L
with_leaves (inr leaf ∷ lines) [] = inr [] ∷ with_leaves lines []
with_leaves (inr leaf ∷ lines) (columns ∷ L) = inr columns ∷ with_leaves lines L

given_leaves : {X : Type 0} (tell : List ℕ → X) (lines : List (Line X)) (L : List (List ℕ)) → leaves_of lines ≡ map tell L → (map (told_by tell) (with_leaves lines L) ≡ lines) × (leaves_of (with_leaves lines L) ≡ L)
given_leaves tell [] [] h = (refl, refl)
given_leaves tell [] (columns ∷ L) h = absurd (let e = h in cc)
given_leaves tell (inl e ∷ lines) L h = let more = given_leaves tell lines L h in (ap (λ l. inl e ∷ l) more.0, more.1)
given_leaves tell (inr leaf ∷ lines) [] h = absurd (let e = h in cc)
given_leaves tell (inr leaf ∷ lines) (columns ∷ L) h =
    let first : leaf ≡ tell columns = cc in
    let rest : leaves_of lines ≡ map tell L = cc in
    let more = given_leaves tell lines L rest in
    (ap₂ (λ x l. inr x ∷ l) (sym first) more.0, ap (λ l. columns ∷ l) more.1)

module _ {X : Type 0} (s : System) (tell : List ℕ → X) (differs : X → Decisions → Option ℕ) (fits : (ds : Decisions) → differs (tell (yes_columns ds)) ds ≡ None) (is_leaf : (leaf : X) (ds : Decisions) → differs leaf ds ≡ None → leaf ≡ tell (yes_columns ds)) where
  failed : (lines : List (Line X)) → is_closed (after_lines_by s differs Failed lines) ≡ true → ⊥
  failed [] h = true≢false (sym h)
  failed (inl e ∷ lines) h = failed lines h
  failed (inr leaf ∷ lines) h = failed lines h

  no_difference_in : (more : List Decisions) (o : Option ℕ) (lines : List (Line X)) → is_closed (after_lines_by s differs (then_wants (difference_fault o) (Logs more)) lines) ≡ true → (o ≡ None) × (is_closed (after_lines_by s differs (Logs more) lines) ≡ true)
  no_difference_in more None lines h = (refl, h)
  no_difference_in more (Some place) lines h = absurd (failed lines h)

  step_past : (more : List Decisions) (o : Option ℕ) (lines : List (Line X)) → o ≡ None → is_closed (after_lines_by s differs (Logs more) lines) ≡ true → is_closed (after_lines_by s differs (then_wants (difference_fault o) (Logs more)) lines) ≡ true
  step_past more o lines none h = rw none h

  columns_past : (more : List Decisions) (o : Option ℕ) (cs : List (Line (List ℕ))) → o ≡ None → is_closed (after_lines s (Logs more) cs) ≡ true → is_closed (after_lines s (then_wants (difference_fault o) (Logs more)) cs) ≡ true
  columns_past more o cs none h = rw none h

  -- lines that close come from lines of columns that close
  untold : (wants : Wants) (lines : List (Line X)) → is_closed (after_lines_by s differs wants lines) ≡ true → (cs : List (Line (List ℕ))) × (lines ≡ map (told_by tell) cs) × (is_closed (after_lines s wants cs) ≡ true)
  untold wants [] h = ([], refl, h)
  untold wants (inl e ∷ lines) h =
      let more = untold (then_wants (fault_at s wants e) (after_entry wants e)) lines h in
      (inl e ∷ more.0, ap (λ l. inl e ∷ l) more.1, more.2)
  untold (Logs []) (inr leaf ∷ lines) h = absurd (failed lines h)
  untold (Logs (ds ∷ more)) (inr leaf ∷ lines) h = absurd (failed lines h)
  untold Failed (inr leaf ∷ lines) h = absurd (failed lines h)
  untold (Leaf ds more) (inr leaf ∷ lines) h =
      let at = no_difference_in more (differs leaf ds) lines h in
      let later = untold (Logs more) lines at.1 in
      let none : columns_differ (yes_columns ds) ds ≡ None = no_difference nat_eq numbers_equal (yes_columns ds) in
      (inr (yes_columns ds) ∷ later.0, ap₂ (λ x l. inr x ∷ l) (is_leaf leaf ds at.0) later.1, columns_past more (columns_differ (yes_columns ds) ds) later.0 none later.2)

  columns_failed : (cs : List (Line (List ℕ))) → is_closed (after_lines s Failed cs) ≡ true → ⊥
  columns_failed [] h = true≢false (sym h)
  columns_failed (inl e ∷ cs) h = columns_failed cs h
  columns_failed (inr columns ∷ cs) h = columns_failed cs h

  no_column_difference : (more : List Decisions) (o : Option ℕ) (cs : List (Line (List ℕ))) → is_closed (after_lines s (then_wants (difference_fault o) (Logs more)) cs) ≡ true → (o ≡ None) × (is_closed (after_lines s (Logs more) cs) ≡ true)
  no_column_difference more None cs h = (refl, h)
  no_column_difference more (Some place) cs h = absurd (columns_failed cs h)

  -- and such lines close
  told : (wants : Wants) (cs : List (Line (List ℕ))) → is_closed (after_lines s wants cs) ≡ true → is_closed (after_lines_by s differs wants (map (told_by tell) cs)) ≡ true
  told wants [] h = h
  told wants (inl e ∷ cs) h = told (then_wants (fault_at s wants e) (after_entry wants e)) cs h
  told (Logs []) (inr columns ∷ cs) h = absurd (columns_failed cs h)
  told (Logs (ds ∷ more)) (inr columns ∷ cs) h = absurd (columns_failed cs h)
  told Failed (inr columns ∷ cs) h = absurd (columns_failed cs h)
  told (Leaf ds more) (inr columns ∷ cs) h =
      let at = no_column_difference more (columns_differ columns ds) cs h in
      let same : columns ≡ yes_columns ds = same_lists nat_eq numbers_equal columns (yes_columns ds) at.0 in
      let none : differs (tell columns) ds ≡ None = ap (λ c. differs (tell c) ds) same ∙ fits ds in
      step_past more (differs (tell columns) ds) (map (told_by tell) cs) none (told (Logs more) cs at.1)

  -- what lines of this kind prove
  pub proved : (lines : List (Line X)) → is_closed (after_lines_by s differs (begun s).wants lines) ≡ true → (cs : List (Line (List ℕ))) × (lines ≡ map (told_by tell) cs) × (is_closed (after_lines s (begun s).wants cs) ≡ true)
  proved lines h = untold (begun s).wants lines h

  pub in_order : LinesCloseProofs → (cs : List (Line (List ℕ))) → is_closed (after_lines s (begun s).wants cs) ≡ true → AreInOrder (map (told_by tell) cs) × Proves s (undecided s) (entries_of (map (told_by tell) cs)) (leaves_of cs)
  in_order closed cs h =
      let at = (closed s cs).0 h in
      (order_told tell cs at.0, subst (λ E. Proves s (undecided s) E (leaves_of cs)) (sym (entries_told tell cs)) at.1)

  pub closes : LinesCloseProofs → (lines : List (Line X)) (L : List (List ℕ)) → AreInOrder lines → Proves s (undecided s) (entries_of lines) L → leaves_of lines ≡ map tell L → is_closed (after_lines_by s differs (begun s).wants lines) ≡ true
  closes closed lines L order proves leaves =
      let cs = with_leaves lines L in
      let given = given_leaves tell lines L leaves in
      let ordered : AreInOrder cs = order_untold tell cs (subst AreInOrder (sym given.0) order) in
      let log : Proves s (undecided s) (entries_of cs) (leaves_of cs) = subst (λ M. Proves s (undecided s) (entries_of cs) M) (sym given.1) (subst (λ E. Proves s (undecided s) E L) (ap entries_of (sym given.0) ∙ entries_told tell cs) proves) in
      subst (λ l. is_closed (after_lines_by s differs (begun s).wants l) ≡ true) given.0 (told (begun s).wants cs ((closed s cs).1 (ordered, log)))
