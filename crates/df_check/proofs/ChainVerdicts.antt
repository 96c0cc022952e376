-- An input is complete exactly where its lines are a chain: dossier by dossier.
use Rattle.std.proofs.Common.{◌≡◌, ◌≤◌, ℕ, zero, suc, ◌+◌, ◌&&◌, Bool, true, false, not, cond, nat_eq, List, [], ◌∷◌, ◌++◌, length, Option, Some, None, Ok, refl, sym, ap, ap₂, ◌∙◌, subst, arith}
use Rattle.std.specs.List.{AllByRecursion}
use Rattle.std.proofs.lemmas.List.{length-append, length-map}
use Rattle.std.proofs.lemmas.Option.{option_and_then_some}
use Rattle.df_lists.specs.Orders.{IsEquality}
use Rattle.df_lists.proofs.SetLaws.{numbers_equal}
use Rattle.df_io.specs.declared.bytes.TheConstants.{MOST_BYTES}
use Rattle.df_io.specs.Lines.{lines_of}
use Rattle.df_subsets.specs.Subsets.{same_list}
use Rattle.df_walk.specs.Paths.{WrittenPath}
use Rattle.df_lang.specs.Problems.{Stated}
use Rattle.df_lang.proofs.RulesKept.{bind_kept}
use Rattle.df_lang.proofs.SourcesKept.{few_lines}
use Rattle.df_correspondence.specs.Designs.{union_of}
use Rattle.df_matrix.specs.declared.matrix.MatrixError.{MatrixError}
use Rattle.df_matrix.specs.Limits.{limit_passed}
use Rattle.df_dossier.specs.declared.judge.Awaits.TheVariants as awaits
use Rattle.df_dossier.specs.declared.judge.DossierFault.TheVariants as fault
use Rattle.df_dossier.specs.Tokens.{◌>>?◌}
use Rattle.df_dossier.specs.Dossiers.{refused, Taken, has_tokens, said_or, first_line, head_line, dossier_from, source_lines, whole}
use Rattle.df_check.specs.declared.LogFault.TheVariants.{ChainBroken}
use Rattle.df_check.specs.Entries.{unless}
use Rattle.df_check.specs.Checkers.{Wants, is_closed}
use Rattle.df_check.specs.Lines.{leaves_of}
use Rattle.df_check.specs.DesignLines.{begun_on, after_design_lines}
use Rattle.df_check.specs.DesignLaws.{DesignLinesCloseProofs}
use Rattle.df_check.specs.Chains.{Read, are_blank, AreDossiers, GoOn, empty_path, log_of, IsChain, designs_of}
use Rattle.df_check.specs.Judging.{Runs, Running, running_on, same_path, is_place, finished_at, verdict_from, verdict}
use Rattle.df_check.specs.ChainLaws.{AreDecided}
use Rattle.df_check.proofs.DossierParts.{dossier_parts}
use Rattle.df_check.proofs.Heard.{heard, heard_is}
use Rattle.df_check.proofs.VerdictLines.{passed, given, ended, ended_with, after_log, next_of}
use Rattle.df_check.proofs.VerdictParts.{placed, log_taken, after_dossier, within_limits, are_awaited, awaited_are, same_awaited}
use Rattle.df_check.proofs.VerdictDossiers.{first_dossier, first_is, sourced, later_dossier, later_is, next_is}
use Rattle.df_check.proofs.GivenItems.{count_on, count_joined, leaves_counted, wants_joined, moved, given_moves, closed_given, stopped_at, ClosedWhereFinished, ended_stops, stops_ended}

abbrev path_of : ℕ → List ℕ → WrittenPath
path_of size chosen = record { size = size; chosen = chosen }

-- what is held after a dossier that breaks no rule
abbrev left_by : Running → Taken Read → Running
left_by r t = stopped_at (moved r t.value.log.items) t.number t.value.log.end.next

-- what holds of a dossier after which the lines are answered so
record Stepped (r : Running) (t : Taken Read) (n : ℕ) : Type 0 where
  pub place : r.place ≡ Some t.value.start
  pub closed : ClosedWhereFinished t.value.log.end.next (after_design_lines r.problem r.wants t.value.log.items)
  pub rest : heard (verdict_from (next_of (left_by r t)) (t.number + 1) t.after) ≡ Some n

-- dossiers that go on from what is held, and their designs
record Goes (r : Running) (number : ℕ) (lines : List (List ℕ)) (n : ℕ) : Type 0 where
  pub dossiers : List Read
  pub are : AreDossiers number lines dossiers
  pub sources : AllByRecursion (λ (d : Read). d.source ≡ r.source) dossiers
  pub places : GoOn r.place dossiers
  pub closes : is_closed (after_design_lines r.problem r.wants (log_of dossiers)) ≡ true
  pub count : n ≡ count_on r.designs (log_of dossiers)

-- what a dossier and those after it have to be, but for their lines
record Begins (d : Read) (later : List Read) : Type 0 where
  pub within : limit_passed d.problem ≡ None
  pub sources : AllByRecursion (λ (e : Read). e.source ≡ d.source) later
  pub places : (d.start ≡ empty_path) × GoOn d.log.end.next later
  pub closes : is_closed (after_design_lines d.problem (begun_on d.problem).wants (log_of (d ∷ later))) ≡ true

-- no dossier is read of lines without tokens
blank_head : (number : ℕ) (lines : List (List ℕ)) → are_blank lines ≡ true → first_line fault.BadHead head_line number lines ≡ refused 0 fault.BadHead
blank_head number [] blank = refl
blank_head number (line ∷ lines) blank = by_tokens (has_tokens line) (blank_head (number + 1) lines) blank where
  by_tokens : (b : Bool) → (are_blank lines ≡ true → first_line fault.BadHead head_line (number + 1) lines ≡ refused 0 fault.BadHead) → (not b && are_blank lines) ≡ true
      → cond b (said_or fault.BadHead number lines (head_line line)) (first_line fault.BadHead head_line (number + 1) lines) ≡ refused 0 fault.BadHead
  by_tokens true later g = absurd (cc)
  by_tokens false later g = later g

not_blank : (number : ℕ) (lines : List (List ℕ)) (t : Taken Read) → dossier_from whole number lines ≡ Ok t → are_blank lines ≡ false
not_blank number lines t h = by_blank (are_blank lines) refl where
  by_blank : (b : Bool) → are_blank lines ≡ b → are_blank lines ≡ false
  by_blank false is = is
  by_blank true is =
      let head = bind_kept (first_line fault.BadHead head_line number lines) _ t h in
      let none = blank_head number lines is in
      let some = head.1 in
      absurd (cc)

module _ (equal : IsEquality same_list) where
  same_paths : (p q : WrittenPath) → same_path p q ≡ true → p ≡ q
  same_paths p q h = by_parts (nat_eq p.size q.size) (same_list p.chosen q.chosen) refl refl h where
    by_parts : (a b : Bool) → nat_eq p.size q.size ≡ a → same_list p.chosen q.chosen ≡ b → (a && b) ≡ true → p ≡ q
    by_parts true true size chosen g = ap₂ path_of (numbers_equal.same p.size q.size size) (equal.same p.chosen q.chosen chosen)
    by_parts true false size chosen g = absurd (cc)
    by_parts false b size chosen g = absurd (cc)

  place_is : (place : Option WrittenPath) (p : WrittenPath) → is_place place p ≡ true → place ≡ Some p
  place_is None p h = absurd (cc)
  place_is (Some place) p h = ap Some (sym (same_paths p place h))

  is_there : (p : WrittenPath) → is_place (Some p) p ≡ true
  is_there p = ap₂ ◌&&◌ (numbers_equal.self p.size) (equal.self p.chosen)

  stepped : (r : Running) (t : Taken Read) (n : ℕ) → after_dossier r t ≡ Some n → Stepped r t n
  stepped r t n h =
      option_and_then_some (λ now. after_log now (log_taken t)) (placed r t.value.start) n h (λ now there log.
      let at = by_place (is_place r.place t.value.start) now there in
      option_and_then_some (ended_with (log_taken t)) (given r t.value.log.items) n (subst (λ q. after_log q (log_taken t) ≡ Some n) at.1 log) (λ after moves end.
      let is = given_moves t.value.log.items r after moves in
      option_and_then_some (λ last. heard (verdict_from (next_of last) (t.number + 1) t.after)) (ended (moved r t.value.log.items) t.number t.value.log.end.next) n (subst (λ q. ended_with (log_taken t) q ≡ Some n) is end) (λ last ends rest.
      let stops = ended_stops (moved r t.value.log.items) t.number t.value.log.end.next last ends in
      record {
        place = place_is r.place t.value.start at.0;
        closed = stops.0;
        rest = subst (λ q. heard (verdict_from (next_of q) (t.number + 1) t.after) ≡ Some n) stops.1 rest;
      }))) where
        by_place : (b : Bool) (now : Running) → passed (unless b ChainBroken) r ≡ Some now → (b ≡ true) × (now ≡ r)
        by_place true now g = (refl, cc)
        by_place false now g = absurd (cc)

  steps : (r : Running) (t : Taken Read) (later : List Read) → r.place ≡ Some t.value.start → is_closed (after_design_lines r.problem r.wants (t.value.log.items ++ log_of later)) ≡ true
      → ClosedWhereFinished t.value.log.end.next (after_design_lines r.problem r.wants t.value.log.items) → after_dossier r t ≡ heard (verdict_from (next_of (left_by r t)) (t.number + 1) t.after)
  steps r t later place closes closed =
      ap (λ b. passed (unless b ChainBroken) r >>? λ now. after_log now (log_taken t)) (ap (λ o. is_place o t.value.start) place ∙ is_there t.value.start)
      ∙ ap (λ o. o >>? ended_with (log_taken t)) (closed_given t.value.log.items (log_of later) r closes)
      ∙ ap (λ o. o >>? λ last. heard (verdict_from (next_of last) (t.number + 1) t.after)) (stops_ended (moved r t.value.log.items) t.number t.value.log.end.next closed)

  -- one dossier and those after it
  goes_through : (r : Running) (t : Taken Read) (n number : ℕ) (lines : List (List ℕ)) → dossier_from whole number lines ≡ Ok t → t.value.source ≡ r.source → Stepped r t n → Goes (left_by r t) (t.number + 1) t.after n → Goes r number lines n
  goes_through r t n number lines is same step later = record {
    dossiers = t.value ∷ later.dossiers;
    are = (t, is, refl, later.are);
    sources = (same, later.sources);
    places = subst (λ o. GoOn o (t.value ∷ later.dossiers)) (sym step.place) (refl, later.places);
    closes = ap is_closed (wants_joined r.problem t.value.log.items (log_of later.dossiers) r.wants) ∙ later.closes;
    count = later.count ∙ sym (count_joined t.value.log.items (log_of later.dossiers) r.designs);
  }

  finished : (r : Running) (n number : ℕ) (lines : List (List ℕ)) → are_blank lines ≡ true → ClosedWhereFinished r.place r.wants → heard (finished_at r r.place) ≡ Some n → Goes r number lines n
  finished r n number lines blank closed h = by_place r.place refl closed h where
    by_place : (o : Option WrittenPath) → r.place ≡ o → ClosedWhereFinished o r.wants → heard (finished_at r o) ≡ Some n → Goes r number lines n
    by_place None is closed g = record { dossiers = []; are = blank; sources = tt; places = subst (λ o. GoOn o []) (sym is) tt; closes = closed; count = cc }
    by_place (Some place) is closed g = absurd (cc)

  one_more : (r : Running) (n number : ℕ) (lines : List (List ℕ)) → (heard (dossier_from whole number lines) >>? later_dossier r) ≡ Some n
      → ((q : Running) (t : Taken Read) → length t.after + 1 ≤ length lines → source_lines q.source ≡ Ok q.problem → ClosedWhereFinished q.place q.wants → heard (verdict_from (next_of q) (t.number + 1) t.after) ≡ Some n → Goes q (t.number + 1) t.after n)
      → source_lines r.source ≡ Ok r.problem → Goes r number lines n
  one_more r n number lines h later states =
      option_and_then_some (later_dossier r) (heard (dossier_from whole number lines)) n h (λ t read g.
      let is = heard_is (dossier_from whole number lines) t read in
      let same = by_source t (are_awaited r.source t.value.source) g in
      let now : Running = record r { awaited = [] } in
      let step = stepped now t n same.1 in
      let parts = dossier_parts number lines t is in
      let goes = goes_through now t n number lines is (awaited_are r.source t.value.source same.0) step (later (left_by now t) t (omega (arith, parts.less)) states step.closed step.rest) in
      record { dossiers = goes.dossiers; are = goes.are; sources = goes.sources; places = goes.places; closes = goes.closes; count = goes.count }) where
        by_source : (t : Taken Read) (b : Bool) → (sourced b r >>? λ now. after_dossier now t) ≡ Some n → (b ≡ true) × (after_dossier (record r { awaited = [] }) t ≡ Some n)
        by_source t true g = (refl, g)
        by_source t false g = absurd (cc)

  by_blank : (r : Running) (n number : ℕ) (lines : List (List ℕ)) → source_lines r.source ≡ Ok r.problem → ClosedWhereFinished r.place r.wants → heard (verdict_from (next_of r) number lines) ≡ Some n
      → ((q : Running) (t : Taken Read) → length t.after + 1 ≤ length lines → source_lines q.source ≡ Ok q.problem → ClosedWhereFinished q.place q.wants → heard (verdict_from (next_of q) (t.number + 1) t.after) ≡ Some n → Goes q (t.number + 1) t.after n)
      → Goes r number lines n
  by_blank r n number lines states closed h later = by_test (are_blank lines) refl (sym (next_is number lines r) ∙ h) where
    by_test : (b : Bool) → are_blank lines ≡ b → cond b (heard (finished_at r r.place)) (heard (verdict_from record { awaits = awaits.First; held = Runs r } number lines)) ≡ Some n → Goes r number lines n
    by_test true is g = finished r n number lines is closed g
    by_test false is g = one_more r n number lines (sym (later_is number lines r states) ∙ g) later states

  -- by the number of lines
  goes_on : (most : ℕ) (r : Running) (n number : ℕ) (lines : List (List ℕ)) → length lines ≤ most → source_lines r.source ≡ Ok r.problem → ClosedWhereFinished r.place r.wants → heard (verdict_from (next_of r) number lines) ≡ Some n → Goes r number lines n
  goes_on zero r n number lines few states closed h = by_blank r n number lines states closed h (λ q t less states closed g. absurd (omega (arith, few, less)))
  goes_on (suc most) r n number lines few states closed h = by_blank r n number lines states closed h (λ q t less. goes_on most q n (t.number + 1) t.after (omega (arith, few, less)))

  -- the other way
  none_left : (r : Running) (place : Option WrittenPath) → GoOn place [] → heard (finished_at r place) ≡ Some r.designs
  none_left r None goes = refl
  none_left r (Some place) goes = absurd goes

  begins_there : (place : Option WrittenPath) (d : Read) (later : List Read) → GoOn place (d ∷ later) → (place ≡ Some d.start) × GoOn d.log.end.next later
  begins_there None d later goes = absurd goes
  begins_there (Some place) d later goes = (ap Some (sym goes.0), goes.1)

  finished_closed : (next : Option WrittenPath) (later : List Read) (p : Stated) (w : Wants) → GoOn next later → is_closed (after_design_lines p w (log_of later)) ≡ true → ClosedWhereFinished next w
  finished_closed None [] p w goes closes = closes
  finished_closed None (d ∷ later) p w goes closes = absurd goes
  finished_closed (Some place) later p w goes closes = tt

  -- one dossier, where those after it are answered
  dossier_heard : (r : Running) (t : Taken Read) (later : List Read) → r.place ≡ Some t.value.start → GoOn t.value.log.end.next later → is_closed (after_design_lines r.problem r.wants (t.value.log.items ++ log_of later)) ≡ true
      → (is_closed (after_design_lines r.problem (after_design_lines r.problem r.wants t.value.log.items) (log_of later)) ≡ true
      → heard (verdict_from (next_of (left_by r t)) (t.number + 1) t.after) ≡ Some (count_on (count_on r.designs t.value.log.items) (log_of later)))
      → after_dossier r t ≡ Some (count_on r.designs (t.value.log.items ++ log_of later))
  dossier_heard r t later place goes closes rest =
      let closed : is_closed (after_design_lines r.problem (after_design_lines r.problem r.wants t.value.log.items) (log_of later)) ≡ true = ap is_closed (sym (wants_joined r.problem t.value.log.items (log_of later) r.wants)) ∙ closes in
      steps r t later place closes (finished_closed t.value.log.end.next later r.problem (after_design_lines r.problem r.wants t.value.log.items) goes closed)
      ∙ rest closed
      ∙ ap Some (sym (count_joined t.value.log.items (log_of later) r.designs))

  dossiers_heard : (ds : List Read) (r : Running) (number : ℕ) (lines : List (List ℕ)) → source_lines r.source ≡ Ok r.problem → AreDossiers number lines ds → AllByRecursion (λ (d : Read). d.source ≡ r.source) ds → GoOn r.place ds
      → is_closed (after_design_lines r.problem r.wants (log_of ds)) ≡ true → heard (verdict_from (next_of r) number lines) ≡ Some (count_on r.designs (log_of ds))
  dossiers_heard [] r number lines states are sources places closes =
      next_is number lines r
      ∙ ap (λ b. cond b (heard (finished_at r r.place)) (heard (verdict_from record { awaits = awaits.First; held = Runs r } number lines))) are
      ∙ none_left r r.place places
  dossiers_heard (d ∷ later) r number lines states are sources places closes =
      let t = are.0 in
      let back : d ≡ t.value = sym are.2 in
      let at = begins_there r.place d later places in
      let now : Running = record r { awaited = [] } in
      let goes = subst (λ (e : Read). GoOn e.log.end.next later) back at.1 in
      let same = ap (λ (e : Read). e.source) are.2 ∙ sources.0 in
      next_is number lines r
      ∙ ap (λ b. cond b (heard (finished_at r r.place)) (heard (verdict_from record { awaits = awaits.First; held = Runs r } number lines))) (not_blank number lines t are.1)
      ∙ later_is number lines r states
      ∙ ap (λ o. heard o >>? later_dossier r) are.1
      ∙ ap (λ b. sourced b r >>? λ now. after_dossier now t) (ap (are_awaited r.source) same ∙ same_awaited r.source)
      ∙ dossier_heard now t later (at.0 ∙ ap (λ (e : Read). Some e.start) back) goes (subst (λ (e : Read). is_closed (after_design_lines r.problem r.wants (e.log.items ++ log_of later)) ≡ true) back closes)
      (λ closed. dossiers_heard later (left_by now t) (t.number + 1) t.after states are.3 sources.1 goes closed)
      ∙ ap (λ (e : Read). Some (count_on r.designs (e.log.items ++ log_of later))) are.2

  first_at : (t : Taken Read) (later : List Read) → source_lines t.value.source ≡ Ok t.value.problem → AreDossiers (t.number + 1) t.after later → Begins t.value later → first_dossier t ≡ Some (count_on 0 (log_of (t.value ∷ later)))
  first_at t later states are begins =
      let r = running_on t.value.source t.value.problem in
      ap (λ l. within_limits l r >>? λ r. after_dossier r t) begins.within
      ∙ dossier_heard r t later (ap Some (sym begins.places.0)) begins.places.1 begins.closes (λ closed. dossiers_heard later (left_by r t) (t.number + 1) t.after states are begins.sources begins.places.1 closed)

  only : DesignLinesCloseProofs → (lines : List (List ℕ)) (c : IsChain lines) → (heard (dossier_from whole 1 lines) >>? first_dossier) ≡ Some (count_on 0 (log_of (c.first ∷ c.later)))
  only closing lines c =
      let t = c.dossiers.0 in
      let begins : Begins c.first c.later = record { within = c.within; sources = c.sources; places = c.places; closes = (closing c.first.problem (log_of (c.first ∷ c.later))).1 c.proof } in
      ap (λ o. heard o >>? first_dossier) c.dossiers.1
      ∙ first_at t c.later (dossier_parts 1 lines t c.dossiers.1).stated c.dossiers.3 (subst (λ (d : Read). Begins d c.later) (sym c.dossiers.2) begins)
      ∙ ap (λ (d : Read). Some (count_on 0 (log_of (d ∷ c.later)))) c.dossiers.2

  accepted : DesignLinesCloseProofs → (lines : List (List ℕ)) (n : ℕ) → (heard (dossier_from whole 1 lines) >>? first_dossier) ≡ Some n → (c : IsChain lines) × (n ≡ count_on 0 (log_of (c.first ∷ c.later)))
  accepted closing lines n h =
      option_and_then_some first_dossier (heard (dossier_from whole 1 lines)) n h (λ t read g.
      let is = heard_is (dossier_from whole 1 lines) t read in
      let r = running_on t.value.source t.value.problem in
      let parts = dossier_parts 1 lines t is in
      let limits = by_limit (limit_passed t.value.problem) r t g in
      let step = stepped r t n limits.1 in
      let goes = goes_through r t n 1 lines is refl step (goes_on (length t.after) (left_by r t) n (t.number + 1) t.after (omega arith) parts.stated step.closed step.rest) in
      chain_of t.value.source t.value.problem parts.stated limits.0 goes.dossiers goes.are goes.sources goes.places goes.closes goes.count)
    where
      by_limit : (l : Option MatrixError) (r : Running) (t : Taken Read) → (within_limits l r >>? λ r. after_dossier r t) ≡ Some n → (l ≡ None) × (after_dossier r t ≡ Some n)
      by_limit None r t g = (refl, g)
      by_limit (Some e) r t g = absurd (cc)

      chain_of : (source : List (List ℕ)) (p : Stated) → source_lines source ≡ Ok p → limit_passed p ≡ None → (ds : List Read) → AreDossiers 1 lines ds → AllByRecursion (λ (d : Read). d.source ≡ source) ds → GoOn (Some empty_path) ds
          → is_closed (after_design_lines p (begun_on p).wants (log_of ds)) ≡ true → n ≡ count_on 0 (log_of ds) → (c : IsChain lines) × (n ≡ count_on 0 (log_of (c.first ∷ c.later)))
      chain_of source p states within [] are sources places closes count = absurd places
      chain_of source p states within (d ∷ later) are sources places closes count =
          let stated : source_lines d.source ≡ Ok d.problem = subst (λ (e : Read). source_lines e.source ≡ Ok e.problem) are.2 (dossier_parts 1 lines are.0 are.1).stated in
          let equal_or : Ok d.problem ≡ Ok p = sym stated ∙ ap source_lines sources.0 ∙ states in
          let same : d.problem ≡ p = cc in (
            record {
              first = d;
              later = later;
              dossiers = are;
              within = ap limit_passed same ∙ within;
              sources = subst (λ s. AllByRecursion (λ (e : Read). e.source ≡ s) later) (sym sources.0) sources.1;
              places = places;
              proof = (closing d.problem (log_of (d ∷ later))).0 (subst (λ q. is_closed (after_design_lines q (begun_on q).wants (log_of (d ∷ later))) ≡ true) (sym same) closes);
            },
            count,
          )

-- there are no more items than lines
few_items : (ds : List Read) (number : ℕ) (lines : List (List ℕ)) → AreDossiers number lines ds → length (log_of ds) ≤ length lines
few_items [] number lines are = omega arith
few_items (d ∷ later) number lines are =
    let t = are.0 in
    let parts = dossier_parts number lines t are.1 in
    let rest = few_items later (t.number + 1) t.after are.3 in
    omega (arith, length-append d.log.items (log_of later), ap (λ (e : Read). length e.log.items) are.2, parts.less, rest)

designs_counted : (bytes : List ℕ) → length bytes ≤ MOST_BYTES → (c : IsChain (lines_of bytes)) → count_on 0 (log_of (c.first ∷ c.later)) ≡ length (designs_of c)
designs_counted bytes few c =
    let items = log_of (c.first ∷ c.later) in
    let least : length items ≤ MOST_BYTES = omega (arith, few, few_lines bytes, few_items (c.first ∷ c.later) 1 (lines_of bytes) c.dossiers) in
    let counted : count_on 0 items ≡ 0 + length (leaves_of items) = leaves_counted items 0 (omega (arith, least)) in
    let mapped : length (designs_of c) ≡ length (leaves_of items) = length-map (leaves_of items) (union_of c.first.problem) in
    omega (arith, counted, mapped)

pub chains_decided : IsEquality same_list → DesignLinesCloseProofs → (bytes : List ℕ) → length bytes ≤ MOST_BYTES → AreDecided bytes
chains_decided equal closing bytes few = record {
  accepted = λ n h.
      let chain = accepted equal closing (lines_of bytes) n (sym (first_is 1 (lines_of bytes) record { at = 0; source = [] }) ∙ ap heard h) in
      (chain.0, chain.1 ∙ designs_counted bytes few chain.0);
  only = λ c.
      heard_is (verdict bytes) (length (designs_of c))
      (first_is 1 (lines_of bytes) record { at = 0; source = [] } ∙ only equal closing (lines_of bytes) c ∙ ap Some (designs_counted bytes few c));
}
