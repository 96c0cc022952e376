-- What stands after the first line with tokens, and after a log: as the grammar of dossiers has it.
use Rattle.std.proofs.Common.{◌≡◌, ℕ, ◌+◌, Bool, true, false, cond, List, [], ◌∷◌, Option, Some, None, option_map, is_some, Result, Ok, Err, inl, inr, bytes_eq, codes, refl, sym, ap, ◌∙◌, subst}
use Rattle.std.proofs.lemmas.Option.{option_and_then_some}
use Rattle.std.proofs.lemmas.Slice.Eq.{bytes_eq-Decides}
use Rattle.df_io.specs.Lines.{tokens_of}
use Rattle.df_walk.specs.declared.Entry.{Entry}
use Rattle.df_walk.specs.declared.Rules.{Rules}
use Rattle.df_walk.specs.Paths.{WrittenPath}
use Rattle.df_lang.specs.Problems.{Stated}
use Rattle.df_lang.specs.Rules.{◌>>=◌}
use Rattle.df_dossier.specs.declared.judge.Awaits.TheVariants as awaits
use Rattle.df_dossier.specs.declared.judge.Judged.{Judged}
use Rattle.df_dossier.specs.declared.judge.DossierFault.{DossierFault}
use Rattle.df_dossier.specs.declared.judge.DossierFault.TheVariants as fault
use Rattle.df_dossier.specs.declared.judge.Piece.{Piece}
use Rattle.df_dossier.specs.declared.judge.Piece.TheVariants as piece
use Rattle.df_dossier.specs.Tokens.{◌>>?◌, ending}
use Rattle.df_dossier.specs.Entries.{entry_read}
use Rattle.df_dossier.specs.Paths.{past}
use Rattle.df_dossier.specs.Judging.{judged, judged_or, named_count, finished_of, spent_of, end_of, tokens_judged}
use Rattle.df_dossier.specs.Designs.{design_of}
use Rattle.df_dossier.specs.Dossiers.{Refusal, Taken, Ending, some_token, said_or, first_line, ending_by, item_or, item_before, log_from, line_path, whole}
use Rattle.df_check.specs.declared.LogFault.{LogFault}
use Rattle.df_check.specs.declared.LogFault.TheVariants.{OpenAtEnd}
use Rattle.df_check.specs.Entries.{unless}
use Rattle.df_check.specs.Checkers.{fault_at, after_entry, after_leaf, counted, is_closed}
use Rattle.df_check.specs.Lines.{Line}
use Rattle.df_kramer_mesner.specs.OrbitSystems.{orbit_system}
use Rattle.df_check.specs.DesignLines.{design_fault}
use Rattle.df_check.specs.Judging.{Held, Runs, Running, Standing, ruled, read_or, with_design, with_stop, after_judged, after_line, at_end, verdict_from}
use Rattle.df_check.proofs.DossierParts.{ReadLog}
use Rattle.df_check.proofs.Heard.{heard}

-- where lines without tokens change nothing, and a line with tokens is read, or refused
module _ {A : Type 0} (s : Standing) (f : DossierFault) (read : List ℕ → Option A) (more : ℕ → A → List (List ℕ) → Option ℕ)
    (ends : heard (at_end s) ≡ None)
    (blank : (number : ℕ) (line : List ℕ) → tokens_of line ≡ [] → after_line s number line ≡ Ok s)
    (filled : (number : ℕ) (line word : List ℕ) (tokens lines : List (List ℕ)) → tokens_of line ≡ word ∷ tokens → heard (after_line s number line >>= λ after. verdict_from after (number + 1) lines) ≡ (read line >>? λ x. more number x lines)) where
  abbrev first_of_two : ℕ → List ℕ → List (List ℕ) → Bool → Option ℕ
  first_of_two number line lines b = heard (cond b (said_or f number lines (read line)) (first_line f read (number + 1) lines)) >>? λ t. more t.number t.value t.after

  pub first_heard : (number : ℕ) (lines : List (List ℕ)) → heard (verdict_from s number lines) ≡ (heard (first_line f read number lines) >>? λ t. more t.number t.value t.after)
  first_heard number [] = ends
  first_heard number (line ∷ lines) = by_tokens (tokens_of line) refl (first_heard (number + 1) lines) where
    told : (o : Option A) → (o >>? λ x. more number x lines) ≡ (heard (said_or f number lines o) >>? λ t. more t.number t.value t.after)
    told None = refl
    told (Some x) = refl

    by_tokens : (ts : List (List ℕ)) → tokens_of line ≡ ts → heard (verdict_from s (number + 1) lines) ≡ (heard (first_line f read (number + 1) lines) >>? λ t. more t.number t.value t.after)
        → heard (verdict_from s number (line ∷ lines)) ≡ (heard (first_line f read number (line ∷ lines)) >>? λ t. more t.number t.value t.after)
    by_tokens [] are later = ap (λ r. heard (r >>= λ after. verdict_from after (number + 1) lines)) (blank number line are) ∙ later ∙ sym (ap (λ ts. first_of_two number line lines (some_token ts)) are)
    by_tokens (word ∷ tokens) are later = filled number line word tokens lines are ∙ told (read line) ∙ sym (ap (λ ts. first_of_two number line lines (some_token ts)) are)

-- what is held where there may be a fault
abbrev pub passed : Option LogFault → Running → Option Running
passed None r = Some r
passed (Some f) r = None

-- after an item of a log, and after items
abbrev pub taken : Running → Line (List (List ℕ)) → Option Running
taken r (inl e) = passed (fault_at (orbit_system r.problem) r.wants e) (record r { wants = after_entry r.wants e })
taken r (inr blocks) = passed (design_fault r.problem r.wants blocks) (record r { wants = after_leaf r.wants; designs = counted None r.designs })

abbrev pub given : Running → List (Line (List (List ℕ))) → Option Running
given r [] = Some r
given r (item ∷ items) = taken r item >>? λ after. given after items

-- after the end line of this number
abbrev pub ended : Running → ℕ → Option WrittenPath → Option Running
ended r number None = passed (unless (is_closed r.wants) OpenAtEnd) (record r { place = None })
ended r number (Some p) = Some (record r { place = Some p; last = number })

abbrev pub logs_of : Rules → Running → Standing
logs_of rules r = record { awaits = awaits.Log rules; held = Runs r }

abbrev pub next_of : Running → Standing
next_of r = record { awaits = awaits.Next; held = Runs r }

-- what the lines after a log are answered
abbrev pub ended_with : Taken ReadLog → Running → Option ℕ
ended_with t r = ended r t.number t.value.end.next >>? λ last. heard (verdict_from (next_of last) (t.number + 1) t.after)

abbrev pub after_log : Running → Taken ReadLog → Option ℕ
after_log r t = given r t.value.items >>? ended_with t

-- what an end line says is an end
ends_of : (tokens : List (List ℕ)) (p : Piece) → end_of tokens ≡ Some p → (f : Bool) × (d : ℕ) × (n : ℕ) × (p ≡ piece.End f d n)
ends_of [] p h = absurd (cc)
ends_of (token ∷ rest) p h = by_word (bytes_eq token (codes "finished")) (bytes_eq token (codes "spent")) h where
  last : (f : Bool) (d n : ℕ) (more : List (List ℕ)) → ending more (piece.End f d n) ≡ Some p → (f : Bool) × (d : ℕ) × (n : ℕ) × (p ≡ piece.End f d n)
  last f d n [] g = (f, d, n, cc)
  last f d n (token ∷ more) g = absurd (cc)

  mapped : (d n : ℕ) (o : Option (List (List ℕ))) → option_map (λ path. piece.End false d n) o ≡ Some p → (f : Bool) × (d : ℕ) × (n : ℕ) × (p ≡ piece.End f d n)
  mapped d n None g = absurd (cc)
  mapped d n (Some path) g = (false, d, n, cc)

  by_word : (a b : Bool) → cond a (finished_of rest) (cond b (spent_of rest) None) ≡ Some p → (f : Bool) × (d : ℕ) × (n : ℕ) × (p ≡ piece.End f d n)
  by_word true b g =
      option_and_then_some _ (named_count (codes "designs") rest) p g (λ designs is h.
      option_and_then_some _ (named_count (codes "nodes") designs.more) p h (λ nodes are k. last true designs.n nodes.n nodes.more k))
  by_word false true g =
      option_and_then_some _ (named_count (codes "designs") rest) p g (λ designs is h.
      option_and_then_some _ (named_count (codes "nodes") designs.more) p h (λ nodes are k. mapped designs.n nodes.n (past (codes "next") nodes.more) k))
  by_word false false g = absurd (cc)

-- a line that begins with `end` doesn't begin with `design`
one_word : (word : List ℕ) → bytes_eq word (codes "end") ≡ true → bytes_eq word (codes "design") ≡ false
one_word word end = ap (λ w. bytes_eq w (codes "design")) ((bytes_eq-Decides word (codes "end")).0 end)

module _ (rules : Rules) (r : Running) (number : ℕ) (line : List ℕ) (lines : List (List ℕ)) where
  abbrev later : Standing → Option ℕ
  later s = heard (verdict_from s (number + 1) lines)

  abbrev log_after : Result (Taken ReadLog) Refusal
  log_after = log_from whole rules r.problem (number + 1) lines

  -- for any reading of the lines after it
  item_some : (item : Line (List (List ℕ))) (after : Running) (l : Result (Taken ReadLog) Refusal) → taken r item ≡ Some after → (heard (l >>= λ more. Ok (item_before item more)) >>? after_log r) ≡ (heard l >>? after_log after)
  item_some item after (Ok t) is = ap (λ o. o >>? (λ now. given now t.value.items) >>? ended_with t) is
  item_some item after (Err e) is = refl

  item_none : (item : Line (List (List ℕ))) (l : Result (Taken ReadLog) Refusal) → taken r item ≡ None → (heard (l >>= λ more. Ok (item_before item more)) >>? after_log r) ≡ None
  item_none item (Ok t) is = ap (λ o. o >>? (λ now. given now t.value.items) >>? ended_with t) is
  item_none item (Err e) is = refl

  item_heard : (item : Line (List (List ℕ))) (f : Option LogFault) (after : Running) → taken r item ≡ passed f after → later (logs_of rules after) ≡ (heard log_after >>? after_log after)
      → heard (ruled number f after >>= (λ now. Ok (Runs now)) >>= (λ (held : Held). Ok record { awaits = awaits.Log rules; held = held }) >>= λ s. verdict_from s (number + 1) lines) ≡ (heard (log_after >>= λ more. Ok (item_before item more)) >>? after_log r)
  item_heard item None after is same = same ∙ sym (item_some item after log_after is)
  item_heard item (Some f) after is same = sym (item_none item log_after is)

  abbrev after_piece : Judged → Option ℕ
  after_piece j = heard (after_judged (logs_of rules r) number line (Some j) >>= λ s. verdict_from s (number + 1) lines)

  abbrev items : Result (Line (List (List ℕ))) Refusal → Option ℕ
  items i = heard (i >>= λ item. log_after >>= λ more. Ok (item_before item more)) >>? after_log r

  abbrev wrapped : Option (Ending WrittenPath) → Option ℕ
  wrapped o = heard (said_or fault.BadEnd number lines (option_map (λ end. record { items = []; end = end }) o)) >>? after_log r

  abbrev Same : Type 0
  Same = (after : Running) → after.problem ≡ r.problem → later (logs_of rules after) ≡ (heard log_after >>? after_log after)

  abbrev Designed : Option (List (List ℕ)) → Type 0
  Designed p =
      heard (read_or number fault.BadDesign p >>= with_design r number >>= (λ now. Ok (Runs now)) >>= (λ (held : Held). Ok record { awaits = awaits.Log rules; held = held }) >>= λ s. verdict_from s (number + 1) lines)
      ≡ items (item_or fault.BadDesign number (option_map inr p))

  design_heard : (o : Option (List (List ℕ))) → design_of r.problem line ≡ o → Same → after_piece (judged (awaits.Log rules) piece.Design) ≡ items (item_or fault.BadDesign number (option_map inr (design_of r.problem line)))
  design_heard o is same = subst Designed (sym is) (by_option o) where
    by_option : (p : Option (List (List ℕ))) → Designed p
    by_option None = refl
    by_option (Some blocks) =
        let after : Running = record r { wants = after_leaf r.wants; designs = counted None r.designs } in
        item_heard (inr blocks) (design_fault r.problem r.wants blocks) after refl (same after refl)

  entry_heard : (o : Option Entry) → Same → after_piece (judged_or fault.BadEntry (option_map (λ e. judged (awaits.Log rules) (piece.Entry e)) o)) ≡ items (item_or fault.BadEntry number (option_map inl o))
  entry_heard None same = refl
  entry_heard (Some e) same =
      let after : Running = record r { wants = after_entry r.wants e } in
      item_heard (inl e) (fault_at (orbit_system r.problem) r.wants e) after refl (same after refl)

  end_finished : (f : Option LogFault) (d n : ℕ) → heard (ruled number f (record r { place = None }) >>= (λ now. Ok (Runs now)) >>= (λ (held : Held). Ok record { awaits = awaits.Next; held = held }) >>= λ s. verdict_from s (number + 1) lines)
      ≡ (passed f (record r { place = None }) >>? λ last. heard (verdict_from (next_of last) (number + 1) lines))
  end_finished None d n = refl
  end_finished (Some f) d n = refl

  end_spent : (o : Option WrittenPath) (d n : ℕ) → heard (read_or number fault.BadEnd o >>= with_stop r number >>= (λ now. Ok (Runs now)) >>= (λ (held : Held). Ok record { awaits = awaits.Next; held = held }) >>= λ s. verdict_from s (number + 1) lines)
      ≡ wrapped (option_map (λ p. record { designs = d; nodes = n; next = Some p }) o)
  end_spent None d n = refl
  end_spent (Some p) d n = refl

  end_heard : (tokens : List (List ℕ)) → after_piece (judged_or fault.BadEnd (option_map (judged awaits.Next) (end_of tokens))) ≡ wrapped (end_of tokens >>? ending_by line_path line)
  end_heard tokens = by_end (end_of tokens) refl where
    by_end : (o : Option Piece) → end_of tokens ≡ o → after_piece (judged_or fault.BadEnd (option_map (judged awaits.Next) o)) ≡ wrapped (o >>? ending_by line_path line)
    by_end None is = refl
    by_end (Some p) is =
        let e = ends_of tokens p is in
        subst (λ q. after_piece (judged awaits.Next q) ≡ wrapped (ending_by line_path line q)) (sym e.3) (by_finished e.0 e.1 e.2) where
          by_finished : (f : Bool) (d n : ℕ) → after_piece (judged awaits.Next (piece.End f d n)) ≡ wrapped (ending_by line_path line (piece.End f d n))
          by_finished true d n = end_finished (unless (is_closed r.wants) OpenAtEnd) d n
          by_finished false d n = end_spent (line_path line) d n

  -- the line by its tokens, but for a design and a path
  abbrev logged : List (List ℕ) → Result (Taken ReadLog) Refusal
  logged ts =
      cond (some_token ts)
      (cond (is_some (past (codes "end") ts)) (said_or fault.BadEnd number lines (option_map (λ end. record { items = []; end = end }) (past (codes "end") ts >>? end_of >>? ending_by line_path line)))
      (cond (is_some (past (codes "design") ts)) (item_or fault.BadDesign number (option_map inr (design_of r.problem line))) (item_or fault.BadEntry number (option_map inl (entry_read rules ts))) >>= λ item. log_after >>= λ more. Ok (item_before item more)))
      log_after

  by_words : (word : List ℕ) (tokens : List (List ℕ)) (design end : Bool) → bytes_eq word (codes "design") ≡ design → bytes_eq word (codes "end") ≡ end → Same
      → after_piece (cond design (judged (awaits.Log rules) piece.Design) (cond end (judged_or fault.BadEnd (option_map (judged awaits.Next) (end_of tokens))) (judged_or fault.BadEntry (option_map (λ e. judged (awaits.Log rules) (piece.Entry e)) (entry_read rules (word ∷ tokens))))))
      ≡ (heard (cond (is_some (cond end (Some tokens) None)) (said_or fault.BadEnd number lines (option_map (λ end. record { items = []; end = end }) (cond end (Some tokens) None >>? end_of >>? ending_by line_path line)))
      (cond (is_some (cond design (Some tokens) None)) (item_or fault.BadDesign number (option_map inr (design_of r.problem line))) (item_or fault.BadEntry number (option_map inl (entry_read rules (word ∷ tokens)))) >>= λ item. log_after >>= λ more. Ok (item_before item more))) >>? after_log r)
  by_words word tokens true true design end same = absurd (let other = one_word word end in cc)
  by_words word tokens true false design end same = design_heard (design_of r.problem line) refl same
  by_words word tokens false true design end same = end_heard tokens
  by_words word tokens false false design end same = entry_heard (entry_read rules (word ∷ tokens)) same

  by_tokens : (ts : List (List ℕ)) → Same → heard (after_judged (logs_of rules r) number line (tokens_judged (awaits.Log rules) ts) >>= λ s. verdict_from s (number + 1) lines) ≡ (heard (logged ts) >>? after_log r)
  by_tokens [] same = same r refl
  by_tokens (word ∷ tokens) same = by_words word tokens (bytes_eq word (codes "design")) (bytes_eq word (codes "end")) refl refl same

-- a log, and what follows it
pub log_heard : (rules : Rules) (p : Stated) (number : ℕ) (lines : List (List ℕ)) (r : Running) → r.problem ≡ p → heard (verdict_from (logs_of rules r) number lines) ≡ (heard (log_from whole rules p number lines) >>? after_log r)
log_heard rules p number [] r is = refl
log_heard rules p number (line ∷ lines) r is =
    subst (λ q. heard (verdict_from (logs_of rules r) number (line ∷ lines)) ≡ (heard (log_from whole rules q number (line ∷ lines)) >>? after_log r)) is
    (by_tokens rules r number line lines (tokens_of line) (λ after same. log_heard rules r.problem (number + 1) lines after same))
