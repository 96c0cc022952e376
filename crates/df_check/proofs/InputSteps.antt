-- An input that is judged while it is read: a line more, its end, a stop, and the rest behind a stop.
use Rattle.std.proofs.Common.{◌≡◌, ℕ, ◌+◌, true, false, List, [], None, Some, Ok, Err, refl, sym, ap, subst, ◌∙◌, append-nil}
use Rattle.std.specs.declared.option.Option.{Option}
use Rattle.std.specs.Option.{IsSome}
use Rattle.std.specs.Io.KnownBytes.{IsAtEnd}
use Rattle.std.specs.Prelude.{Result, IsErrAnd}
use mathlib.Core.Logic.{inl, inr}
use Rattle.df_io.specs.declared.bytes.ReadError.{ReadError}
use Rattle.df_io.specs.declared.bytes.ReadError.TheVariants as read_error
use Rattle.df_io.specs.declared.bytes.TheConstants.{MOST_BYTES}
use Rattle.df_io.specs.Causes.{ConsumesAtMost}
use Rattle.df_io.specs.Lines.{lines_of}
use Rattle.df_io.specs.Streams.{Stream, Reads, IsStream, IsNextLine, IsNoLine}
use Rattle.df_lang.specs.Problems.{Stated}
use Rattle.df_lang.specs.Rules.{◌>>=◌}
use Rattle.df_dossier.specs.declared.judge.Awaits.{Awaits}
use Rattle.df_dossier.specs.declared.judge.Awaits.TheVariants as awaits
use Rattle.df_dossier.specs.Judging.{awaits_from}
use Rattle.df_dossier.specs.Dossiers.{source_lines}
use Rattle.df_check.specs.declared.opening.Opening.{Opening as Opened}
use Rattle.df_dossier.specs.StreamReads.{IsRead, EndsEarly}
use Rattle.df_dossier.specs.SpentStreams.{ReadsAll}
use Rattle.df_dossier.proofs.StreamReads.{read_at_most, stops, ends, passes, read_more, line_first, text_more}
use Rattle.df_check.specs.declared.stop.Stop.{Stop}
use Rattle.df_check.specs.declared.stop.Stop.TheVariants as stop
use Rattle.df_check.specs.declared.streams.Halt.{Halt}
use Rattle.df_check.specs.declared.streams.Halt.TheVariants.{Stopped}
use Rattle.df_check.specs.Checks.{ReadsVerdict}
use Rattle.df_check.specs.Inputs.{Says, HoldsOnceRead, Halts, Judges, Opens, stopped_by, refusal_of}
use Rattle.df_check.specs.Judging.{Refused, Standing, Opening, Runs, opened, stated_by, running_on, after_line, at_end, verdict_from, verdict}
use Rattle.df_check.specs.Openings.{opening_of, standing_of, standing_after, GoesOn, States}
use Rattle.df_check.specs.Stops.{Stops, Moves}
use Rattle.df_check.proofs.OpeningSteps.{open_after}

-- what stops goes on stopping
stops_on : {A B : Type 0} → (meant : Result A Refused) → (f : A → Result B Refused) → (why : Stop) → Stops meant why → Stops (meant >>= f) why
stops_on meant f (stop.BadLine line e) is = ap (λ m. m >>= f) is
stops_on meant f (stop.BadLog line e) is = ap (λ m. m >>= f) is
stops_on meant f (stop.Above line e) is = ap (λ m. m >>= f) is
stops_on meant f stop.OutOfMemory is = tt

-- no line is left
pub end_says : (st : Standing) (s : Stream) (text : List ℕ) → Says (Ok st) s text → at_end st ≡ verdict text
end_says st s text says = says [] (λ some. refl) ∙ ap verdict (append-nil text)

-- a reading that ended early
pub ended_early : (left left_new : Option (List ℕ)) (faults faults_new : ℕ) (e : ReadError) → EndsEarly left left_new faults faults_new e → ReadsVerdict left left_new faults faults_new (Err (stopped_by e))
ended_early left left_new faults faults_new read_error.ReadFault early = early
ended_early left left_new faults faults_new read_error.TooLong early = early
ended_early left left_new faults faults_new read_error.OutOfMemory early = early

-- what stopped it, once the rest was read
pub refused_once_read : (left left_new : Option (List ℕ)) (faults faults_new : ℕ) (why : Stop) → ReadsAll left left_new (λ bytes. Stops (verdict bytes) why) → ReadsVerdict left left_new faults faults_new (refusal_of why)
refused_once_read left left_new faults faults_new (stop.BadLine line f) all = all
refused_once_read left left_new faults faults_new (stop.BadLog line f) all = all
refused_once_read left left_new faults faults_new (stop.Above line e) all = (all.0, all.1, all.2, all.3, (line, all.4))
refused_once_read left left_new faults faults_new stop.OutOfMemory all = (all.0, all.1, all.3)

module _ {S : Type 0} (left : S → Option (List ℕ)) (faults : S → ℕ) (first : S) where
  -- what was taken before the rest is read keeps to the limit
  pub halted_at_most : (s : Stream) (input : S) (P : List ℕ → Type 0) → IsStream s → HoldsOnceRead left faults first s input P → ConsumesAtMost (left first) (left input) MOST_BYTES
  halted_at_most s input P keeps (inl some) = read_at_most left faults first s input some.0 some.1 keeps
  halted_at_most s input P keeps (inr all) = (all.1.0, all.1.1, all.1.3)

  -- the rest is read
  module _ (i j : S) (old new : Stream) (reads : Reads left faults old new i j) (keeps_old : IsStream old) (keeps : IsStream new) where
    pub rest_read : (P : List ℕ → Type 0) → HoldsOnceRead left faults first old i P → new.ended ≡ Some (Ok tt) → (old.ended ≡ None → IsAtEnd (left j)) → ReadsAll (left first) (left j) P
    rest_read P (inl some) ended end = passes left faults first i j old new some.0 some.1 reads keeps_old keeps ended end P some.2
    rest_read P (inr all) ended end = subst (λ k. ReadsAll (left first) (left k) P) (sym (reads.unread (subst IsSome (sym all.0) refl))) all.1

    pub rest_stops : (P : List ℕ → Type 0) → HoldsOnceRead left faults first old i P → (e : ReadError) → new.ended ≡ Some (Err e) → EndsEarly (left first) (left j) (faults first) (faults j) e
    rest_stops P (inl some) e ended = stops left faults first i j old new some.0 some.1 reads keeps e ended
    rest_stops P (inr all) e ended = let same = reads.again (subst IsSome (sym all.0) refl) in let was = all.0 in absurd (cc)

  module _ (i j : S) (old new : Stream) (text : List ℕ) (is : IsRead left faults first old i text) (reads : Reads left faults old new i j) where
    -- the input ended where it may not
    pub end_halts : IsStream new → (nothing : IsNoLine old new (left i) (left j)) → (st : Standing) → Says (Ok st) old text → (why : Stop) → Stops (at_end st) why → Halts left faults first new j (Stopped why)
    end_halts keeps nothing st says why stops_so = inr (nothing.ended, ends left faults first i j old new text is reads keeps nothing (λ bytes. Stops (verdict bytes) why) (subst (λ m. Stops m why) (end_says st old text says) stops_so))

    -- a line was handed out
    module _ (next : IsNextLine old new (left i) (left j)) where
      abbrev more : List ℕ
      more = text_more left faults first i j old new text is reads next

      pub says_more : (st : Standing) (m : Result Standing Refused) → Says (Ok st) old text → after_line st new.number new.line ≡ m → Says m new more
      says_more st m says goes rest none =
          ap (λ m. m >>= λ after. verdict_from after (new.number + 1) (lines_of rest)) (sym goes)
          ∙ line_first left faults first i j old new text is reads next (verdict_from st) verdict says rest none

      pub line_halts : (st : Standing) → Says (Ok st) old text → (why : Stop) → Stops (after_line st new.number new.line) why → Halts left faults first new j (Stopped why)
      line_halts st says why stops_so = inl (
        more,
        read_more left faults first i j old new text is reads next,
        λ rest none. subst (λ m. Stops m why) (says_more st _ says refl rest none) (stops_on _ _ why stops_so),
      )

pub says_unfinished : (o : Opened) (s : Stream) (text : List ℕ) → awaits_from o.judge.awaits ≡ false → Says (standing_after o s.number) s text → Says (Ok (standing_of o)) s text
says_unfinished o s text not_whole says = subst (λ m. Says m s text) (open_after o s.number not_whole) says

-- what a line does, by its number and its bytes
module _ (st : Standing) {number n : ℕ} {line l : List ℕ} (number_is : number ≡ n) (line_is : line ≡ l) where
  moved : (P : ℕ → List ℕ → Type 0) → P number line → P n l
  moved P holds = subst (P n) line_is (subst (λ n. P n line) number_is holds)

  pub opening_stops : (r : Result Opened Stop) (why : Stop) → GoesOn (after_line st number line) number r → r ≡ Err why → Stops (after_line st n l) why
  opening_stops r why goes was = moved (λ n l. Stops (after_line st n l) why) (subst (GoesOn (after_line st number line) number) was goes)

  pub opening_goes : (r : Result Opened Stop) (o : Opened) → GoesOn (after_line st number line) number r → r ≡ Ok o → after_line st n l ≡ standing_after o n
  opening_goes r o goes was = moved (λ n l. after_line st n l ≡ standing_after o n) (subst (GoesOn (after_line st number line) number) was goes)

  pub chain_stops : (new : Standing) (r : Result (Unit {0}) Stop) (why : Stop) → Moves (after_line st number line) new r → r ≡ Err why → Stops (after_line st n l) why
  chain_stops new r why moves was = moved (λ n l. Stops (after_line st n l) why) (subst (Moves (after_line st number line) new) was moves)

  pub chain_moves : (new : Standing) (r : Result (Unit {0}) Stop) (done : Unit {0}) → Moves (after_line st number line) new r → r ≡ Ok done → after_line st n l ≡ Ok new
  chain_moves new r done moves was = moved (λ n l. after_line st n l ≡ Ok new) (subst (Moves (after_line st number line) new) was moves)

-- the source is whole, and the chain begins
whole_states : (o : Opening) (number : ℕ) (a : Awaits) → awaits_from a ≡ true → opened o number a ≡ stated_by o number (source_lines o.source)
whole_states o number awaits.First whole = absurd (cc)
whole_states o number (awaits.Count rules) whole = absurd (cc)
whole_states o number (awaits.Source rules n) whole = absurd (cc)
whole_states o number (awaits.From rules) whole = refl
whole_states o number (awaits.Log rules) whole = absurd (cc)
whole_states o number awaits.Next whole = absurd (cc)
whole_states o number (awaits.Nothing f) whole = absurd (cc)

pub chain_says : (o : Opened) (s : Stream) (text : List ℕ) (p : Stated) (chain : Standing) (number : ℕ) (r : Result Stated Stop) → awaits_from o.judge.awaits ≡ true → number ≡ s.number → States o number r → r ≡ Ok p
    → chain ≡ record { awaits = o.judge.awaits; held = Runs (running_on o.source p) } → Says (standing_after o s.number) s text → Says (Ok chain) s text
chain_says o s text p chain number r whole number_is states was is says =
    let said : States o s.number (Ok p) = subst (λ n. States o n (Ok p)) number_is (subst (States o number) was states) in
    subst (λ m. Says m s text) (ap (λ held. held >>= λ held. Ok record { awaits = o.judge.awaits; held = held }) (whole_states (opening_of o) s.number o.judge.awaits whole ∙ said) ∙ ap Ok (sym is)) says

module _ {S : Type 0} (left : S → Option (List ℕ)) (faults : S → ℕ) (first : S) (s : Stream) (input : S) where
  -- judging halted
  pub opens_halted : (r : Result Opened Halt) (h : Halt) → IsErrAnd r (λ halt. halt ≡ h) → Halts left faults first s input h → Opens left faults first s input r
  opens_halted (Ok o) h given halts = absurd given
  opens_halted (Err halt) h given halts = subst (Halts left faults first s input) (sym given) halts

  pub judges_halted : (r : Result ℕ Halt) (h : Halt) → IsErrAnd r (λ halt. halt ≡ h) → Halts left faults first s input h → Judges left faults first s input r
  judges_halted (Ok designs) h given halts = absurd given
  judges_halted (Err halt) h given halts = subst (Halts left faults first s input) (sym given) halts
