-- A source that is read line by line: a line more, the end, a stop, and the rest of the input behind a line.
use Rattle.std.proofs.Common.{◌≡◌, ℕ, ◌+◌, ◌-◌, ◌<◌, ◌≤◌, ◌++◌, false, List, [], ◌∷◌, length, None, Some, Ok, Err, refl, sym, ap, subst, ◌∙◌, append_assoc, append-nil, arith, length-append}
use Rattle.std.specs.declared.option.Option.{Option}
use Rattle.std.specs.Option.{IsSome}
use Rattle.std.specs.Io.KnownBytes.{Consumes, IsAtEnd, prepend_known}
use Rattle.std.proofs.KnownBytes.{Consumes-trans, Consumes-nil}
use Rattle.df_io.specs.declared.bytes.ReadError.{ReadError}
use Rattle.df_io.specs.declared.bytes.ReadError.TheVariants.{ReadFault, TooLong, OutOfMemory}
use Rattle.df_io.specs.declared.bytes.TheConstants.{MOST_BYTES}
use Rattle.df_io.specs.Causes.{ConsumesAtMost}
use Rattle.df_io.specs.Lines.{lines_of, onto_line}
use Rattle.df_io.specs.Joined.{Lacks, is_line_feed}
use Rattle.df_io.specs.Streams.{Stream, Ending, Reads, IsStream, IsNextLine, IsNoLine, is_too_long, line_end, to_come, new_stream}
use Rattle.df_io.proofs.Joining.{line_front, lacks_first, lacks_rest}
use Rattle.df_io.proofs.StreamLaws.{ended_not}
use Rattle.df_dossier.specs.StreamReads.{HasEnded, IsRead, HoldsOfAll, EndsEarly}
use Rattle.df_dossier.specs.SpentStreams.{ReadsAll}

-- a line without line feed, some byte long, is the one line of its bytes
last_line : (line : List ℕ) → Lacks is_line_feed line → 0 < length line → lines_of line ≡ line ∷ []
last_line [] lacks some = absurd (omega (arith, some))
last_line (b ∷ []) lacks some = rw (lacks_first is_line_feed b [] lacks) refl
last_line (b ∷ c ∷ bs) lacks some =
    rw (lacks_first is_line_feed b (c ∷ bs) lacks) (ap (onto_line b) (last_line (c ∷ bs) (lacks_rest is_line_feed b (c ∷ bs) lacks) (omega arith)))

-- a line that was handed out is the first of its bytes and those after it
lines_next : (line rest : List ℕ) (e : Option Ending) → Lacks is_line_feed line → (IsSome e → 0 < length line) → (IsSome e → rest ≡ []) → lines_of ((line ++ line_end e) ++ rest) ≡ line ∷ lines_of rest
lines_next line rest None lacks some none = ap lines_of (append_assoc line (10 ∷ []) rest) ∙ line_front line rest lacks
lines_next line rest (Some e) lacks some none =
    let empty : rest ≡ [] = none refl in
    ap (λ r. lines_of ((line ++ []) ++ r)) empty ∙ ap lines_of (append-nil (line ++ []) ∙ append-nil line) ∙ last_line line lacks (some refl) ∙ ap (λ r. line ∷ lines_of r) (sym empty)

-- the bytes ahead, and then those that were taken
ahead_taken : (ahead : List ℕ) (left left_new : Option (List ℕ)) (bytes : List ℕ) → Consumes left left_new bytes → Consumes (prepend_known ahead left) left_new (ahead ++ bytes)
ahead_taken ahead None left_new bytes taken = tt
ahead_taken ahead (Some xs) None bytes taken = absurd taken
ahead_taken ahead (Some xs) (Some ys) bytes taken = ap (λ l. ahead ++ l) taken ∙ sym (append_assoc ahead bytes ys)

-- where nothing is to come, what was handed out is all that was left
all_given : (first come new : Option (List ℕ)) (text bytes : List ℕ) → Consumes first come text → IsAtEnd come → Consumes come new bytes → IsAtEnd new → Consumes first new text
all_given None come new text bytes given end taken end_new = tt
all_given (Some xs) None new text bytes given end taken end_new = absurd given
all_given (Some xs) (Some ys) None text bytes given end taken end_new = absurd taken
all_given (Some xs) (Some ys) (Some zs) text bytes given end taken end_new = given ∙ ap (λ l. text ++ l) (end ∙ sym end_new)

not_long : (o : Option Ending) → (IsSome o → o ≡ Some (Ok tt)) → is_too_long o ≡ false
not_long None last = refl
not_long (Some e) last = ap is_too_long (last refl)

still : (old new : Option Ending) (e : ReadError) → (IsSome old → old ≡ Some (Ok tt)) → (IsSome old → new ≡ old) → new ≡ Some (Err e) → old ≡ None
still None new e last again is = refl
still (Some o) new e last again is = let fine = last refl in let same = again refl in absurd (cc)

end_of_none : (ahead : List ℕ) (left : Option (List ℕ)) → ahead ≡ [] → IsAtEnd left → IsAtEnd (prepend_known ahead left)
end_of_none ahead None none end = tt
end_of_none ahead (Some xs) none end = ap (λ l. l ++ xs) none ∙ end

start_given : (left : Option (List ℕ)) → Consumes left (prepend_known [] left) []
start_given None = tt
start_given (Some xs) = refl

module _ {S : Type 0} (left : S → Option (List ℕ)) (faults : S → ℕ) where
  pub start_read : (first : S) (s : Stream) → s ≡ new_stream MOST_BYTES → IsRead left faults first s first []
  start_read first s is = subst (λ s. IsRead left faults first s first []) (sym is) (record {
    given = start_given (left first);
    counted = refl;
    limit = refl;
    later = omega arith;
    last = λ some. absurd (cc);
  })

  -- what was taken so far keeps to the limit
  pub read_at_most : (first : S) (s : Stream) (input : S) (text : List ℕ) → IsRead left faults first s input text → IsStream s → ConsumesAtMost (left first) (left input) MOST_BYTES
  read_at_most first s input text is keeps =
      let few = keeps.short (not_long s.ended (λ some. (is.last some).ended)) in (
        text ++ (s.ahead ++ []),
        Consumes-trans _ _ _ _ _ is.given (ahead_taken s.ahead (left input) (left input) [] (Consumes-nil (left input))),
        omega (arith, is.counted, is.limit, few, length-append text (s.ahead ++ []), length-append s.ahead []),
      )

  module _ (first i j : S) (old new : Stream) (text : List ℕ) (is : IsRead left faults first old i text) (reads : Reads left faults old new i j) where
    abbrev bytes : List ℕ
    bytes = text ++ (old.ahead ++ reads.takes.bytes)

    all_taken : Consumes (left first) (left j) bytes
    all_taken = Consumes-trans _ _ _ _ _ is.given (ahead_taken old.ahead (left i) (left j) reads.takes.bytes reads.takes.consumed)

    all_counted : length bytes ≡ new.taken
    all_counted = omega (arith, is.counted, reads.takes.counted, length-append text (old.ahead ++ reads.takes.bytes), length-append old.ahead reads.takes.bytes)

    within : IsStream new → is_too_long new.ended ≡ false → new.taken ≤ MOST_BYTES
    within keeps short = let few = keeps.short short in omega (arith, few, reads.limit, is.limit)

    -- the reading ended before the input did
    pub stops : IsStream new → (e : ReadError) → new.ended ≡ Some (Err e) → EndsEarly (left first) (left j) (faults first) (faults j) e
    stops keeps ReadFault ended =
        let none = still old.ended new.ended ReadFault (λ some. (is.last some).ended) reads.again ended in
        let rose = reads.fault none ended in
        ((bytes, all_taken, omega (arith, all_counted, within keeps (ap is_too_long ended))), omega (arith, is.later, rose))
    stops keeps TooLong ended =
        let long = keeps.long (ap is_too_long ended) in
        (bytes, all_taken, omega (arith, all_counted, long, reads.limit, is.limit))
    stops keeps OutOfMemory ended = (bytes, all_taken, omega (arith, all_counted, within keeps (ap is_too_long ended)))

    pub grows : faults first ≤ faults j
    grows = omega (arith, is.later, reads.later)

    -- no line is left
    no_more : (o : Option Ending) → old.ended ≡ o → IsNoLine old new (left i) (left j) → IsAtEnd (to_come old (left i)) × IsAtEnd (left j)
    no_more None none nothing = (nothing.none none, nothing.end none)
    no_more (Some e) some nothing =
        let ended : IsSome old.ended = subst IsSome (sym some) refl in
        let last = is.last ended in
        (end_of_none old.ahead (left i) last.none last.end, subst (λ k. IsAtEnd (left k)) (sym (reads.unread ended)) last.end)

    pub ends : IsStream new → IsNoLine old new (left i) (left j) → (P : List ℕ → Type 0) → P text → ReadsAll (left first) (left j) P
    ends keeps nothing P holds =
        let at_end = no_more old.ended refl nothing in
        let few = within keeps (ap is_too_long nothing.ended) in (
          text,
          all_given (left first) (to_come old (left i)) (left j) text _ is.given at_end.0 (ahead_taken old.ahead (left i) (left j) reads.takes.bytes reads.takes.consumed) at_end.1,
          at_end.1,
          omega (arith, is.counted, reads.takes.counted, few),
          holds,
        )

    pub taken_at_most : IsStream new → IsNoLine old new (left i) (left j) → ConsumesAtMost (left first) (left j) MOST_BYTES
    taken_at_most keeps nothing = (bytes, all_taken, omega (arith, all_counted, within keeps (ap is_too_long nothing.ended)))

    -- the rest was read, and not kept
    passed : (o : Option Ending) → old.ended ≡ o → IsStream old → IsStream new → new.ended ≡ Some (Ok tt) → (old.ended ≡ None → IsAtEnd (left j)) → (P : List ℕ → Type 0) → HoldsOfAll old text P → ReadsAll (left first) (left j) P
    passed None none keeps_old keeps ended end P holds =
        (bytes, all_taken, end none, omega (arith, all_counted, within keeps (ap is_too_long ended)), holds (old.ahead ++ reads.takes.bytes) (λ some. absurd (ended_not old.ended none some)))
    passed (Some e) some keeps_old keeps ended end P holds =
        let was : IsSome old.ended = subst IsSome (sym some) refl in
        let last = is.last was in
        let few = keeps_old.short (ap is_too_long last.ended) in
        let at_end = subst (λ k. IsAtEnd (left k)) (sym (reads.unread was)) last.end in (
          text ++ [],
          subst (Consumes (left first) (left j)) (sym (append-nil text)) (all_given (left first) (to_come old (left i)) (left j) text _ is.given (end_of_none old.ahead (left i) last.none last.end) (ahead_taken old.ahead (left i) (left j) reads.takes.bytes reads.takes.consumed) at_end),
          at_end,
          omega (arith, is.counted, is.limit, few, ap length (append-nil text)),
          holds [] (λ some. refl),
        )

    pub passes : IsStream old → IsStream new → new.ended ≡ Some (Ok tt) → (old.ended ≡ None → IsAtEnd (left j)) → (P : List ℕ → Type 0) → HoldsOfAll old text P → ReadsAll (left first) (left j) P
    passes = passed old.ended refl

    -- a line was handed out
    module _ (next : IsNextLine old new (left i) (left j)) where
      abbrev pub text_more : List ℕ
      text_more = text ++ (new.line ++ line_end new.ended)

      pub read_more : IsRead left faults first new j text_more
      read_more = record {
        given = Consumes-trans _ _ _ _ _ is.given next.given;
        counted = omega (arith, is.counted, next.counted, length-append text (new.line ++ line_end new.ended));
        limit = reads.limit ∙ is.limit;
        later = grows;
        last = λ some. let whole = next.whole some in record { ended = whole.ended; none = whole.none; end = whole.end };
      }

      -- the numbers of lines stay below the limit
      pub counts : IsStream new → MOST_BYTES + 1 - new.number < MOST_BYTES + 1 - old.number
      counts keeps =
          let few = keeps.short (not_long new.ended (λ some. (next.whole some).ended)) in
          omega (arith, few, keeps.counted, next.number, reads.limit, is.limit)

      -- what is answered of the lines to come from a number on, in any words, is what is meant of all bytes
      pub line_first : {A : Type 0} → (says : ℕ → List (List ℕ) → A) (meant : List ℕ → A) → ((rest : List ℕ) → (IsSome old.ended → rest ≡ []) → says (old.number + 1) (lines_of rest) ≡ meant (text ++ rest))
          → (rest : List ℕ) → (IsSome new.ended → rest ≡ []) → says new.number (new.line ∷ lines_of rest) ≡ meant (text_more ++ rest)
      line_first says meant before rest none =
          let first_of = lines_next new.line rest new.ended next.plain (λ some. (next.whole some).some) none in
          ap (λ n. says n (new.line ∷ lines_of rest)) next.number
          ∙ ap (says (old.number + 1)) (sym first_of)
          ∙ before ((new.line ++ line_end new.ended) ++ rest) (λ some. absurd (ended_not old.ended next.not_ended some))
          ∙ ap meant (sym (append_assoc text (new.line ++ line_end new.ended) rest))

      -- no memory was left for what the line says
      pub no_memory : IsStream new → ConsumesAtMost (left first) (left j) MOST_BYTES
      no_memory keeps = read_at_most first new j text_more read_more keeps
