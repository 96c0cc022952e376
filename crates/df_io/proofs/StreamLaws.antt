-- The steps of a reading line by line, put together.
use Rattle.std.proofs.Common.{◌≡◌, ℕ, ◌+◌, ◌<◌, ◌≤◌, ◌++◌, Bool, is_some, true, false, List, [], ◌∷◌, length, None, Some, Ok, Err, Result, refl, sym, ap, subst, ◌∙◌, append_assoc, append-nil, arith, length-append, not}
use Rattle.std.specs.declared.option.Option.{Option}
use Rattle.std.specs.Option.{IsSome}
use Rattle.std.specs.Io.KnownBytes.{Consumes, IsAtEnd, prepend_known}
use Rattle.std.proofs.KnownBytes.{Consumes-trans, Consumes-nil}
use Rattle.std.proofs.lemmas.List.Elements.{All-append}
use Rattle.df_io.specs.declared.bytes.ReadError.{ReadError}
use Rattle.df_io.specs.declared.bytes.ReadError.TheVariants.{ReadFault, TooLong, OutOfMemory}
use Rattle.df_io.specs.Joined.{Lacks, is_line_feed, Moves}
use Rattle.df_io.specs.Streams.{Stream, Ending, Reads, Takes, IsNextLine, IsLastLine, line_end, to_come}
use Rattle.df_io.specs.LineSteps.{Fills, Finds, Searches, Passes}

pub ended_not : {A : Type 0} (o : Option A) → o ≡ None → IsSome o → ⊥
ended_not None none some = absurd (cc)
ended_not (Some x) none some = absurd (cc)

pub none_of : {A : Type 0} (o : Option A) (b : Bool) → is_some o ≡ not b → b ≡ true → o ≡ None
none_of None b is test = refl
none_of (Some x) true is test = absurd (cc)
none_of (Some x) false is test = absurd (cc)

-- two readings that agree in what is read of the source
pub record Agree (s t : Stream) : Type 0 where
  pub limit : s.limit ≡ t.limit
  pub taken : s.taken ≡ t.taken
  pub ended : s.ended ≡ t.ended

pub reads_as : {S : Type 0} (left : S → Option (List ℕ)) (faults : S → ℕ) (a b c : Stream) (i j : S) → Agree c b → Reads left faults a b i j → Reads left faults a c i j
reads_as left faults a b c i j same reads = record {
  limit = same.limit ∙ reads.limit;
  takes = record { bytes = reads.takes.bytes; consumed = reads.takes.consumed; counted = same.taken ∙ reads.takes.counted };
  fault = λ none is. reads.fault none (sym same.ended ∙ is);
  later = reads.later;
  again = λ some. same.ended ∙ reads.again some;
  unread = reads.unread;
}

pub reads_then : {S : Type 0} (left : S → Option (List ℕ)) (faults : S → ℕ) (a b c : Stream) (i j k : S) → b.ended ≡ None → Reads left faults a b i j → Reads left faults b c j k → Reads left faults a c i k
reads_then left faults a b c i j k still first second =
    let idle : IsSome a.ended → ⊥ = λ some. ended_not b.ended still (subst IsSome (sym (first.again some)) some) in record {
      limit = second.limit ∙ first.limit;
      takes = record {
        bytes = first.takes.bytes ++ second.takes.bytes;
        consumed = Consumes-trans (left i) (left j) (left k) first.takes.bytes second.takes.bytes first.takes.consumed second.takes.consumed;
        counted = omega (arith, first.takes.counted, second.takes.counted, length-append first.takes.bytes second.takes.bytes);
      };
      fault = λ none is. let later = first.later in let rose = second.fault still is in omega (arith, later, rose);
      later = omega (arith, first.later, second.later);
      again = λ some. absurd (idle some);
      unread = λ some. absurd (idle some);
    }

-- the bytes at the front of those ahead were handed out
pub handed : (left : Option (List ℕ)) (old new front : List ℕ) → old ≡ front ++ new → Consumes (prepend_known old left) (prepend_known new left) front
handed None old new front is = tt
handed (Some xs) old new front is = ap (λ l. l ++ xs) is ∙ append_assoc front new xs

-- bytes were taken, none having been ahead
pub refilled : (left left_new : Option (List ℕ)) (new : List ℕ) → Consumes left left_new new → Consumes (prepend_known [] left) (prepend_known new left_new) []
refilled None left_new new taken = tt
refilled (Some xs) None new taken = absurd taken
refilled (Some xs) (Some ys) new taken = taken

pub passes_then : {S : Type 0} (left : S → Option (List ℕ)) (faults : S → ℕ) (a b m c : Stream) (i j k : S) → Agree m b → m.ended ≡ None → Passes left faults a b i j → Fills left faults m c j k → Passes left faults a c i k
passes_then left faults a b m c i j k same still before fills = record {
  reads = reads_then left faults a m c i j k still (reads_as left faults a b m i j same before.reads) fills.reads;
  end = λ none is. fills.end is;
  memory = λ is. absurd (fills.memory is);
}

-- the line feed was found
pub finds : {S : Type 0} (left : S → Option (List ℕ)) (faults : S → ℕ) (a b c : Stream) (i j : S) → Agree c b → b.ended ≡ None → c.number ≡ b.number → Searches left faults a b i j → Moves (10 ∷ []) b.ahead c.ahead b.line c.line → Finds left faults a c i j
finds left faults a b c i j same still number before moves =
    let none : c.ended ≡ None = same.ended ∙ still in
    let end : line_end c.ended ≡ 10 ∷ [] = ap line_end none in
    let line : c.line ++ line_end c.ended ≡ b.line ++ (moves.bytes ++ 10 ∷ []) =
    ap (λ l. c.line ++ l) end ∙ ap (λ l. l ++ 10 ∷ []) moves.line_is ∙ append_assoc b.line moves.bytes (10 ∷ []) in
    let text : b.ahead ≡ (moves.bytes ++ 10 ∷ []) ++ c.ahead = moves.text ∙ sym (append_assoc moves.bytes (10 ∷ []) c.ahead) in record {
      reads = reads_as left faults a b c i j same before.reads;
      number = number ∙ before.number;
      plain = subst (Lacks is_line_feed) (sym moves.line_is) (All-append (λ x. is_line_feed x ≡ false) b.line moves.bytes before.plain moves.plain);
      given = subst (Consumes (to_come a (left i)) (to_come c (left j))) (sym line) (Consumes-trans _ _ _ _ _ before.given (handed (left j) b.ahead c.ahead (moves.bytes ++ 10 ∷ []) text));
      counted = omega (arith, before.counted, same.taken, ap length line, ap length text, length-append b.line (moves.bytes ++ 10 ∷ []), length-append (moves.bytes ++ 10 ∷ []) c.ahead);
      end = λ was is. absurd (cc);
      none = λ was is. absurd (cc);
      idle = λ some. absurd (ended_not b.ended still (subst IsSome (sym (before.reads.again some)) some));
    }

-- all bytes ahead were added to the line, and the next ones taken
pub searches_on : {S : Type 0} (left : S → Option (List ℕ)) (faults : S → ℕ) (a b m c : Stream) (i j k : S) → Agree m b → m.ended ≡ None → m.number ≡ b.number → m.ahead ≡ [] → Searches left faults a b i j
    → Moves [] b.ahead m.ahead b.line m.line → Fills left faults m c j k → Searches left faults a c i k
searches_on left faults a b m c i j k same still number empty before moves fills =
    let line : c.line ≡ b.line ++ moves.bytes = fills.line ∙ moves.line_is in
    let fed : Consumes (to_come m (left j)) (to_come c (left k)) [] = subst (λ l. Consumes (prepend_known l (left j)) (to_come c (left k)) []) (sym empty) (refilled (left j) (left k) c.ahead fills.given) in
    let moved = Consumes-trans _ _ _ _ _ (handed (left j) b.ahead m.ahead moves.bytes moves.text) fed in
    let whole = Consumes-trans _ _ _ _ _ before.given moved in
    let text : b.line ++ (moves.bytes ++ []) ≡ c.line = ap (λ l. b.line ++ l) (append-nil moves.bytes) ∙ sym line in record {
      reads = reads_then left faults a m c i j k still (reads_as left faults a b m i j same before.reads) fills.reads;
      number = fills.number ∙ number ∙ before.number;
      plain = subst (Lacks is_line_feed) (sym line) (All-append (λ x. is_line_feed x ≡ false) b.line moves.bytes before.plain moves.plain);
      given = subst (Consumes (to_come a (left i)) (to_come c (left k))) text whole;
      counted = omega (arith, before.counted, same.taken, fills.counted, ap length line, ap length moves.text, ap length empty, length-append b.line moves.bytes, length-append moves.bytes m.ahead);
      end = λ was is. fills.end is;
      none = λ was is. fills.none is;
      idle = λ some. absurd (ended_not b.ended (sym same.ended ∙ still) (subst IsSome (sym (before.reads.again some)) some));
    }

-- there was no memory for the line
pub searches_stopped : {S : Type 0} (left : S → Option (List ℕ)) (faults : S → ℕ) (a b c : Stream) (i j : S) → b.ended ≡ None → c.ended ≡ Some (Err OutOfMemory) → c.limit ≡ b.limit → c.taken ≡ b.taken → c.number ≡ b.number → c.ahead ≡ b.ahead → c.line ≡ b.line
    → Searches left faults a b i j → Searches left faults a c i j
searches_stopped left faults a b c i j still stopped limit taken number ahead line before =
    let idle : IsSome a.ended → ⊥ = λ some. ended_not b.ended still (subst IsSome (sym (before.reads.again some)) some) in record {
      reads = record {
        limit = limit ∙ before.reads.limit;
        takes = record { bytes = before.reads.takes.bytes; consumed = before.reads.takes.consumed; counted = taken ∙ before.reads.takes.counted };
        fault = λ none is. absurd (cc);
        later = before.reads.later;
        again = λ some. absurd (idle some);
        unread = λ some. absurd (idle some);
      };
      number = number ∙ before.number;
      plain = subst (Lacks is_line_feed) (sym line) before.plain;
      given = subst (λ l. Consumes (to_come a (left i)) (prepend_known l (left j)) c.line) (sym ahead) (subst (Consumes (to_come a (left i)) (to_come b (left j))) (sym line) before.given);
      counted = omega (arith, before.counted, taken, ap length line, ap length ahead);
      end = λ was is. absurd (cc);
      none = λ was is. absurd (cc);
      idle = λ some. absurd (idle some);
    }
