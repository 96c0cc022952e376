-- Texts that are gathered one after the other.
use Rattle.std.proofs.Common.{◌≡◌, ℕ, List, [], ◌++◌, Ok, Err, Result, refl, sym, subst, ap, ◌∙◌, arith, append-nil, append_assoc}
use Rattle.std.specs.declared.option.Option.{Option}
use Rattle.std.specs.Result.{IsErr}
use Rattle.std.proofs.KnownBytes.{Appends-nil, Appends-trans}
use Rattle.df_io.specs.Writing.{Writes}
use Rattle.df_io.specs.declared.bytes.WriteFault.{WriteFault}
use Rattle.df_io.proofs.Writing.{writes_as, writes_stopped, writes_then}
use Rattle.df_tell.specs.Gathered.{Gathers}

-- a text is what it equals
pub gathers_as : {K : Type 0} {w : K → Option (List ℕ)} {f : K → ℕ} {a b : K} {g h s t : List ℕ} {r : Result (Unit {0}) WriteFault} → s ≡ t → Gathers w f a b g h s r → Gathers w f a b g h t r
gathers_as {w = w} {f = f} {a = a} {b = b} {g = g} {h = h} {r = r} is gathers = subst (λ l. Gathers w f a b g h l r) is gathers

-- a text was put into the buffer
pub gathers_put : {K : Type 0} {w : K → Option (List ℕ)} {f : K → ℕ} {a : K} {g h s : List ℕ} → h ≡ g ++ s → Gathers w f a a g h s (Ok tt)
gathers_put {w = w} {a = a} is = record {
  all = record { front = []; joined = sym is; appends = Appends-nil (w a) };
  prefix = tt;
  fault = tt;
  later = omega arith;
}

-- nothing was gathered
pub gathers_nothing : {K : Type 0} {w : K → Option (List ℕ)} {f : K → ℕ} {a : K} {g : List ℕ} → Gathers w f a a g g [] (Ok tt)
gathers_nothing {g = g} = gathers_put (sym (append-nil g))

-- what was gathered was written, and the buffer is empty then
pub gathers_written : {K : Type 0} {w : K → Option (List ℕ)} {f : K → ℕ} {a b : K} {g : List ℕ} → Writes w f a b g (Ok tt) → Gathers w f a b g [] [] (Ok tt)
gathers_written {g = g} written = record {
  all = record { front = g; joined = refl; appends = written.all };
  prefix = tt;
  fault = tt;
  later = written.later;
}

-- or the sink failed
pub gathers_failed : {K : Type 0} {w : K → Option (List ℕ)} {f : K → ℕ} {a b : K} {g h : List ℕ} {e : WriteFault} {r : Result (Unit {0}) WriteFault} → Writes w f a b g (Err e) → IsErr r → Gathers w f a b g h [] r
gathers_failed {r = Ok x} written err = absurd (cc)
gathers_failed {r = Err d} written err =
    let stopped = writes_stopped {r = Err d} [] written err in record {
      all = tt;
      prefix = stopped.prefix;
      fault = stopped.fault;
      later = stopped.later;
    }

-- two texts after the same bytes
joined_then : (g s front h t back i : List ℕ) → g ++ s ≡ front ++ h → h ++ t ≡ back ++ i → g ++ (s ++ t) ≡ (front ++ back) ++ i
joined_then g s front h t back i first second =
    sym (append_assoc g s t) ∙ ap (λ l. l ++ t) first ∙ append_assoc front h t ∙ ap (λ l. front ++ l) second ∙ sym (append_assoc front back i)

joined_more : (g s front h t : List ℕ) → g ++ s ≡ front ++ h → front ++ (h ++ t) ≡ g ++ (s ++ t)
joined_more g s front h t first = sym (append_assoc front h t) ∙ ap (λ l. l ++ t) (sym first) ∙ append_assoc g s t

-- a text that was gathered whole, and then a text: the answer is the second's
pub gathers_then : {K : Type 0} {w : K → Option (List ℕ)} {f : K → ℕ} {a b c : K} {g h i s t : List ℕ} {r : Result (Unit {0}) WriteFault} → Gathers w f a b g h s (Ok tt) → Gathers w f b c h i t r → Gathers w f a c g i (s ++ t) r
gathers_then {g = g} {h = h} {i = i} {s = s} {t = t} {r = Ok y} first second =
    let one = first.all in
    let two = second.all in record {
      all = record {
        front = one.front ++ two.front;
        joined = joined_then g s one.front h t two.front i one.joined two.joined;
        appends = Appends-trans _ _ _ one.front two.front one.appends two.appends;
      };
      prefix = tt;
      fault = tt;
      later = omega (arith, first.later, second.later);
    }
gathers_then {w = w} {f = f} {a = a} {b = b} {c = c} {g = g} {h = h} {s = s} {t = t} {r = Err e} first second =
    let one = first.all in
    let before : Writes w f a b one.front (Ok tt) = record { all = one.appends; prefix = tt; fault = tt; later = first.later } in
    let after : Writes w f b c (h ++ t) (Err e) = record { all = tt; prefix = second.prefix; fault = second.fault; later = second.later } in
    let both = writes_as (joined_more g s one.front h t one.joined) (writes_then before after) in record {
      all = tt;
      prefix = both.prefix;
      fault = both.fault;
      later = both.later;
    }

-- a text that was stopped stops every text that begins with it
pub gathers_stopped : {K : Type 0} {w : K → Option (List ℕ)} {f : K → ℕ} {a b : K} {g h i s : List ℕ} {e : WriteFault} {r : Result (Unit {0}) WriteFault} (t : List ℕ) → Gathers w f a b g h s (Err e) → IsErr r → Gathers w f a b g i (s ++ t) r
gathers_stopped {r = Ok x} t stopped err = absurd (cc)
gathers_stopped {w = w} {f = f} {a = a} {b = b} {g = g} {s = s} {e = e} {r = Err d} t stopped err =
    let front : Writes w f a b (g ++ s) (Err e) = record { all = tt; prefix = stopped.prefix; fault = stopped.fault; later = stopped.later } in
    let more = writes_as (append_assoc g s t) (writes_stopped {r = Err d} t front err) in record {
      all = tt;
      prefix = more.prefix;
      fault = more.fault;
      later = more.later;
    }

-- and so does a text that was stopped after one that was gathered whole
pub gathers_stopped_then : {K : Type 0} {w : K → Option (List ℕ)} {f : K → ℕ} {a b c : K} {g h i j s t : List ℕ} {e : WriteFault} {r : Result (Unit {0}) WriteFault} (u : List ℕ) → Gathers w f a b g h s (Ok tt) → Gathers w f b c h i t (Err e) → IsErr r → Gathers w f a c g j (s ++ (t ++ u)) r
gathers_stopped_then {w = w} {f = f} {a = a} {c = c} {g = g} {j = j} {s = s} {t = t} {r = r} u before stopped err =
    subst (λ l. Gathers w f a c g j l r) (append_assoc s t u) (gathers_stopped u (gathers_then before stopped) err)

-- a text that was gathered from an empty buffer on and written whole, or stopped
pub written_whole : {K : Type 0} {w : K → Option (List ℕ)} {f : K → ℕ} {a b c : K} {h i s : List ℕ} → Gathers w f a b [] h s (Ok tt) → Gathers w f b c h i [] (Ok tt) → i ≡ [] → Writes w f a c s (Ok tt)
written_whole {w = w} {f = f} {a = a} {c = c} {h = h} {i = i} {s = s} first second empty =
    let both = gathers_then first second in
    let all = both.all in
    let is : all.front ≡ s = sym (append-nil all.front) ∙ ap (λ l. all.front ++ l) (sym empty) ∙ sym all.joined ∙ append-nil s in
    writes_as is (record { all = all.appends; prefix = tt; fault = tt; later = both.later })

pub written_stopped : {K : Type 0} {w : K → Option (List ℕ)} {f : K → ℕ} {a b : K} {h s : List ℕ} {e : WriteFault} {r : Result (Unit {0}) WriteFault} → Gathers w f a b [] h s (Err e) → IsErr r → Writes w f a b s r
written_stopped {w = w} {f = f} {a = a} {b = b} {s = s} {e = e} stopped err =
    let front : Writes w f a b s (Err e) = record { all = tt; prefix = stopped.prefix; fault = stopped.fault; later = stopped.later } in
    writes_as (append-nil s) (writes_stopped [] front err)

pub written_late : {K : Type 0} {w : K → Option (List ℕ)} {f : K → ℕ} {a b c : K} {h i s : List ℕ} {e : WriteFault} {r : Result (Unit {0}) WriteFault} → Gathers w f a b [] h s (Ok tt) → Gathers w f b c h i [] (Err e) → IsErr r → Writes w f a c s r
written_late {s = s} first second err = writes_as (append-nil s) (written_stopped (gathers_then first second) err)
