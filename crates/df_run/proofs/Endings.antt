-- How a run ends by what its writer did.
use Rattle.std.proofs.Common.{◌≡◌, ℕ, Bool, List, Option, Some, None, Ok, Err, Result, IfOk, IsSome, is_ok, cond, inl, inr, refl, ap, ◌∙◌, subst}
use Rattle.df_io.specs.Writing.{Writes}
use Rattle.df_io.specs.declared.bytes.WriteFault.{WriteFault}
use Rattle.df_walk.specs.declared.Rules.{Rules}
use Rattle.df_runs.specs.Runs.{Run}
use Rattle.df_lang.specs.Problems.{Stated}
use Rattle.df_tell.specs.Run.{run_text, run_end, as_written}
use Rattle.df_tell.specs.Listing.{run_listing}
use Rattle.df_tell.specs.declared.run.RunEnd.{RunEnd}
use Rattle.df_words.specs.declared.command.Options.{Options}
use Rattle.df_run.specs.Answers.{shown_by, stop_status, run_answer, listing_answer}
use Rattle.df_run.specs.Statuses.{ran_status}
use Rattle.df_run.specs.Streams.{outgoing}
use Rattle.df_run.specs.Endings.{Replies}
use Rattle.df_run.specs.declared.statuses.Status.{Status}
use Rattle.df_run.specs.declared.statuses.Status.TheVariants as ends

-- a text was written, or the sink failed
pub replied : {K : Type 0} {w : K → Option (List ℕ)} {f : K → ℕ} {a b : K} {text : List ℕ} {r : Result (Unit {0}) WriteFault} {result : Status} (status : Status) → result ≡ cond (is_ok r) status ends.WriteFault
    → Writes w f a b text r → Replies record { status = status; text = text } (outgoing w f a b) result
replied {r = Ok x} status is written = inl (is, written.all)
replied {r = Err e} status is written = inr (is, written.fault, written.prefix)

-- the status of a run's end is that of its stop
pub stop_is : (stop : Option (List Bool)) → ran_status (Ok (run_end stop)) ≡ stop_status stop
stop_is None = refl
stop_is (Some q) = refl

-- the text of a run was written, or the sink failed
pub run_replied : {K : Type 0} {w : K → Option (List ℕ)} {f : K → ℕ} {a b : K} (rules : Rules) (s : Stated) (options : Options) (p : List Bool) (run : Run) (ran : Result RunEnd WriteFault) (result : Status) → result ≡ ran_status ran
    → Writes w f a b (run_text rules s (shown_by options) p run) (as_written ran) → IfOk ran (λ end. end ≡ run_end run.stop) → Replies (run_answer rules s options p run) (outgoing w f a b) result
run_replied rules s options p run (Ok end) result status written is = inl (status ∙ ap (λ e. ran_status (Ok e)) is ∙ stop_is run.stop, written.all)
run_replied rules s options p run (Err e) result status written is = inr (status, written.fault, written.prefix)

-- the listing of a run was written, or the sink failed
pub listing_replied : {K : Type 0} {w : K → Option (List ℕ)} {f : K → ℕ} {a b : K} {t : Result (Unit {0}) WriteFault} {result : Status} (s : Stated) (options : Options) (run : Run) (end : RunEnd) (status : Status) → end ≡ run_end run.stop → status ≡ ran_status (Ok end)
    → result ≡ cond (is_ok t) status ends.WriteFault → Writes w f a b (run_listing options.blocks s run) t → Replies (listing_answer s options run) (outgoing w f a b) result
listing_replied {w = w} {f = f} {a = a} {b = b} {result = result} s options run end status ended is told written =
    let same : status ≡ stop_status run.stop = is ∙ ap (λ e. ran_status (Ok e)) ended ∙ stop_is run.stop in
    subst (λ x. Replies record { status = x; text = run_listing options.blocks s run } (outgoing w f a b) result) same (replied status told written)

-- what is there is this
pub some_place : (o : Option (List Bool)) → IsSome o → (p : List Bool) × (o ≡ Some p)
some_place None some = absurd (cc)
some_place (Some p) some = (p, refl)
