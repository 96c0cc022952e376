use Rattle.std.proofs.Common.{rules, ◌≡◌, Err, Some, sym, ap, subst, ◌∙◌, arith}
use Rattle.df_check.specs.declared.stop.Stop.TheVariants.{OutOfMemory}
use Rattle.df_check.specs.declared.streams.Halt.TheVariants.{Stopped}
use Rattle.df_check.specs.Checks.{ReadsVerdict}
use Rattle.df_check.specs.Inputs.{Judges}
use Rattle.df_check.specs.Judging.{verdict}
use Rattle.df_check.specs.Stops.{Stops}
use Rattle.df_check.proofs.InputSteps.{halted_at_most, rest_read, rest_stops, refused_once_read, ended_early}
use Rattle.df_check.proofs.streams.check_stream.Goals as goal

-- no memory was left
pub returns-in-Err-Stopped-OutOfMemory-clause-given : goal.returns-in-Err-Stopped-OutOfMemory-clause-given
returns-in-Err-Stopped-OutOfMemory-clause-given g c =
    let j = c.judge-judged in
    let left = g.S.Source.left in
    let faults = g.S.Source.faults in
    let first = c.args.input.now in
    let same : j.result ≡ Err (Stopped OutOfMemory) = search rules in
    halted_at_most left faults first j.new.reading j.new.input (λ bytes. Stops (verdict bytes) OutOfMemory) c.keeps_limits.ensures (subst (Judges left faults first j.new.reading j.new.input) same j.ensures.judged)

-- what stopped it, once the rest was read
pub returns-in-Ok-rest : goal.returns-in-Ok-rest
returns-in-Ok-rest g c =
    let j = c.judge-judged in
    let f = c.finish-rest in
    let left = g.S.Source.left in
    let faults = g.S.Source.faults in
    let first = c.args.input.now in
    let why = c.in-Err-Stopped.stop in
    let same : j.result ≡ Err (Stopped why) = search rules in
    let halted = subst (Judges left faults first j.new.reading j.new.input) same j.ensures.judged in record {
      given = subst (ReadsVerdict (left first) (left f.new.input) (faults first) (faults f.new.input)) (sym c.refusal.ensures)
          (refused_once_read (left first) (left f.new.input) (faults first) (faults f.new.input) why
          (rest_read left faults first j.new.input f.new.input j.new.reading f.new.self f.ensures.reads c.keeps_limits.ensures c.keeps_limits-in-Err-Stopped.ensures (λ bytes. Stops (verdict bytes) why) halted (f.ensures.ended ∙ ap Some c.in-Ok-rest.is) c.in-Ok-rest.ensures.end));
      later = omega (arith, j.ensures.later, f.ensures.reads.later);
    }

-- the rest wasn't read to its end
pub returns : goal.returns
returns g c =
    let j = c.judge-judged in
    let f = c.finish-rest in
    let left = g.S.Source.left in
    let faults = g.S.Source.faults in
    let first = c.args.input.now in
    let why = c.in-Err-Stopped.stop in
    let same : j.result ≡ Err (Stopped why) = search rules in
    let halted = subst (Judges left faults first j.new.reading j.new.input) same j.ensures.judged in record {
      given = subst (λ r. ReadsVerdict (left first) (left f.new.input) (faults first) (faults f.new.input) (Err r)) (sym c.stopped-in-Err.ensures)
          (ended_early (left first) (left f.new.input) (faults first) (faults f.new.input) c.in-Err.error
          (rest_stops left faults first j.new.input f.new.input j.new.reading f.new.self f.ensures.reads c.keeps_limits.ensures c.keeps_limits-in-Err-Stopped.ensures (λ bytes. Stops (verdict bytes) why) halted c.in-Err.error (f.ensures.ended ∙ ap Some c.in-Err.is)));
      later = omega (arith, j.ensures.later, f.ensures.reads.later);
    }
