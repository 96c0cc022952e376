use Rattle.std.proofs.Common.{◌≡◌, ◌+◌, [], Ok, Err, Some, sym, ap, subst, ◌∙◌}
use Rattle.df_dossier.specs.declared.spent.SpentError.TheVariants as spent_error
use Rattle.df_dossier.specs.Spent.{spent, rest_from, StandsAt, GivesSpent, GoesOn}
use Rattle.df_dossier.specs.SpentStreams.{ReadsSpent}
use Rattle.df_dossier.proofs.StreamReads.{stops, ends, passes, read_more, no_memory, text_more}
use Rattle.df_dossier.proofs.StreamSteps.{end_says, stopped_early, end_refused, refused_as, says_more, refuses}
use Rattle.df_dossier.proofs.stream.read_spent_stream.Goals.{in-Ok, in-Err-end, in-Ok-rest, in-Err-rest}
use Rattle.df_dossier.proofs.stream.read_spent_stream.Goals as goal

-- the input ends
pub returns-in-Ok-false-clause-given : goal.returns-in-Ok-false-clause-given
returns-in-Ok-false-clause-given g c =
    let l = c.loop-stage in
    let n = c.next_line-read in
    let left = g.S.Source.left in
    let faults = g.S.Source.faults in
    let first = c.args.input.now in
    let nothing = n.ensures.none (c.in-Ok-false.is ∙ ap Ok c.in-Ok-false.field-0-test) in
    let said = c.end.ensures (l.reading.number + 1) l.invariant.2.place in
    let meant = end_says l.stage l.reading l.invariant.0 l.invariant.2 in
    elim c.match-end.branch [
      | in-Ok w ↦ subst (ReadsSpent (left first) (left n.new.input) (faults first) (faults n.new.input)) (sym w.result-is)
          (ends left faults first l.input n.new.input l.reading n.new.self l.invariant.0 l.invariant.1 n.ensures.reads c.keeps_limits.ensures nothing
          (λ bytes. spent bytes ≡ Ok w.in-Ok.spent)
          (sym meant ∙ subst (GivesSpent (rest_from l.stage (l.reading.number + 1) [])) w.in-Ok.is said))
      | in-Err-end w ↦ subst (ReadsSpent (left first) (left n.new.input) (faults first) (faults n.new.input)) (sym w.result-is)
          (end_refused left faults first l.input n.new.input l.reading n.new.self l.invariant.0 l.invariant.1 n.ensures.reads c.keeps_limits.ensures nothing w.in-Err-end.error
          (subst (λ m. GivesSpent m (Err w.in-Err-end.error)) meant (subst (GivesSpent (rest_from l.stage (l.reading.number + 1) [])) w.in-Err-end.is said)))
    ]

-- the reading stops
pub returns-in-Err-clause-given : goal.returns-in-Err-clause-given
returns-in-Err-clause-given g c =
    let l = c.loop-stage in
    let n = c.next_line-read in
    let left = g.S.Source.left in
    let faults = g.S.Source.faults in
    let first = c.args.input.now in
    subst (λ r. ReadsSpent (left first) (left n.new.input) (faults first) (faults n.new.input) (Err r)) (sym c.stopped.ensures)
    (stopped_early (left first) (left n.new.input) (faults first) (faults n.new.input) c.in-Err.error
    (stops left faults first l.input n.new.input l.reading n.new.self l.invariant.0 l.invariant.1 n.ensures.reads c.keeps_limits.ensures c.in-Err.error c.in-Err.ensures.refused))

-- a line more
pub loop-stage-preserved : goal.loop-stage-preserved
loop-stage-preserved g c =
    let l = c.loop-stage in
    let n = c.next_line-read in
    let left = g.S.Source.left in
    let faults = g.S.Source.faults in
    let first = c.args.input.now in
    let next = n.ensures.some (c.in-Ok-true.is ∙ ap Ok c.in-Ok-true.field-0-test) in
    let said = subst (GoesOn l.stage c.number.result c.line.result.now) c.in-Ok-line.is c.line-in-loop-stage.ensures.goes in
    let goes = subst (λ m. GoesOn l.stage m n.new.self.line (Ok c.in-Ok-line.next)) c.number.ensures (subst (λ line. GoesOn l.stage c.number.result line (Ok c.in-Ok-line.next)) c.line.ensures said) in
    let place = subst (λ m. StandsAt c.in-Ok-line.next (m + 1)) c.number.ensures c.in-Ok-line.ensures.place in (
      text_more left faults first l.input n.new.input l.reading n.new.self l.invariant.0 l.invariant.1 n.ensures.reads next,
      read_more left faults first l.input n.new.input l.reading n.new.self l.invariant.0 l.invariant.1 n.ensures.reads next,
      says_more left faults first l.input n.new.input l.reading n.new.self l.invariant.0 l.invariant.1 n.ensures.reads next l.stage c.in-Ok-line.next l.invariant.2 goes place,
    )

-- no memory was left
pub returns-in-Err-OutOfMemory-clause-given : goal.returns-in-Err-OutOfMemory-clause-given
returns-in-Err-OutOfMemory-clause-given g c =
    let l = c.loop-stage in
    let n = c.next_line-read in
    let next = n.ensures.some (c.in-Ok-true.is ∙ ap Ok c.in-Ok-true.field-0-test) in
    no_memory g.S.Source.left g.S.Source.faults c.args.input.now l.input n.new.input l.reading n.new.self l.invariant.0 l.invariant.1 n.ensures.reads next c.keeps_limits.ensures

-- a line is refused
pub returns-in-Err-Refused-clause-given : goal.returns-in-Err-Refused-clause-given
returns-in-Err-Refused-clause-given g c =
    let l = c.loop-stage in
    let n = c.next_line-read in
    let f = c.finish-rest in
    let e = c.in-Err-Refused in
    let left = g.S.Source.left in
    let faults = g.S.Source.faults in
    let first = c.args.input.now in
    let next = n.ensures.some (c.in-Ok-true.is ∙ ap Ok c.in-Ok-true.field-0-test) in
    let text = text_more left faults first l.input n.new.input l.reading n.new.self l.invariant.0 l.invariant.1 n.ensures.reads next in
    let read = read_more left faults first l.input n.new.input l.reading n.new.self l.invariant.0 l.invariant.1 n.ensures.reads next in
    let said = subst (GoesOn l.stage c.number.result c.line.result.now) (e.is ∙ ap Err e.field-0-is) c.line-in-loop-stage.ensures.goes in
    let goes = subst (λ m. GoesOn l.stage m n.new.self.line (Err (spent_error.Refused e.line e.fault))) c.number.ensures (subst (λ line. GoesOn l.stage c.number.result line (Err (spent_error.Refused e.line e.fault))) c.line.ensures said) in
    elim c.match-rest.branch [
      | in-Ok-rest w ↦ subst (ReadsSpent (left first) (left f.new.input) (faults first) (faults f.new.input)) (sym w.result-is)
          (refused_as (left first) (left f.new.input) (faults first) (faults f.new.input) e.line-is e.fault-is
          (passes left faults first n.new.input f.new.input n.new.self f.new.self text read f.ensures.reads c.keeps_limits.ensures c.keeps_limits-in-Err-Refused.ensures
          (f.ensures.ended ∙ ap Some w.in-Ok-rest.is)
          w.in-Ok-rest.ensures.end
          (λ bytes. GivesSpent (spent bytes) (Err (spent_error.Refused e.line e.fault)))
          (refuses left faults first l.input n.new.input l.reading n.new.self l.invariant.0 l.invariant.1 n.ensures.reads next l.stage e.line e.fault l.invariant.2 goes)))
      | in-Err-rest w ↦ subst (ReadsSpent (left first) (left f.new.input) (faults first) (faults f.new.input)) (sym w.result-is)
          (subst (λ r. ReadsSpent (left first) (left f.new.input) (faults first) (faults f.new.input) (Err r)) (sym w.stopped-in-Err-rest.ensures)
          (stopped_early (left first) (left f.new.input) (faults first) (faults f.new.input) w.in-Err-rest.error
          (stops left faults first n.new.input f.new.input n.new.self f.new.self text read f.ensures.reads c.keeps_limits-in-Err-Refused.ensures w.in-Err-rest.error (f.ensures.ended ∙ ap Some w.in-Err-rest.is))))
    ]
