use Rattle.std.proofs.Common.{◌+◌, Ok, sym, ap, subst, ◌∙◌}
use Rattle.df_dossier.proofs.StreamReads.{stops, read_more, text_more}
use Rattle.df_check.specs.declared.streams.Halt.TheVariants.{Early, Stopped}
use Rattle.df_check.specs.Openings.{standing_of, standing_after, IsPlaced}
use Rattle.df_check.proofs.InputSteps.{says_unfinished, opening_stops, opening_goes, opens_halted, end_halts, line_halts, says_more}
use Rattle.df_check.proofs.streams.open.Goals as goal

-- the reading stops
pub returns-in_err-next_line-clause-opened : goal.returns-in_err-next_line-clause-opened
returns-in_err-next_line-clause-opened g c =
    let l = c.loop-alloc in
    let n = c.next_line in
    let left = g.S.Source.left in
    let faults = g.S.Source.faults in
    let first = c.args.input.now in
    let e = c.in_err-next_line.field-0.0 in
    opens_halted left faults first n.new.reading n.new.input c.from_residual.result (Early e) c.from_residual.ensures.1
    (stops left faults first l.input n.new.input l.reading n.new.reading l.invariant.0 l.invariant.1 n.ensures.reads n.ensures.keeps e c.in_err-next_line.ensures.refused)

-- the input ends
pub returns-then-not-branch-clause-opened : goal.returns-then-not-branch-clause-opened
returns-then-not-branch-clause-opened g c =
    let l = c.loop-alloc in
    let n = c.next_line in
    let left = g.S.Source.left in
    let faults = g.S.Source.faults in
    let first = c.args.input.now in
    let says = says_unfinished l.opening l.reading l.invariant.0 (sym c.is_whole.ensures ∙ c.loop-alloc-test.true) l.invariant.2 in
    let nothing = n.ensures.none (c.in_ok-next_line.was ∙ ap Ok c.if-not-branch.true) in
    end_halts left faults first l.input n.new.input l.reading n.new.reading l.invariant.0 l.invariant.1 n.ensures.reads n.ensures.keeps nothing (standing_of l.opening) says c.end.result c.end.ensures

-- a line stops it
pub returns-in_err-opening-clause-opened : goal.returns-in_err-opening-clause-opened
returns-in_err-opening-clause-opened g c =
    let l = c.loop-alloc in
    let n = c.next_line in
    let left = g.S.Source.left in
    let faults = g.S.Source.faults in
    let first = c.args.input.now in
    let why = c.in_err-opening.field-0.0 in
    let says = says_unfinished l.opening l.reading l.invariant.0 (sym c.is_whole.ensures ∙ c.loop-alloc-test.true) l.invariant.2 in
    let next = n.ensures.some (c.in_ok-next_line.was ∙ ap Ok c.if-not-branch.false) in
    opens_halted left faults first n.new.reading n.new.input c.from_residual-in_err-opening.result (Stopped why) c.from_residual-in_err-opening.ensures.1
    (line_halts left faults first l.input n.new.input l.reading n.new.reading l.invariant.0 l.invariant.1 n.ensures.reads next (standing_of l.opening) says why
    (opening_stops (standing_of l.opening) c.number.ensures c.line.ensures c.line-in-loop-alloc.result why c.line-in-loop-alloc.ensures.goes c.in_err-opening.was))

-- a line more
pub loop-alloc-preserved : goal.loop-alloc-preserved
loop-alloc-preserved g c =
    let l = c.loop-alloc in
    let n = c.next_line in
    let left = g.S.Source.left in
    let faults = g.S.Source.faults in
    let first = c.args.input.now in
    let o = c.in_ok-opening.opening in
    let says = says_unfinished l.opening l.reading l.invariant.0 (sym c.is_whole.ensures ∙ c.loop-alloc-test.true) l.invariant.2 in
    let next = n.ensures.some (c.in_ok-next_line.was ∙ ap Ok c.if-not-branch.false) in (
      text_more left faults first l.input n.new.input l.reading n.new.reading l.invariant.0 l.invariant.1 n.ensures.reads next,
      read_more left faults first l.input n.new.input l.reading n.new.reading l.invariant.0 l.invariant.1 n.ensures.reads next,
      says_more left faults first l.input n.new.input l.reading n.new.reading l.invariant.0 l.invariant.1 n.ensures.reads next (standing_of l.opening) (standing_after o n.new.reading.number) says
          (opening_goes (standing_of l.opening) c.number.ensures c.line.ensures c.line-in-loop-alloc.result o c.line-in-loop-alloc.ensures.goes c.in_ok-opening.was),
      subst (λ n. IsPlaced o (n + 1)) c.number.ensures c.in_ok-opening.ensures.place,
    )
