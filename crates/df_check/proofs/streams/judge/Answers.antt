use Rattle.std.proofs.Common.{◌≡◌, Ok, sym, ap, subst, ◌∙◌}
use mathlib.Core.Logic.{inl}
use Rattle.df_dossier.proofs.StreamReads.{stops, ends, read_more, text_more}
use Rattle.df_check.specs.declared.stop.Stop.TheVariants.{OutOfMemory}
use Rattle.df_check.specs.declared.streams.Halt.TheVariants.{Early, Stopped}
use Rattle.df_check.specs.Inputs.{IsOpened, Opens}
use Rattle.df_check.specs.Judging.{at_end, verdict}
use Rattle.df_check.specs.Stops.{Gives}
use Rattle.df_check.proofs.InputSteps.{chain_says, chain_stops, chain_moves, judges_halted, end_says, end_halts, line_halts, says_more}
use Rattle.df_check.proofs.streams.judge.Goals as goal

-- no memory for the chain
pub returns-in_err-chain-clause-judged : goal.returns-in_err-chain-clause-judged
returns-in_err-chain-clause-judged g c =
    let left = g.S.Source.left in
    let faults = g.S.Source.faults in
    let first = c.args.input.now in
    let o : IsOpened left faults first c.open.new.reading c.open.new.input c.in_ok-opening.opening = subst (Opens left faults first c.open.new.reading c.open.new.input) c.in_ok-opening.was c.open.ensures.opened in
    judges_halted left faults first c.open.new.reading c.open.new.input c.from_residual-in_err-chain.result (Stopped OutOfMemory) c.from_residual-in_err-chain.ensures.1 (inl (o.text, o.read, λ rest none. tt))

-- the chain begins
pub loop-chain-init : goal.loop-chain-init
loop-chain-init g c =
    let left = g.S.Source.left in
    let faults = g.S.Source.faults in
    let first = c.args.input.now in
    let o : IsOpened left faults first c.open.new.reading c.open.new.input c.in_ok-opening.opening = subst (Opens left faults first c.open.new.reading c.open.new.input) c.in_ok-opening.was c.open.ensures.opened in (
      o.text,
      o.read,
      chain_says c.in_ok-opening.opening c.open.new.reading o.text c.in_ok-matrix.matrix c.in_ok-chain.chain c.number.result c.matrix.result o.whole c.number.ensures c.matrix.ensures c.in_ok-matrix.was c.in_ok-chain.ensures o.says,
    )

-- the reading stops
pub returns-in_err-next_line-clause-judged : goal.returns-in_err-next_line-clause-judged
returns-in_err-next_line-clause-judged g c =
    let l = c.loop-chain in
    let n = c.next_line in
    let left = g.S.Source.left in
    let faults = g.S.Source.faults in
    let first = c.args.input.now in
    let e = c.in_err-next_line.field-0.0 in
    judges_halted left faults first n.new.reading n.new.input c.from_residual-in_err-next_line.result (Early e) c.from_residual-in_err-next_line.ensures.1
    (stops left faults first l.input n.new.input l.reading n.new.reading l.invariant.0 l.invariant.1 n.ensures.reads n.ensures.keeps e c.in_err-next_line.ensures.refused)

-- a line more
pub loop-chain-preserved : goal.loop-chain-preserved
loop-chain-preserved g c =
    let l = c.loop-chain in
    let n = c.next_line in
    let left = g.S.Source.left in
    let faults = g.S.Source.faults in
    let first = c.args.input.now in
    let moved = c.line-in-loop-chain in
    let next = n.ensures.some (c.in_ok-next_line.was ∙ ap Ok c.if-branch.true) in (
      text_more left faults first l.input n.new.input l.reading n.new.reading l.invariant.0 l.invariant.1 n.ensures.reads next,
      read_more left faults first l.input n.new.input l.reading n.new.reading l.invariant.0 l.invariant.1 n.ensures.reads next,
      says_more left faults first l.input n.new.input l.reading n.new.reading l.invariant.0 l.invariant.1 n.ensures.reads next l.chain (Ok moved.new.self) l.invariant.2
          (chain_moves l.chain c.number-in-loop-chain.ensures c.line.ensures moved.new.self moved.result c.in_ok-line.field-0 moved.ensures c.in_ok-line.was),
    )

-- a line stops it
pub returns-in_err-line-clause-judged : goal.returns-in_err-line-clause-judged
returns-in_err-line-clause-judged g c =
    let l = c.loop-chain in
    let n = c.next_line in
    let left = g.S.Source.left in
    let faults = g.S.Source.faults in
    let first = c.args.input.now in
    let moved = c.line-in-loop-chain in
    let why = c.in_err-line.field-0.0 in
    let next = n.ensures.some (c.in_ok-next_line.was ∙ ap Ok c.if-branch.true) in
    judges_halted left faults first n.new.reading n.new.input c.from_residual-in_err-line.result (Stopped why) c.from_residual-in_err-line.ensures.1
    (line_halts left faults first l.input n.new.input l.reading n.new.reading l.invariant.0 l.invariant.1 n.ensures.reads next l.chain l.invariant.2 why
    (chain_stops l.chain c.number-in-loop-chain.ensures c.line.ensures moved.new.self moved.result why moved.ensures c.in_err-line.was))

-- the input ends where it may not
pub returns-in_err-end-clause-judged : goal.returns-in_err-end-clause-judged
returns-in_err-end-clause-judged g c =
    let l = c.loop-chain in
    let n = c.next_line in
    let left = g.S.Source.left in
    let faults = g.S.Source.faults in
    let first = c.args.input.now in
    let why = c.in_err-end.field-0.0 in
    let nothing = n.ensures.none (c.in_ok-next_line.was ∙ ap Ok c.if-branch.false) in
    judges_halted left faults first n.new.reading n.new.input c.from_residual-in_err-end.result (Stopped why) c.from_residual-in_err-end.ensures.1
    (end_halts left faults first l.input n.new.input l.reading n.new.reading l.invariant.0 l.invariant.1 n.ensures.reads n.ensures.keeps nothing l.chain l.invariant.2 why (subst (Gives (at_end l.chain)) c.in_err-end.was c.end.ensures))

-- the input ends
pub returns-clause-judged : goal.returns-clause-judged
returns-clause-judged g c =
    let l = c.loop-chain in
    let n = c.next_line in
    let left = g.S.Source.left in
    let faults = g.S.Source.faults in
    let first = c.args.input.now in
    let designs = c.in_ok-end.field-0 in
    let nothing = n.ensures.none (c.in_ok-next_line.was ∙ ap Ok c.if-branch.false) in
    ends left faults first l.input n.new.input l.reading n.new.reading l.invariant.0 l.invariant.1 n.ensures.reads n.ensures.keeps nothing (λ bytes. verdict bytes ≡ Ok designs)
    (sym (end_says l.chain l.reading l.invariant.0 l.invariant.2) ∙ subst (Gives (at_end l.chain)) c.in_ok-end.was c.end.ensures)
