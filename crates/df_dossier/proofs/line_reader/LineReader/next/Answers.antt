use Rattle.std.proofs.Common.{◌+◌, drop, sym, ap, ◌∙◌}
use Rattle.std.specs.List.{slice_range}
use Rattle.df_io.specs.Lines.{lines_of}
use Rattle.df_dossier.specs.Pieces.{pieces_from, rest_of}
use Rattle.df_dossier.proofs.PieceSteps.{piece_said, scan_is}
use Rattle.df_dossier.proofs.line_reader.LineReader.next.Goals as goal

pub returns-in-Some-line : goal.returns-in-Some-line
returns-in-Some-line c =
    let l = c.loop-line in
    let input = l.self-inside.input.now in
    let a = l.self-inside.judge.awaits in
    let n = l.self-inside.lines.number in
    let line = c.in-Some.line in
    let text = slice_range input line.start line.end in
    let lines = lines_of (drop c.next.new.self.at input) in
    let split = rw l.invariant.0 at c.in-Some.ensures.line in
    let whole = ap (pieces_from a (n + 1)) (sym split) ∙ l.invariant.2 in
    let is = piece_said a c.line.new.self.awaits (n + 1) text lines c.in-Some-line.piece c.args.self.now.rest l.invariant.1 (c.line.ensures.piece ∙ c.in-Some-line.is) c.line.ensures.next whole in
    let number = c.in-Some.ensures.number in record {
      piece = sym is.piece;
      read = scan_is
          (number.0 ∙ sym is.number_is)
          (sym is.text_is)
          (ap (λ m. rest_of c.line.new.self.awaits line.number text (m + 1) lines) number.1
          ∙ ap (λ m. rest_of c.line.new.self.awaits m text (m + 1) lines) number.0
          ∙ sym is.rest_is);
    }
