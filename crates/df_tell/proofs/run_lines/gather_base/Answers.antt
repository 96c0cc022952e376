use Rattle.df_tell.specs.Run.{design_line}
use Rattle.df_tell.proofs.GatheredTexts.{gathers_put, gathers_then, gathers_stopped, gathers_stopped_then}
use Rattle.df_tell.proofs.run_lines.gather_base.Goals as goal

pub returns-in_err-make_room : goal.returns-in_err-make_room
unfolding design_line
returns-in_err-make_room g c = gathers_stopped _ c.in_err-make_room.ensures.same c.from_residual.ensures.0

pub returns-in_err-gather_pieces : goal.returns-in_err-gather_pieces
unfolding design_line
returns-in_err-gather_pieces g c =
    gathers_stopped_then _ (gathers_then c.in_ok-make_room.ensures.same (gathers_put c.put_design_start.ensures.text)) c.in_err-gather_pieces.ensures c.from_residual-in_err-gather_pieces.ensures.0

pub returns-in_err-make_room-2 : goal.returns-in_err-make_room-2
unfolding design_line
returns-in_err-make_room-2 g c =
    gathers_then (gathers_then c.in_ok-make_room.ensures.same (gathers_put c.put_design_start.ensures.text))
    (gathers_stopped_then _ c.in_ok-gather_pieces.ensures c.in_err-make_room-2.ensures.same c.from_residual-in_err-make_room-2.ensures.0)

pub returns : goal.returns
unfolding design_line
returns g c =
    gathers_then (gathers_then c.in_ok-make_room.ensures.same (gathers_put c.put_design_start.ensures.text))
    (gathers_then c.in_ok-gather_pieces.ensures (gathers_then c.in_ok-make_room-2.ensures.same (gathers_put c.push.ensures.items)))
